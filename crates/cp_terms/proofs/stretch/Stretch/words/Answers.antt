use Rattle.std.proofs.Common.{◌∙◌, sym, refl}
use Rattle.std.proofs.lemmas.Option.{slice_get_read, IfSome_then}
use Rattle.cp_terms.proofs.TermsLemmas.{holds_at-reference}
use Rattle.cp_terms.proofs.stretch.Stretch.words.Goals as goal

pub returns : goal.returns
returns c =
    let stretch = c.args.self.now in
    let lookup = c.in_ok-get.ensures.lookup in
    IfSome_then c.stretch_words.result c.stretch_words.ensures
    (λ words is i j short h.
    is i j short h ∙ sym (holds_at-reference stretch.sets.now _ c.args.index c.in_ok-get.field-0.now (slice_get_read stretch.sets.now _ c.args.index c.in_ok-get.field-0.now refl lookup.3.0 lookup.1)))
