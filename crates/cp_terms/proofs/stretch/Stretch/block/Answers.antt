use Rattle.std.proofs.Common.{◌∙◌, sym, refl}
use Rattle.std.proofs.lemmas.Option.{slice_get_read}
use Rattle.cp_terms.proofs.TermsLemmas.{holds_at-reference, holds_at-past}
use Rattle.cp_terms.proofs.BlockLemmas.{empty_has}
use Rattle.cp_terms.proofs.stretch.Stretch.block.Goals as goal

pub returns-in-Some-get : goal.returns-in-Some-get
returns-in-Some-get c = λ i j short h.
    let sets = c.args.self.now.sets.now in
    let set = c.in-Some-get.set.now in
    let lookup = c.in-Some-get.ensures.lookup in
    c.read_block.ensures i j short h ∙ sym (holds_at-reference sets _ c.args.index set (slice_get_read sets _ c.args.index set refl lookup.3.0 lookup.1))

pub returns-in-None : goal.returns-in-None
returns-in-None c = λ i j short h. empty_has i j short ∙ sym (holds_at-past c.args.self.now.sets.now _ c.args.index c.in-None.ensures.lookup.3)
