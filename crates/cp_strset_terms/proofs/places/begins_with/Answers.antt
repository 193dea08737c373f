use Rattle.std.proofs.Common.{sym, ap, ◌∙◌}
use Rattle.std.specs.Str.{bytes_eq}
use Rattle.cp_strset_terms.proofs.CutLemmas.{holds-front}
use Rattle.cp_strset_terms.proofs.places.begins_with.Goals as goal

pub returns-in-Some : goal.returns-in-Some
returns-in-Some c =
    let text = c.args.text.now in
    c.eq.ensures
    ∙ (ap (λ s. bytes_eq s text) c.as_str.ensures.value
    ∙ sym (holds-front c.args.strings.now c.in-Some.first.now text c.requires.canonical.ascending c.requires.behind (sym c.in-Some.ensures.value)))
