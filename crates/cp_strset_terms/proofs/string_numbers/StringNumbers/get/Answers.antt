use Rattle.std.proofs.Common.{sym, subst, ◌∙◌}
use Rattle.cp_strset_terms.specs.Places.{IsAt}
use Rattle.cp_strset_terms.proofs.string_numbers.StringNumbers.get.Goals as goal

pub returns : goal.returns
returns c = λ number.
    let text = c.args.text.now in
    let found = c.copied.ensures ∙ c.get.ensures.value in
    let stands = c.self.invariant.found text number in (
      λ is. subst (λ all. IsAt all number text) c.self.view_is (stands.0 (sym found ∙ is)),
      λ at. found ∙ stands.1 (subst (λ all. IsAt all number text) (sym c.self.view_is) at),
    )
