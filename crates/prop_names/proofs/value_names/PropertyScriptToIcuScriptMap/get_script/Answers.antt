use Rattle.std.proofs.Common.{◌≡◌, ◌↔◌, ℕ, Bool, true, false, cond, List, Option, Some, None, IsSome, IfSome, refl, sym, ◌∙◌}
use Rattle.prop_values.specs.Subtag.{is_four_letters, in_subtag_case}
use Rattle.prop_names.specs.ValueNames.{subtag_of}
use Rattle.prop_names.proofs.value_names.PropertyScriptToIcuScriptMap.get_script.Goals as goal

told : (found : Option (List ℕ)) (text : List ℕ) → (IsSome found ↔ (is_four_letters text ≡ true)) → IfSome found (λ tag. tag ≡ in_subtag_case text) → subtag_of text ≡ Some text → found ≡ Some text
told (Some tag) text some letters each = by (is_four_letters text) each
  where
    by : (b : Bool) → cond b (Some (in_subtag_case text)) None ≡ Some text → Some tag ≡ Some text
    by true e = let same = letters in cc
    by false e = absurd (let g = e in cc)
told None text some letters each = by (is_four_letters text) refl each
  where
    by : (b : Bool) → is_four_letters text ≡ b → cond b (Some (in_subtag_case text)) None ≡ Some text → None ≡ Some text
    by true is e = absurd (let there = some.1 is in cc)
    by false is e = e

pub returns : goal.returns
returns c =
    let text = c.in_ok-get.field-0.now in
    told c.try_from_str.result text c.try_from_str.ensures.some c.try_from_str.ensures.letters (c.args.self.now.each c.args.prop text (sym c.in_ok-get.ensures.value))
    ∙ c.in_ok-get.ensures.value
