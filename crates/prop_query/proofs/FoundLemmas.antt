-- What was found for numbers of the table of scripts.
use Rattle.std.proofs.Common.{◌≡◌, ◌≢◌, ◌<◌, ℕ, Bool, true, false, List, Option, Some, None, nat_eq, eqb-true, length, get_or, replicate, slice_set, refl, subst, sym, ap, ◌∙◌}
use Rattle.std.specs.List.{slice_get}
use Rattle.std.specs.Option.{unwrap_or}
use Rattle.std.proofs.lemmas.Bool.{eqb-false}
use Rattle.std.proofs.lemmas.Grind.{get_or-set_at}
use Rattle.std.proofs.lemmas.List.{get_or-replicate, get_or-set_other, length-replicate, length-set}
use Rattle.std.proofs.lemmas.Option.{get_or_from_slice_get, slice_get_within, slice_get-get_or}
use Rattle.prop_data.specs.declared.scripts.ScriptWithExtensionsProperty.{ScriptWithExtensionsProperty}
use Rattle.prop_query.specs.Found.{AreFound}
use Rattle.prop_query.specs.Scripts.{number_has}

-- nothing is found at first
pub AreFound-none : (table : ScriptWithExtensionsProperty) (script count : ℕ) → AreFound table script (replicate count None)
AreFound-none table script count = λ number has at.
    let within : number < count = subst (λ n. number < n) (length-replicate count None) (slice_get_within (replicate count None) number (Some has) at) in
    let none : None ≡ Some has = sym (get_or-replicate count number None None within) ∙ get_or_from_slice_get (replicate count None) number (Some has) None at in
    absurd (let h = none in cc)

-- one more is found
pub AreFound-set : (table : ScriptWithExtensionsProperty) (script : ℕ) (found : List (Option Bool)) (place : ℕ) (has : Bool) →
    AreFound table script found → number_has table script place ≡ has → AreFound table script (slice_set found place (Some has))
AreFound-set table script found place has right is = λ number b at. by_place number b at (nat_eq number place) refl
  where
    after : List (Option Bool)
    after = slice_set found place (Some has)

    within : (number : ℕ) (b : Bool) → slice_get after number ≡ Some (Some b) → number < length found
    within number b at = subst (λ n. number < n) (length-set found place (Some has)) (slice_get_within after number (Some b) at)

    by_place : (number : ℕ) (b : Bool) → slice_get after number ≡ Some (Some b) → (same : Bool) → nat_eq number place ≡ same → number_has table script number ≡ b
    by_place number b at true same =
        let one : number ≡ place = eqb-true number place same in
        let kept : Some has ≡ Some b =
        sym (get_or-set_at found place number (Some has) None one (subst (λ n. n < length found) one (within number b at))) ∙ get_or_from_slice_get after number (Some b) None at in
        ap (number_has table script) one ∙ (is ∙ ap (λ o. unwrap_or o b) kept)
    by_place number b at false other =
        let apart : number ≢ place = eqb-false number place other in
        let kept : get_or found number None ≡ Some b = sym (get_or-set_other found place number (Some has) None apart) ∙ get_or_from_slice_get after number (Some b) None at in
        right number b (slice_get-get_or found number None (within number b at) ∙ ap (λ (o : Option Bool). Some o) kept)
