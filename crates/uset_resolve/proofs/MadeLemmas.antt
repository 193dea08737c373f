-- The lists that are kept, and one more.
use Rattle.std.proofs.Common.{◌≡◌, ℕ, true, List, Some, sym, ap, subst, ◌∙◌, inl, inr}
use Rattle.std.specs.Global.{Global}
use Rattle.std.specs.declared.rc.Rc.{Rc}
use Rattle.std.specs.Ordering.{is_eq, nat_cmp}
use Rattle.std.specs.Cmp.{tied_then, Equal-is}
use Rattle.std.specs.BTreeMap.{BTreeMap, get, Updates}
use Rattle.std.specs.FinMap.{nat_cmp-IsAntisymmetric}
use Rattle.std.proofs.lemmas.Bool.{cases_Bool, cond-true, cond-false, and_parts}
use Rattle.std.proofs.lemmas.Option.{same_Some}
use Rattle.prop_data.specs.Tables.{Tables}
use Rattle.uset_resolve.specs.declared.resolver.Origin.{Origin}
use Rattle.uset_resolve.specs.declared.resolver.Origin.TheVariants.{Group, Extension, Value}
use Rattle.uset_resolve.specs.Made.{origin_cmp, of_origin, AreMade}
use Rattle.uset_resolve.specs.Sources.{HasSource}

-- origins that compare equal are the same
same_number : (m n : ℕ) → is_eq (nat_cmp m n) ≡ true → m ≡ n
same_number m n h = nat_cmp-IsAntisymmetric m n ((Equal-is (nat_cmp m n)).0 h)

same_origin : (a b : Origin) → is_eq (origin_cmp a b) ≡ true → a ≡ b
same_origin (Group m) (Group n) h = ap Group (same_number m n h)
same_origin (Extension m) (Extension n) h = ap Extension (same_number m n h)
same_origin (Value t m) (Value u n) h =
    let both = and_parts (is_eq (nat_cmp t u)) (is_eq (nat_cmp m n)) (tied_then (nat_cmp t u) (nat_cmp m n) ∙ h) in
    λ i. Value (same_number t u both.0 i) (same_number m n both.1 i)
same_origin (Group m) (Extension n) h = absurd (let e = h in cc)
same_origin (Group m) (Value u n) h = absurd (let e = h in cc)
same_origin (Extension m) (Group n) h = absurd (let e = h in cc)
same_origin (Extension m) (Value u n) h = absurd (let e = h in cc)
same_origin (Value t m) (Group n) h = absurd (let e = h in cc)
same_origin (Value t m) (Extension n) h = absurd (let e = h in cc)

-- A list that has the code points of its origin can be kept.
pub keeps_made : (tables : Tables) (origin : Origin) (list : Rc (List ℕ) Global) (old new : BTreeMap Origin (Rc (List ℕ) Global)) →
    AreMade tables old → HasSource list.value (of_origin tables origin) → Updates origin_cmp old new origin (Some list) → AreMade tables new
keeps_made tables origin list old new made is updates other kept there = elim (cases_Bool (is_eq (origin_cmp origin other))) [
  | inl it ↦
      let same = same_Some list kept (sym (cond-true (is_eq (origin_cmp origin other)) (Some list) (get origin_cmp old other) it) ∙ (sym (updates.0 other) ∙ there)) in
      subst (λ o. HasSource kept.value (of_origin tables o)) (same_origin origin other it) (subst (λ k. HasSource k.value (of_origin tables origin)) same is)
  | inr it ↦ made other kept (sym (cond-false (is_eq (origin_cmp origin other)) (Some list) (get origin_cmp old other) it) ∙ (sym (updates.0 other) ∙ there))
]
