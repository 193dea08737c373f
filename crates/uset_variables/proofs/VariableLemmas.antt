-- Maps of variables after one name is bound or freed, and while they are copied.
use Rattle.std.proofs.Common.{◌≡◌, ℕ, Bool, true, false, List, ◌∷◌, Option, Some, cond, option_map, refl, sym, ap, subst, ◌∙◌, nat_cmp}
use Rattle.std.specs.Global.{Global}
use Rattle.std.specs.BTreeMap.{BTreeMap, get}
use Rattle.std.specs.Cmp.Lexicographic.{slice_cmp}
use Rattle.std.specs.Map.{lookup}
use Rattle.std.specs.Ordering.{is_eq}
use Rattle.std.specs.Option.{option_or}
use Rattle.std.specs.Str.{bytes_eq}
use Rattle.std.specs.String.{string_bytes, string_cmp}
use Rattle.std.specs.declared.string.String.{String}
use Rattle.std.proofs.lemmas.Bool.{false_from_ne_true, true≢false}
use Rattle.std.proofs.lemmas.Map.Text.{is_eq-slice_cmp}
use Rattle.std.proofs.lemmas.Slice.Eq.{bytes_eq-Decides}
use Rattle.uset_variables.specs.declared.value.KeptValue.{KeptValue}
use Rattle.uset_variables.specs.declared.value.VariableValue.{VariableValue}
use Rattle.uset_variables.specs.Numbered.{value_at}

pub option_map-cond : {A B : Type 0} (f : A → B) (b : Bool) (x y : Option A) → option_map f (cond b x y) ≡ cond b (option_map f x) (option_map f y)
option_map-cond f true x y = refl
option_map-cond f false x y = refl

-- what the name is bound to among entries
abbrev pub value_among : List (String Global × KeptValue) → List ℕ → Option VariableValue
value_among entries name = option_map (λ kept. kept.value) (lookup (λ k. is_eq (slice_cmp nat_cmp name (string_bytes k))) entries)

-- the copy lacks at most what these entries bind
abbrev pub IsCopiedUpTo : BTreeMap (String Global) KeptValue → BTreeMap (String Global) KeptValue → List (String Global × KeptValue) → Type 0
IsCopiedUpTo values copied rest = (name : List ℕ) → value_at values name ≡ option_or (value_at copied name) (value_among rest name)

apart : (key name : List ℕ) → bytes_eq key name ≡ false → is_eq (slice_cmp nat_cmp name key) ≡ false
apart key name differ = is_eq-slice_cmp name key ∙ false_from_ne_true (bytes_eq name key) (λ same. true≢false (sym ((bytes_eq-Decides key name).1 (sym ((bytes_eq-Decides name key).0 same))) ∙ differ))

-- one more entry is copied
module _ (values old new : BTreeMap (String Global) KeptValue) (key : String Global) (kept : KeptValue) (rest : List (String Global × KeptValue)) (name : List ℕ) where
  pub copied_one : IsCopiedUpTo values old ((key, kept) ∷ rest) → get string_cmp values key ≡ Some kept → name ≡ string_bytes key →
      ((at : List ℕ) → value_at new at ≡ cond (bytes_eq name at) (Some kept.value) (value_at old at)) → IsCopiedUpTo values new rest
  copied_one before found same_name updates at = by_name (bytes_eq name at) refl
    where
      by_name : (b : Bool) → bytes_eq name at ≡ b → value_at values at ≡ option_or (value_at new at) (value_among rest at)
      by_name true same =
          ap (value_at values) (sym (sym same_name ∙ (bytes_eq-Decides name at).0 same)) ∙ ap (λ o. option_map (λ k. k.value) o) found
          ∙ sym (ap (λ o. option_or o (value_among rest at)) (updates at ∙ ap (λ b. cond b (Some kept.value) (value_at old at)) same))
      by_name false differ =
          before at
          ∙ ap (λ b. option_or (value_at old at) (option_map (λ k. k.value) (cond b (Some kept) (lookup (λ k. is_eq (slice_cmp nat_cmp at (string_bytes k))) rest)))) (apart (string_bytes key) at (subst (λ text. bytes_eq text at ≡ false) same_name differ))
          ∙ sym (ap (λ o. option_or o (value_among rest at)) (updates at ∙ ap (λ b. cond b (Some kept.value) (value_at old at)) differ))
