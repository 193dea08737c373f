-- Indices of names after a name is bound, freed or indexed.
use Rattle.std.proofs.Common.{◌≡◌, ℕ, ◌&&◌, ◌||◌, Bool, true, false, List, Option, None, Some, Result, Ok, Err, OnOk, OnErr, cond, option_map, refl, sym, ap, subst, ◌∙◌, nat_cmp}
use Rattle.std.specs.Global.{Global}
use Rattle.std.specs.Prelude.{is_some}
use Rattle.std.specs.BTreeMap.{BTreeMap, get_by_text, IsUnchanged}
use Rattle.std.specs.Cmp.Lexicographic.{slice_cmp}
use Rattle.std.specs.Map.{lookup}
use Rattle.std.specs.Ordering.{is_eq}
use Rattle.std.specs.Str.{bytes_eq}
use Rattle.std.specs.String.{string_bytes}
use Rattle.std.specs.declared.string.String.{String}
use Rattle.std.proofs.lemmas.Bool.{false_from_ne_true, true≢false}
use Rattle.std.proofs.lemmas.Slice.Eq.{bytes_eq-Decides}
use Rattle.cp_strset.specs.StringSet.{StringSet}
use Rattle.cp_strset_terms.specs.Numbers.{Grows, KeepsNumbers}
use Rattle.uset_grammar.specs.Tree.{Member, string}
use Rattle.uset_gather.specs.Gathered.{in_set}
use Rattle.uset_variables.specs.declared.index.Index.{Index}
use Rattle.uset_variables.specs.declared.value.KeptValue.{KeptValue}
use Rattle.uset_variables.specs.declared.value.VariableValue.{VariableValue}
use Rattle.uset_variables.specs.Numbered.{value_at, value_in, some_indexed_set, GrowsWithin, IsIndexOf, AreIndices}
use Rattle.uset_variables.proofs.VariableLemmas.{value_among}

-- the values by name
abbrev pub Values : Type 0
Values = BTreeMap (String Global) KeptValue

-- the indices by name
abbrev pub Indices : Type 0
Indices = BTreeMap (String Global) Index

-- where the strings of a set get numbers, they are those of a value with the same members
pub grown_within : (set : StringSet) (value : VariableValue) (old new : List (List ℕ)) → Grows set.strings old new → ((m : Member) → in_set set m ≡ value_in value m) → GrowsWithin (Some value) old new
grown_within set value old new grown same = record {
  more = grown.more;
  is = grown.is;
  theirs = λ bytes held. sym (same (string bytes)) ∙ grown.theirs bytes held;
}

-- what holds after success and after a refusal holds in any case
pub after_either : {T E P Q R : Type 0} (r : Result T E) → OnOk r P → OnErr r Q → (P → R) → (Q → R) → R
after_either (Ok x) p q on_ok on_err = on_ok p
after_either (Err e) p q on_ok on_err = on_err q

-- where one key is updated, the others keep their values
pub others_keep : (key : List ℕ) (old new : Values) (w : Option KeptValue) → ((name : List ℕ) → get_by_text new name ≡ cond (bytes_eq key name) w (get_by_text old name)) → (name : List ℕ) → bytes_eq key name ≡ false → value_at new name ≡ value_at old name
others_keep key old new w updates name differ = ap (λ kept. option_map (λ k. k.value) kept) (updates name ∙ ap (λ b. cond b w (get_by_text old name)) differ)

-- where the entries stay, all keys keep their values
pub all_keep : (old new : Values) → IsUnchanged old new → (name : List ℕ) → value_at new name ≡ value_at old name
all_keep old new same name = ap (λ entries. value_among entries name) same

-- where something is found after a removal, it was there, and what was removed is another
other : {A : Type 0} (b : Bool) (o : Option A) (x : A) → cond b None o ≡ Some x → (b ≡ false) × (o ≡ Some x)
other true o x found = (cc, cc)
other false o x found = (refl, found)

-- an index is that of an equal value
index_of_equal : (strings : List (List ℕ)) (v w : Option VariableValue) (index : Index) → w ≡ v → IsIndexOf strings v index → IsIndexOf strings w index
index_of_equal strings v w index same is = subst (λ value. IsIndexOf strings value index) (sym same) is

-- a name that is bound to nothing has no index, so that it may be bound to anything
module _ (key : List ℕ) (old new : Values) (strings : List (List ℕ)) (indices : Indices) where
  pub indices_beside : AreIndices old strings indices → value_at old key ≡ None → ((name : List ℕ) → bytes_eq key name ≡ false → value_at new name ≡ value_at old name) → AreIndices new strings indices
  indices_beside indexed free keep name index found = index_of_equal strings (value_at old name) (value_at new name) index (keep name apart) (indexed name index found)
    where
      apart : bytes_eq key name ≡ false
      apart = false_from_ne_true (bytes_eq key name)
          (λ same. true≢false (sym (indexed name index found).indexed ∙ ap (λ value. is_some (some_indexed_set value index)) (ap (value_at old) (sym ((bytes_eq-Decides key name).0 same)) ∙ free)))

-- once a name has no index, it may be bound to anything
module _ (key : List ℕ) (old new : Values) (strings : List (List ℕ)) (before after : Indices) where
  pub indices_of_others : AreIndices old strings before → ((name : List ℕ) → get_by_text after name ≡ cond (bytes_eq key name) None (get_by_text before name)) → ((name : List ℕ) → bytes_eq key name ≡ false → value_at new name ≡ value_at old name) → AreIndices new strings after
  indices_of_others indexed freed keep name index found =
      let there = other (bytes_eq key name) (get_by_text before name) index (sym (freed name) ∙ found) in
      index_of_equal strings (value_at old name) (value_at new name) index (keep name there.0) (indexed name index there.1)

-- an index stays that of its value where more strings have numbers
index_kept : (old new : List (List ℕ)) (v : Option VariableValue) (index : Index) → KeepsNumbers old new → IsIndexOf old v index → IsIndexOf new v index
index_kept old new v index keeps is = record {
  indexed = is.indexed;
  members = is.members;
  theirs = λ set at. keeps set.strings index.numbers (is.theirs set at);
}

pub indices_kept : (values : Values) (old new : List (List ℕ)) (indices : Indices) → KeepsNumbers old new → AreIndices values old indices → AreIndices values new indices
indices_kept values old new indices keeps indexed name index found = index_kept old new (value_at values name) index keeps (indexed name index found)

-- the indices stay
pub indices_unchanged : (values : Values) (strings : List (List ℕ)) (before after : Indices) → IsUnchanged before after → AreIndices values strings before → AreIndices values strings after
indices_unchanged values strings before after same indexed name index found =
    indexed name index (sym (ap (λ entries. lookup (λ k. is_eq (slice_cmp nat_cmp name (string_bytes k))) entries) same) ∙ found)

-- one more name has an index
module _ (key : List ℕ) (values : Values) (strings : List (List ℕ)) (before after : Indices) (added : Index) where
  pub indices_of_one_more : AreIndices values strings before → IsIndexOf strings (value_at values key) added → ((name : List ℕ) → get_by_text after name ≡ cond (bytes_eq key name) (Some added) (get_by_text before name)) → AreIndices values strings after
  indices_of_one_more indexed is updates name index found = by (bytes_eq key name) refl (sym (updates name) ∙ found)
    where
      by : (b : Bool) → bytes_eq key name ≡ b → cond b (Some added) (get_by_text before name) ≡ Some index → IsIndexOf strings (value_at values name) index
      by true same at =
          let one : added ≡ index = cc in
          subst (λ n. IsIndexOf strings (value_at values n) index) ((bytes_eq-Decides key name).0 same) (subst (IsIndexOf strings (value_at values key)) one is)
      by false differ at = indexed name index at

-- where a value is put at a name, some value is there exactly where it is that name or some value was there
pub is_some-cond : {A B : Type 0} (f : A → B) (here many : Bool) (x : A) (old : Option A) → many ≡ true → is_some (option_map f (cond here (Some x) old)) ≡ ((here && many) || is_some (option_map f old))
is_some-cond f true many x old h = sym (ap (λ m. m || is_some (option_map f old)) h)
is_some-cond f false many x old h = refl
