-- Numbers of the strings of what names are bound to.
use Rattle.std.specs.Prelude.{◌≡◌, ℕ, Bool, true, false, nat_le, List, ◌++◌, length, Option, None, Some, option_map, is_some}
use Rattle.std.specs.BTreeMap.{BTreeMap, get_by_text}
use Rattle.std.specs.Global.{Global}
use Rattle.std.specs.Option.{option_or}
use Rattle.std.specs.declared.string.String.{String}
use Rattle.cp_strset.specs.StringList.{holds}
use Rattle.cp_strset.specs.StringSet.{StringSet, has_many_strings}
use Rattle.cp_strset_terms.specs.Numbers.{AreNumbersOf}
use Rattle.uset_grammar.specs.Tree.{Member, string}
use Rattle.uset_gather.specs.Gathered.{in_set, is_string}
use Rattle.uset_variables.specs.declared.index.Index.{Index}
use Rattle.uset_variables.specs.declared.value.KeptValue.{KeptValue}
use Rattle.uset_variables.specs.declared.value.VariableValue.{VariableValue}
use Rattle.uset_variables.specs.declared.value.VariableValue.TheVariants.{UnicodeSet, Char, String as Spelled}

-- the value at the name with these bytes
abbrev pub value_at : BTreeMap (String Global) KeptValue → List ℕ → Option VariableValue
value_at values name = option_map (λ kept. kept.value) (get_by_text values name)

-- the value is a set that has the member, or a string that is the member
abbrev pub value_in : VariableValue → Member → Bool
value_in (UnicodeSet set) m = in_set set m
value_in (Spelled s) m = is_string s m
value_in (Char c) m = false

-- the same where there is a value
abbrev pub some_value_in : Option VariableValue → Member → Bool
some_value_in None m = false
some_value_in (Some value) m = value_in value m

-- more strings have numbers, each of them one that the value has
pub record GrowsWithin (value : Option VariableValue) (old new : List (List ℕ)) : Type 0 where
  pub more : List (List ℕ)
  pub is : new ≡ old ++ more
  pub theirs : (bytes : List ℕ) → holds more bytes ≡ true → some_value_in value (string bytes) ≡ true

-- a set gets numbers by its strings, and a string by its bytes
abbrev pub gets_numbers : VariableValue → Bool
gets_numbers (UnicodeSet set) = has_many_strings set.strings
gets_numbers (Spelled s) = nat_le 4096 (length s)
gets_numbers (Char c) = false

-- whether there is a value that gets numbers
abbrev pub some_gets_numbers : Option VariableValue → Bool
some_gets_numbers None = false
some_gets_numbers (Some value) = gets_numbers value

-- the set that the value is
abbrev pub own_set : VariableValue → Option StringSet
own_set (UnicodeSet set) = Some set
own_set (Spelled s) = None
own_set (Char c) = None

-- the set whose strings have the numbers of the index: the one that it keeps, or the value
abbrev pub indexed_set : VariableValue → Index → Option StringSet
indexed_set value index = option_or index.alone (own_set value)

-- the same where there is a value
abbrev pub some_indexed_set : Option VariableValue → Index → Option StringSet
some_indexed_set None index = None
some_indexed_set (Some value) index = indexed_set value index

-- There is a value, and the index has the numbers of the strings of a set, whose members are those of the value.
pub record IsIndexOf (strings : List (List ℕ)) (value : Option VariableValue) (index : Index) : Type 0 where
  pub indexed : is_some (some_indexed_set value index) ≡ true
  pub members : (set : StringSet) → some_indexed_set value index ≡ Some set →
      (m : Member) → in_set set m ≡ some_value_in value m
  pub theirs : (set : StringSet) → some_indexed_set value index ≡ Some set →
      AreNumbersOf strings set.strings index.numbers

-- the index at each name is that of its value
abbrev pub AreIndices : BTreeMap (String Global) KeptValue → List (List ℕ) → BTreeMap (String Global) Index → Type 0
AreIndices values strings indices =
    (name : List ℕ) (index : Index) → get_by_text indices name ≡ Some index → IsIndexOf strings (value_at values name) index
