-- Variables: what a name is bound to (UTS 35, Unicode Sets).
use Rattle.std.specs.Prelude.{◌≡◌, ℕ, List, Option, None, option_map, cond, encode_utf8_all}
use Rattle.std.specs.Str.{bytes_eq}
use Rattle.std.specs.BTreeMap.{get_by_text}
use Rattle.uset_grammar.specs.Text.{Text}
use Rattle.uset_grammar.specs.Language.{Value}
use Rattle.uset_variables.specs.declared.value.VariableValue.{VariableValue}
use Rattle.uset_variables.specs.declared.map.VariableMap.{VariableMap}
use Rattle.uset_variables.specs.Values.{value_seen}

-- what the name with these bytes is bound to
abbrev pub bound : VariableMap → List ℕ → Option VariableValue
bound map name = option_map (λ kept. kept.value) (get_by_text map.values name)

-- the strings that have numbers, in the order of these
abbrev pub numbered_strings : VariableMap → List (List ℕ)
numbered_strings map = map.strings

-- the numbers of the strings of what the name is bound to, where it has them
abbrev pub numbers_at : VariableMap → List ℕ → Option (List (List ℕ))
numbers_at map name = option_map (λ index. index.numbers) (get_by_text map.indices name)

-- what each name is bound to
abbrev pub variables_of : VariableMap → Text → Option Value
variables_of map name = option_map value_seen (bound map (encode_utf8_all name))

-- the name is bound to this value or to nothing, and all others as they were
abbrev pub Binds : VariableMap → List ℕ → Option VariableValue → VariableMap → Type 0
Binds old key value new = (name : List ℕ) → bound new name ≡ cond (bytes_eq key name) value (bound old name)

-- all names are bound as they were
abbrev pub IsSame : VariableMap → VariableMap → Type 0
IsSame old new = (name : List ℕ) → bound new name ≡ bound old name

-- the same strings have numbers, and the same names
pub record HasSameNumbers (old new : VariableMap) : Type 0 where
  pub strings : numbered_strings new ≡ numbered_strings old
  pub names : (name : List ℕ) → numbers_at new name ≡ numbers_at old name

-- no name is bound
abbrev pub no_variables : Text → Option Value
no_variables name = None
