-- Names by the numbers of values.
use Rattle.std.specs.Prelude.{◌≡◌, ℕ, List, [], Option, Some, option_map}
use Rattle.std.specs.BTreeMap.{BTreeMap, get}
use Rattle.std.specs.Global.{Global}
use Rattle.std.specs.Ordering.{nat_cmp}
use Rattle.std.specs.String.{string_bytes}
use Rattle.std.specs.declared.string.String.{String}

-- the text of a number in an ordered map
abbrev pub text_at : BTreeMap ℕ (String Global) → ℕ → Option (List ℕ)
text_at texts n = option_map string_bytes (get nat_cmp texts n)

-- no text is empty
abbrev pub NoneIsEmpty : BTreeMap ℕ (String Global) → Type 0
NoneIsEmpty texts = (n : ℕ) → ¬ (text_at texts n ≡ Some [])
