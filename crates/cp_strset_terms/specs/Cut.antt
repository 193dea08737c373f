-- Where a text cuts strings in order: by bytes a string is below it, or it isn't.
use Rattle.std.specs.Prelude.{◌≡◌, ℕ, true, false, List}
use Rattle.std.specs.Cmp.Lexicographic.{slice_cmp}
use Rattle.std.specs.Global.{Global}
use Rattle.std.specs.Ordering.{nat_cmp, is_lt}
use Rattle.std.specs.String.{string_bytes}
use Rattle.std.specs.declared.string.String.{String}

abbrev pub IsBelowText : List ℕ → String Global → Type 0
IsBelowText text string = is_lt (slice_cmp nat_cmp (string_bytes string) text) ≡ true

abbrev pub IsNotBelow : List ℕ → String Global → Type 0
IsNotBelow text string = is_lt (slice_cmp nat_cmp (string_bytes string) text) ≡ false
