use Rattle.std.proofs.Common.{◌≡◌, ◌==◌, ℕ, List, map, take}
use Rattle.std.specs.List.{list_any}
use Rattle.std.specs.String.{string_bytes}
use Rattle.cp_strset.specs.StringList.{holds}
use Rattle.cp_strset_terms.specs.Places.{IsAt}
use Rattle.cp_strset_terms.proofs.leaf_numbers.numbers_of_strings.Given as goal

abbrev pub invariant-loop-string : goal.invariant-loop-string
invariant-loop-string l = (number : ℕ) (text : List ℕ) → IsAt l.all number text → list_any (λ n. n == number) l.numbers.items ≡ holds (map string_bytes (take l.string-index l.strings)) text
