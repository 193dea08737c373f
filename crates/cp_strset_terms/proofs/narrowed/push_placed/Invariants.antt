use Rattle.std.proofs.Common.{◌≡◌, ◌≢◌, ◌||◌, ℕ, true, All, List, length, map}
use Rattle.std.specs.Str.{chars}
use Rattle.std.specs.String.{string_bytes}
use Rattle.cp_invlist.specs.Ranges.{in_ranges}
use Rattle.cp_strset.specs.StringList.{holds}
use Rattle.cp_strset_terms.specs.Places.{texts, IsAt}
use Rattle.cp_strset_terms.proofs.narrowed.push_placed.Given as goal

abbrev pub invariant-loop-range : goal.invariant-loop-range
invariant-loop-range l =
    ((text : List ℕ) → holds (texts l.initial.table.items) text ≡ true → holds (texts l.table.items) text ≡ true)
    × ((number : ℕ) (text : List ℕ) → IsAt (map string_bytes l.strings) number text → in_ranges l.initial.range-iterator number ≡ true →
    (holds (texts l.table.items) text || in_ranges l.range-iterator number) ≡ true)
    × (All (λ s. length (chars s) ≢ 1) (texts l.initial.table.items) → All (λ s. length (chars s) ≢ 1) (map string_bytes l.strings) → All (λ s. length (chars s) ≢ 1) (texts l.table.items))
