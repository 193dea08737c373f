use Rattle.std.proofs.Common.{◌≡◌, ◌≢◌, ◌<◌, ◌/◌, ℕ, true, All, List, length, map}
use Rattle.std.specs.Str.{chars}
use Rattle.std.specs.String.{string_bytes}
use Rattle.cp_strset.specs.StringList.{holds}
use Rattle.cp_strset_terms.specs.NumberSets.{has_number}
use Rattle.cp_strset_terms.specs.Places.{texts, IsAt}
use Rattle.cp_strset_terms.proofs.narrowed.push_numbered.Given as goal

abbrev pub invariant-loop-index : goal.invariant-loop-index
invariant-loop-index l =
    ((text : List ℕ) → holds (texts l.initial.table.items) text ≡ true → holds (texts l.table.items) text ≡ true)
    × ((number : ℕ) (text : List ℕ) → number / 0x11_0000 < l.index → IsAt (map string_bytes l.strings) number text → has_number l.numbers number ≡ true →
    holds (texts l.table.items) text ≡ true)
    × (All (λ s. length (chars s) ≢ 1) (texts l.initial.table.items) → All (λ s. length (chars s) ≢ 1) (map string_bytes l.strings) → All (λ s. length (chars s) ≢ 1) (texts l.table.items))
