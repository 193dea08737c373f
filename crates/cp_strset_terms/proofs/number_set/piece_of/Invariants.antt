use Rattle.std.proofs.Common.{◌≡◌, ◌==◌, ◌/◌, ◌%◌, ℕ, take}
use Rattle.std.specs.List.{list_any}
use Rattle.cp_invlist.specs.InversionList.{contains}
use Rattle.cp_strset_terms.proofs.number_set.piece_of.Given as goal

abbrev pub invariant-loop-number : goal.invariant-loop-number
invariant-loop-number l = (number : ℕ) → number / 0x11_0000 ≡ l.index → contains l.builder (number % 0x11_0000) ≡ list_any (λ n. n == number) (take l.number-index l.numbers)
