-- The first fault of a list of runs that is to cover 0 to 10FFFF in order.
use Rattle.std.specs.Prelude.{◌≡◌, ℕ, ◌+◌, Bool, ◌&&◌, ◌==◌, nat_le, Option, Some, None, Result, Err, IfErr, MatchOption, List, [], ◌∷◌, if◌then◌else◌}
use Rattle.cp_trie.specs.declared.ranges.CodePointMapRange.{CodePointMapRange}
use Rattle.cp_trie.specs.declared.error.TrieError.{TrieError}
use Rattle.cp_trie.specs.declared.error.TrieError.TheVariants.{Gap, Order, NoMemory}

-- the run ends neither below its start nor above 10FFFF
abbrev pub is_in_order : {V : Type 0} → CodePointMapRange V → Bool
is_in_order r = nat_le r.range.start r.range.end && nat_le r.range.end 0x10_FFFF

-- The first fault from the run of an index on, which is to start at a number: it starts elsewhere, or it is out of order. After
-- all runs it is a gap that they do not reach 10FFFF.
abbrev pub fault_from : {V : Type 0} → ℕ → ℕ → List (CodePointMapRange V) → Option TrieError
fault_from index n [] = if n == 0x11_0000 then None else Some (Gap index)
fault_from index n (r ∷ rs) =
    if r.range.start == n
    then (if is_in_order r then fault_from (index + 1) (r.range.end + 1) rs else Some (Order index))
    else Some (Gap index)

-- the first fault of the runs, if there is one
abbrev pub first_fault : {V : Type 0} → List (CodePointMapRange V) → Option TrieError
first_fault rs = fault_from 0 0 rs

-- the answer is the first fault of the runs where there is one, and else no error but want of memory
abbrev pub AnswersFault : {V M : Type 0} → List (CodePointMapRange V) → Result M TrieError → Type 0
AnswersFault rs result = MatchOption (first_fault rs) (IfErr result (λ e. e ≡ NoMemory)) (λ e. result ≡ Err e)
