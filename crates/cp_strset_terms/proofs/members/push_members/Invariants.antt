use Rattle.std.proofs.Common.{◌≡◌, ◌++◌, ℕ, Bool, List, map, filter, take}
use Rattle.std.specs.String.{string_bytes}
use Rattle.cp_invlist.specs.InversionList.{contains}
use Rattle.cp_strset_terms.specs.Places.{IsAt}
use Rattle.cp_strset_terms.proofs.members.push_members.Given as goal

abbrev pub invariant-loop-place : goal.invariant-loop-place
invariant-loop-place l = (test : List ℕ → Bool) →
    ((place : ℕ) (text : List ℕ) → IsAt (map (λ text. text.now) l.list) place text → contains l.places place ≡ test text) →
    map string_bytes l.strings.items ≡ map string_bytes l.initial.strings.items ++ filter test (map (λ text. text.now) (take l.place l.list))
