use Rattle.std.proofs.Common.{◌≡◌, take, replicate}
use Rattle.cp_trie.proofs.rows.fill.Given as goal

-- the places before this one have the value
abbrev pub invariant-loop-place : goal.invariant-loop-place
invariant-loop-place g l = take l.place-index l.places ≡ replicate l.place-index l.value
