use Rattle.std.proofs.Common.{◌≡◌, ◌++◌, drop}
use Rattle.cp_trie.specs.Rows.{spelled}
use Rattle.cp_trie.proofs.pages.outer_of.Given as goal

-- the numbers so far and those that are left are all
abbrev pub invariant-loop-block : goal.invariant-loop-block
invariant-loop-block l = l.outer.items ++ spelled (drop l.block-index l.blocks) ≡ spelled l.blocks
