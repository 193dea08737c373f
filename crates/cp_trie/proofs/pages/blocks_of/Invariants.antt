use Rattle.std.proofs.Common.{◌≡◌, ◌<◌, ◌++◌, drop}
use Rattle.cp_trie.specs.Rows.{spelled, taken, IsCut}
use Rattle.cp_trie.proofs.pages.blocks_of.Given as goal

-- the numbers that were taken and those that are left are all
abbrev pub invariant-loop-page : goal.invariant-loop-page
invariant-loop-page l = record {
  cut : IsCut l.blocks;
  begun : l.begun.len < 64;
  all : taken l.blocks l.begun.len ++ spelled (drop l.page-index l.pages) ≡ spelled l.pages;
}
