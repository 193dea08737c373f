use Rattle.std.proofs.Common.{◌≡◌, ◌<◌, ◌++◌, drop}
use Rattle.cp_trie.specs.Pages.{values_of}
use Rattle.cp_trie.specs.Rows.{taken, IsCut}
use Rattle.cp_trie.proofs.pages.pages_of.Given as goal

-- the values that were taken and those of the runs that are left are all
abbrev pub invariant-loop-run : goal.invariant-loop-run
invariant-loop-run g l = record {
  cut : IsCut l.pages;
  begun : l.begun.len < 64;
  all : taken l.pages l.begun.len ++ values_of (drop l.run-index l.runs) ≡ values_of l.runs;
}
