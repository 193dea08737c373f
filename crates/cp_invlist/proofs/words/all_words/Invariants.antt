use Rattle.std.proofs.Common.{◌≡◌, ◌*◌, ◌≤◌, length}
use Rattle.cp_invlist.specs.Words.{AreWords}
use Rattle.cp_invlist.specs.Windows.{IsWindow}
use Rattle.cp_invlist.proofs.words.all_words.Given as goal

abbrev pub invariant-loop-index : goal.invariant-loop-index
invariant-loop-index l = record {
  window : IsWindow l.set (64 * l.index) l.window;
  ahead : 64 * l.index ≤ l.window.next;
  sized : length l.words.items ≡ l.index;
  words : AreWords l.set l.words.items;
}
