use Rattle.std.proofs.Common.{sym, arith}
use Rattle.std.proofs.lemmas.List.{length-take-le}
use Rattle.cp_trie.proofs.rows.Row.as_slice.Goals as goal

pub slice_bounds-result-end : goal.slice_bounds-result-end
slice_bounds-result-end g c = sym (length-take-le 64 _ (rw c.deref.ensures.value (omega (arith, c.self.invariant))))
