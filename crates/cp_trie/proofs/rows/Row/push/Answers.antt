use Rattle.std.proofs.Common.{◌+◌, ◌∙◌, arith}
use Rattle.cp_trie.proofs.RowsLemmas.{take-written, length-written}
use Rattle.cp_trie.proofs.rows.Row.push.Goals as goal

pub returns-clause-values : goal.returns-clause-values
returns-clause-values g c =
    take-written c.fill_piece.new.places _ (c.args.begun.len + c.args.count) c.self.inside.places.len (omega arith) (omega arith) ∙ rw (← c.self.view_is, ← c.deref_mut.ensures.value) c.fill_piece.ensures

pub returns-clause-places : goal.returns-clause-places
returns-clause-places g c =
    length-written c.fill_piece.new.places c.self.inside.places.items c.self.inside.places.len (omega arith) (omega arith) ∙ c.self.invariant

pub invariant_of-self : goal.invariant_of-self
invariant_of-self g c =
    length-written c.fill_piece.new.places c.self.inside.places.items c.self.inside.places.len (omega arith) (omega arith) ∙ c.self.invariant
