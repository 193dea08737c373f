use Rattle.std.proofs.Common.{sym, ◌∙◌}
use Rattle.cp_trie.proofs.RowsLemmas.{row_of-range}
use Rattle.cp_trie.proofs.rows.Shelf.is_row.Goals as goal

pub returns-in-Some-clause-row : goal.returns-in-Some-clause-row
returns-in-Some-clause-row g c =
    λ same. sym (row_of-range c.args.self.now.values.items c.args.number) ∙ rw (← c.from-start.ensures, ← c.deref.ensures.value) (sym c.in-Some.ensures.lookup.0.2 ∙ c.are_equal.ensures same)
