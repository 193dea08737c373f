use Rattle.std.proofs.Common.{◌≡◌, ◌*◌, ◌/◌, [], length, sym, arith}
use Rattle.std.proofs.lemmas.List.{append-nil}
use Rattle.cp_trie.proofs.RowsLemmas.{row_of-last}
use Rattle.cp_trie.proofs.rows.Shelf.number_of.Goals as goal

pub returns-in-Some-clause-kept : goal.returns-in-Some-clause-kept
returns-in-Some-clause-kept g c = record { more = []; behind = sym (append-nil c.args.self.now.values.items); few = omega arith; whole = c.requires.whole }

pub returns-clause-row : goal.returns-clause-row
returns-clause-row g c =
    let rows : length c.args.self.now.values.items ≡ c.len.result / 64 * 64 = omega arith in
    rw (c.in_ok-extend_from_slice.ensures.items) (row_of-last c.args.self.now.values.items c.args.row.now (c.len.result / 64) rows c.requires.full)
