use Rattle.std.proofs.Common.{◌≡◌, ◌++◌, length, ap, ◌∙◌, replicate, arith}
use Rattle.std.proofs.lemmas.List.{length-take-le}
use Rattle.cp_trie.specs.Rows.{spelled}
use Rattle.cp_trie.proofs.RowsLemmas.{spelled-closed, rows_of-closed, AreWhole-closed, few-closed}
use Rattle.cp_trie.proofs.rows.Rows.close.Goals as goal

pub number_of-requires-clause-full : goal.number_of-requires-clause-full
number_of-requires-clause-full g c =
    ap length c.as_slice.ensures ∙ length-take-le 64 c.args.self.now.row (omega (arith, c.requires.cut.places))

pub returns-clause-cut : goal.returns-clause-cut
returns-clause-cut g c =
    let s = c.args.self.now in
    let numbers : spelled c.push.new.self.items ≡ spelled s.numbers.items ++ replicate c.args.times c.in_ok-number.number = spelled-closed s.numbers.items c.push.new.self.items _ c.in_ok-push.ensures.items in
    record {
      places = c.requires.cut.places;
      whole = c.in_ok-number.ensures.kept.whole;
      few = rw numbers (few-closed s.shelf.values.items c.number_of.new.self.values.items (spelled s.numbers.items) c.in_ok-number.number c.args.times c.in_ok-number.ensures.kept c.requires.cut.few c.requires.some);
      within = rw numbers (AreWhole-closed s.shelf.values.items c.number_of.new.self.values.items (spelled s.numbers.items) c.in_ok-number.number c.args.times c.in_ok-number.ensures.kept c.requires.cut.within c.in_ok-number.ensures.within);
    }

pub returns-clause-laid : goal.returns-clause-laid
returns-clause-laid g c =
    let s = c.args.self.now in
    let numbers : spelled c.push.new.self.items ≡ spelled s.numbers.items ++ replicate c.args.times c.in_ok-number.number = spelled-closed s.numbers.items c.push.new.self.items _ c.in_ok-push.ensures.items in
    let row = c.in_ok-number.ensures.row ∙ c.as_slice.ensures in
    rw numbers (rows_of-closed s.shelf.values.items c.number_of.new.self.values.items _ (spelled s.numbers.items) c.in_ok-number.number c.args.times c.in_ok-number.ensures.kept c.requires.cut.within row)
