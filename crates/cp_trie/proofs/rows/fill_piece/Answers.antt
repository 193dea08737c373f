use Rattle.std.proofs.Common.{◌+◌, refl, arith}
use Rattle.cp_trie.proofs.RowsLemmas.{take-filled, take-filled_on}
use Rattle.cp_trie.proofs.rows.fill_piece.Goals as goal

pub returns-else-count-gt-SHORT : goal.returns-else-count-gt-SHORT
returns-else-count-gt-SHORT g c =
    take-filled c.args.places.now c.fill_from.new.places c.args.start c.args.count 8 c.args.value c.fill_from.ensures (omega arith) (omega arith)

pub returns-else-count-gt-MIDDLE : goal.returns-else-count-gt-MIDDLE
returns-else-count-gt-MIDDLE g c =
    let old = c.args.places.now in
    let first = c.fill_from.new.places in
    let second = c.fill_from-then-count-gt-SHORT.new.places in
    let start = c.args.start in
    let x = c.args.value in
    let two = take-filled_on old first second start 8 (start + 8) 24 32 x c.fill_from.ensures c.fill_from-then-count-gt-SHORT.ensures refl refl in
    take-filled old second start c.args.count 32 x two (omega arith) (omega arith)

pub returns-then-count-gt-MIDDLE : goal.returns-then-count-gt-MIDDLE
returns-then-count-gt-MIDDLE g c =
    let old = c.args.places.now in
    let first = c.fill_from.new.places in
    let second = c.fill_from-then-count-gt-SHORT.new.places in
    let third = c.fill_from-then-count-gt-MIDDLE.new.places in
    let start = c.args.start in
    let x = c.args.value in
    let two = take-filled_on old first second start 8 (start + 8) 24 32 x c.fill_from.ensures c.fill_from-then-count-gt-SHORT.ensures refl refl in
    let three = take-filled_on old second third start 32 (start + 32) 32 64 x two c.fill_from-then-count-gt-MIDDLE.ensures refl refl in
    take-filled old third start c.args.count 64 x three (omega arith) c.requires.most
