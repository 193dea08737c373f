use Rattle.std.proofs.Common.{◌≡◌, ◌+◌, ◌*◌, ◌-◌, ◌/◌, ◌%◌, refl, arith}
use Rattle.cp_trie.specs.Rows.{laid, taken}
use Rattle.cp_trie.proofs.RowsLemmas.{replicate-pieces}
use Rattle.cp_trie.proofs.rows.Rows.take_across.Goals as goal

pub returns-then-rest-eq0-clause-taken : goal.returns-then-rest-eq0-clause-taken
returns-then-rest-eq0-clause-taken g c =
    let rest = c.in_ok-rest.rest in
    let size : c.args.count - rest + rest / 64 * 64 + 0 ≡ c.args.count = omega (arith, c.in_ok-rest.ensures.rest) in
    replicate-pieces (taken c.args.self.now c.args.begun.len) (laid c.complete.new.self) (laid c.take_rows.new.self) _ c.args.value (c.args.count - rest) (rest / 64 * 64) 0 c.args.count c.in_ok-rest.ensures.laid c.in_ok-take_rows.ensures.laid refl size

pub returns-clause-taken : goal.returns-clause-taken
returns-clause-taken g c =
    let rest = c.in_ok-rest.rest in
    let size : c.args.count - rest + rest / 64 * 64 + rest % 64 ≡ c.args.count = omega (arith, c.in_ok-rest.ensures.rest) in
    replicate-pieces (taken c.args.self.now c.args.begun.len) (laid c.complete.new.self) (laid c.take_rows.new.self) _ c.args.value (c.args.count - rest) (rest / 64 * 64) (rest % 64) c.args.count c.in_ok-rest.ensures.laid c.in_ok-take_rows.ensures.laid c.push.ensures.values size
