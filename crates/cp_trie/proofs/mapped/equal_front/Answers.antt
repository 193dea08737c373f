use Rattle.std.proofs.Common.{rules, arith, true, false, ◌≡◌}
use Rattle.cp_trie.proofs.MappedLemmas.{answers_here, more_answers}
use Rattle.cp_trie.proofs.mapped.equal_front.Goals as goal

pub loop-index-preserved : goal.loop-index-preserved
loop-index-preserved g c =
    let passes : g.U.PartialEq.eq c.args.value c.map.result ≡ true = search rules in
    more_answers (goal.F-post g c.args.map.now) (g.U.PartialEq.eq c.args.value) true c.args.runs.now c.loop-index.index c.index-runs-index.result c.map.result c.loop-index.invariant c.loop-index-test.true c.index-runs-index.is c.map.ensures passes

pub returns : goal.returns
returns g c = (omega arith, λ k d h. c.loop-index.invariant k d (omega arith), λ d h. absurd (omega arith))

pub returns-then-ne : goal.returns-then-ne
returns-then-ne g c =
    let fails : g.U.PartialEq.eq c.args.value c.map.result ≡ false = search rules in
    (omega arith, c.loop-index.invariant, λ d h. answers_here (goal.F-post g c.args.map.now) (g.U.PartialEq.eq c.args.value) false c.args.runs.now c.loop-index.index c.index-runs-index.result c.map.result c.loop-index-test.true c.index-runs-index.is c.map.ensures fails d)
