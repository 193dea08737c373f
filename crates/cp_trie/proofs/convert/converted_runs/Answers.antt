use Rattle.std.proofs.Common.{◌≡◌, None, sym, ◌∙◌, rules, arith, length}
use Rattle.cp_trie.specs.Conversion.{conversion}
use Rattle.cp_trie.proofs.ConversionLemmas.{refused_from-here, refused_from-passed, refused_from-behind, runs_by-next, runs_by-all_done}
use Rattle.cp_trie.proofs.convert.converted_runs.Goals as goal

pub returns-in_default-clause-refusal : goal.returns-in_default-clause-refusal
returns-in_default-clause-refusal g c e =
    let convert = conversion g.T.TrieValue.packed g.P.TrieValue.unpacked in
    let none : convert c.index-runs-index.result.value ≡ None = search rules in
    sym (c.loop-index.invariant.refused e) ∙ refused_from-here convert e c.args.runs.now c.loop-index.index c.index-runs-index.result c.loop-index-test.true c.index-runs-index.is none

pub returns-clause-converted : goal.returns-clause-converted
returns-clause-converted g c =
    runs_by-all_done (conversion g.T.TrieValue.packed g.P.TrieValue.unpacked) c.args.runs.now _ _ c.loop-index-test.false c.loop-index.invariant.done

pub returns-clause-whole : goal.returns-clause-whole
returns-clause-whole g c e =
    let convert = conversion g.T.TrieValue.packed g.P.TrieValue.unpacked in
    let all : length c.args.runs.now ≡ c.loop-index.index = omega arith in
    sym (c.loop-index.invariant.refused e) ∙ refused_from-behind convert e c.args.runs.now c.loop-index.index all

pub loop-index-preserved : goal.loop-index-preserved
loop-index-preserved g c =
    let l = c.loop-index in
    let r = c.index-runs-index.result in
    let convert = conversion g.T.TrieValue.packed g.P.TrieValue.unpacked in
    record {
      done = rw c.in_ok-push.ensures.items (runs_by-next convert c.args.runs.now l.made.items _ l.index r c.in-Some.value c.loop-index-test.true c.index-runs-index.is c.in-Some.ensures l.invariant.done);
      refused = λ e. refused_from-passed convert e c.args.runs.now l.index r c.in-Some.value c.loop-index-test.true c.index-runs-index.is c.in-Some.ensures ∙ l.invariant.refused e;
    }
