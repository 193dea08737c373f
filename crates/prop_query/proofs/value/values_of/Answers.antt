use Rattle.std.proofs.Common.{arith}
use Rattle.std.proofs.lemmas.Result.{IfOk-weaker}
use Rattle.cp_trie.specs.Map.{value_at}
use Rattle.prop_query.proofs.UnpackedLemmas.{value_in-unpacked_runs, value_in-past_end, AreRunsAccepted-runs, no_fault-unpacked, unpacks}
use Rattle.prop_query.proofs.value.values_of.Goals as goal

pub unpacked-requires : goal.unpacked-requires
unpacked-requires g c =
    AreRunsAccepted-runs g.T.EnumeratedProperty.TABLE (value_at c.args.numbers.now) 0 c.iter_ranges.result c.iter_ranges.ensures.maximal c.requires

pub returns-clause-values : goal.returns-clause-values
returns-clause-values g c =
    let at = value_at c.args.numbers.now in
    let unpacked = g.T.TrieValue.unpacked in
    IfOk-weaker c.from_cover.result _ _ (
    λ map values n within.
    rw (values n, c.in_ok-runs.ensures) (
    value_in-unpacked_runs unpacked at 0 c.iter_ranges.result c.default.result n c.iter_ranges.ensures.maximal (unpacks unpacked g.T.EnumeratedProperty.TABLE g.met.T.EnumeratedProperty.accepted at c.requires) (omega arith) within
    )
    ) c.from_cover.ensures.values

pub returns-clause-past_end : goal.returns-clause-past_end
returns-clause-past_end g c =
    IfOk-weaker c.from_cover.result _ _ (
    λ map values n past.
    rw (values n, c.in_ok-runs.ensures, value_in-past_end g.T.TrieValue.unpacked (value_at c.args.numbers.now) 0 c.iter_ranges.result c.default.result n c.iter_ranges.ensures.maximal past) c.default.ensures
    ) c.from_cover.ensures.values

pub from_cover-requires : goal.from_cover-requires
from_cover-requires g c =
    let at = value_at c.args.numbers.now in
    let unpacked = g.T.TrieValue.unpacked in
    let accepted = unpacks unpacked g.T.EnumeratedProperty.TABLE g.met.T.EnumeratedProperty.accepted at c.requires in
    rw c.in_ok-runs.ensures (no_fault-unpacked unpacked at 0 0 c.iter_ranges.result c.iter_ranges.ensures.maximal accepted)
