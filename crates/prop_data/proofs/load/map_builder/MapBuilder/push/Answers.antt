use Rattle.std.proofs.Common.{ℕ, List, cond, ap, ◌∙◌}
use Rattle.cp_invlist.specs.Ranges.{in_range}
use Rattle.cp_trie.specs.Runs.{value_in}
use Rattle.cp_trie.specs.declared.ranges.CodePointMapRange.{CodePointMapRange}
use Rattle.prop_data.specs.MapBuilder.{end_of_runs, next_of}
use Rattle.prop_data.proofs.MapBuilderLemmas.{end_of_runs-append, value_in-next_run}
use Rattle.prop_data.proofs.load.map_builder.MapBuilder.push.Goals as goal

pub invariant_of-self-2 : goal.invariant_of-self-2
invariant_of-self-2 g c = record {
  covers =
      ap (λ (rs : List (CodePointMapRange g.row.T.Denot)). end_of_runs 0 rs) c.in_ok-push.ensures.items
      ∙ end_of_runs-append 0 (next_of c.args.self.now.last) c.args.self.now.runs.items (record { range = record { start = c.next.result; end = c.args.end }; value = c.args.value })
      c.args.self.now.covers c.next.ensures.value c.requires.ordered c.requires.within;
}

pub returns-clause-values : goal.returns-clause-values
returns-clause-values g c = λ d.
    ap (λ (rs : List (CodePointMapRange g.row.T.Denot)). value_in rs c.args.self.now.default d) c.in_ok-push.ensures.items
    ∙ (value_in-next_run (next_of c.args.self.now.last) c.args.self.now.runs.items (record { range = record { start = c.next.result; end = c.args.end }; value = c.args.value })
    c.args.self.now.default d c.args.self.now.covers c.next.ensures.value
    ∙ ap (λ (s : ℕ). cond (in_range (record { start = s; end = c.args.end }) d) c.args.value (value_in c.args.self.now.runs.items c.args.self.now.default d)) c.next.ensures.value)
