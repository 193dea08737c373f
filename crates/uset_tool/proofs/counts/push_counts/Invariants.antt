use Rattle.std.proofs.Common.{◌≡◌, ◌++◌, take}
use Rattle.std.specs.List.{flat_map}
use Rattle.std.specs.String.{string_bytes}
use Rattle.prop_data.specs.Database.{tables_of}
use Rattle.uset_tool.specs.Counts.{count_line}
use Rattle.uset_tool.proofs.counts.push_counts.Given as goal

abbrev pub invariant-loop-kind : goal.invariant-loop-kind
invariant-loop-kind l =
    string_bytes l.text ≡ string_bytes l.initial.text ++ flat_map (count_line (tables_of l.database)) (take l.kind-index l.fn.kinds)
