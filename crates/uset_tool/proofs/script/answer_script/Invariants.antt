use Rattle.std.proofs.Common.{◌≡◌}
use Rattle.std.specs.Str.Iter.{lines_rest}
use Rattle.std.specs.Str.Lines.{lines}
use Rattle.prop_data.specs.Database.{tables_of}
use Rattle.uset_variables.specs.Variables.{no_variables, variables_of}
use Rattle.uset_tool.proofs.Once.{Holds}
use Rattle.uset_tool.proofs.script.answer_script.Given as goal

abbrev pub invariant-loop-line : goal.invariant-loop-line
invariant-loop-line g l =
    (g.K.Sink.faults l.sink ≡ g.K.Sink.faults l.initial.sink)
    × Holds (tables_of l.database) no_variables (lines l.script) (variables_of l.variables) (lines (lines_rest l.line-iterator)) l.has_err l.pending.items (g.K.Sink.written l.initial.sink) (g.K.Sink.written l.sink)
    × (l.resolver ≡ l.database)
