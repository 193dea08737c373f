use Rattle.std.proofs.Common.{◌≡◌, ◌++◌}
use Rattle.cp_strset.proofs.strings.Strings.into_list.Given as goal

abbrev pub invariant-loop-text : goal.invariant-loop-text
invariant-loop-text l = l.list.items ++ l.text-iterator ≡ l.fn.self.keys
