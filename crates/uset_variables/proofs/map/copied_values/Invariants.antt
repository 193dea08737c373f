use Rattle.uset_variables.proofs.VariableLemmas.{IsCopiedUpTo}
use Rattle.uset_variables.proofs.map.copied_values.Given as goal

abbrev pub invariant-loop-key : goal.invariant-loop-key
invariant-loop-key l = IsCopiedUpTo l.values l.copied l.key-iterator
