use Rattle.std.proofs.Common.{◌≡◌, take}
use Rattle.prop_names.specs.Texts.{texts}
use Rattle.prop_names.proofs.list.copy_of.Given as goal

abbrev pub invariant-loop-name : goal.invariant-loop-name
invariant-loop-name l = texts l.copy.items ≡ texts (take l.name-index l.rows)
