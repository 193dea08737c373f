use Rattle.std.proofs.Common.{◌≡◌, map, drop, None}
use Rattle.std.specs.Option.{option_copied}
use Rattle.std.specs.String.{string_bytes}
use Rattle.cp_strset.specs.StringList.{fault_from}
use Rattle.cp_strset.proofs.find_fault.Given as goal

abbrev pub invariant-loop-index : goal.invariant-loop-index
invariant-loop-index l =
    fault_from None 0 (map string_bytes l.strings) ≡ fault_from (option_copied l.before) l.index (map string_bytes (drop l.index l.strings))
