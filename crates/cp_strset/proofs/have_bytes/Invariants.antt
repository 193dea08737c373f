use Rattle.std.proofs.Common.{◌≡◌, ◌-◌, take, length}
use Rattle.std.specs.List.{sum_by}
use Rattle.std.specs.String.{string_bytes}
use Rattle.cp_strset.proofs.have_bytes.Given as goal

abbrev pub invariant-loop-string : goal.invariant-loop-string
invariant-loop-string l = l.missing ≡ l.count - sum_by (λ s. length (string_bytes s)) (take l.string-index l.strings)
