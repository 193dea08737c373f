-- Counts of faults, and the statuses of those who end so.
use Rattle.std.proofs.Common.{◌≡◌, ℕ, inl, inr, arith}
use Rattle.std.proofs.lemmas.Bool.{cases_lt}
use Rattle.uset_tool.specs.declared.status.Status.{Status}
use Rattle.uset_tool.specs.declared.status.Status.TheVariants.{ReadFault, WriteFault}
use Rattle.uset_tool.specs.Device.{last_count, one_more, count_after, Rose}
use Rattle.uset_tool.specs.Status.{is_read_fault, is_write_fault}

one_more_rose : (n : ℕ) → Rose n (one_more n)
one_more_rose n = elim (cases_lt n last_count) [
  | inl below ↦ inl (omega (arith, below))
  | inr last ↦ inr (omega (arith, last))
]

pub read_rose : (s : Status) (old new : ℕ) → new ≡ count_after (is_read_fault s) old → s ≡ ReadFault → Rose old new
read_rose s old new h is = rw (h, is) (one_more_rose old)

pub write_rose : (s : Status) (old new : ℕ) → new ≡ count_after (is_write_fault s) old → s ≡ WriteFault → Rose old new
write_rose s old new h is = rw (h, is) (one_more_rose old)
