-- The numbers of statuses, and those of failures.
use Rattle.std.specs.Prelude.{ℕ, Bool, true, false}
use Rattle.uset_tool.specs.declared.status.Status.{Status}
use Rattle.uset_tool.specs.declared.status.Status.TheVariants.{Done, SomeErr, Usage, Tables, ReadFault, WriteFault, NoMemory, NotText, TooLong}

abbrev pub code_of : Status → ℕ
code_of Done = 0
code_of SomeErr = 1
code_of Usage = 2
code_of Tables = 3
code_of ReadFault = 4
code_of WriteFault = 5
code_of NoMemory = 6
code_of NotText = 7
code_of TooLong = 8

-- reading failed, writing failed
abbrev pub is_read_fault : Status → Bool
is_read_fault Done = false
is_read_fault SomeErr = false
is_read_fault Usage = false
is_read_fault Tables = false
is_read_fault ReadFault = true
is_read_fault WriteFault = false
is_read_fault NoMemory = false
is_read_fault NotText = false
is_read_fault TooLong = false

abbrev pub is_write_fault : Status → Bool
is_write_fault Done = false
is_write_fault SomeErr = false
is_write_fault Usage = false
is_write_fault Tables = false
is_write_fault ReadFault = false
is_write_fault WriteFault = true
is_write_fault NoMemory = false
is_write_fault NotText = false
is_write_fault TooLong = false
