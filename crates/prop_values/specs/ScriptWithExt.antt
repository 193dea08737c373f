-- Scripts with extensions (UAX 24, section 2.8): the low ten bits are a script or an index, and the bits above them tell the
-- kind.
use Rattle.std.specs.Prelude.{ℕ, ◌+◌, ◌*◌, ◌/◌, ◌%◌, ◌==◌, if◌then◌else◌}

abbrev pub kind_of : ℕ → ℕ
kind_of v = v / 1024

-- the kind that tells extensions of a script: 1 for Common, 2 for Inherited, 3 for any other
abbrev pub kind_of_script : ℕ → ℕ
kind_of_script script = if script == 0 then 1 else (if script == 1 then 2 else 3)

-- extensions of a script at the index of their list
abbrev pub with_extensions : ℕ → ℕ → ℕ
with_extensions script index = kind_of_script script * 1024 + index % 1024
