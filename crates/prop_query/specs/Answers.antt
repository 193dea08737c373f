-- What the calls of a database answer where a table is absent.
use Rattle.std.specs.Prelude.{◌≡◌, Option, Some, None, Result, Ok, Err, IsOk, IsOkUnless}
use Rattle.prop_data.specs.declared.table.DataError.{DataError}
use Rattle.prop_data.specs.declared.table.DataError.TheVariants.{Absent, NoMemory}
use Rattle.prop_data.specs.declared.table.TableName.{TableName}

-- The call needs the table: where it is absent, the answer is the error that names it, and else it is no error. So want of memory is
-- never answered.
abbrev pub NeedsTable : {V W : Type 0} → TableName → Option V → Result W DataError → Type 0
NeedsTable name None result = result ≡ Err (Absent name)
NeedsTable name (Some v) result = IsOk result

-- The same of a call that takes memory, to which a request for it may be refused where the table is there.
abbrev pub NeedsTableAndMemory : {V W : Type 0} → TableName → Option V → Result W DataError → Type 0
NeedsTableAndMemory name None result = result ≡ Err (Absent name)
NeedsTableAndMemory name (Some v) result = IsOkUnless result NoMemory

-- what a table answers, or the error that names it where it is absent
abbrev pub answer_of : {V : Type 0} → TableName → Option V → Result V DataError
answer_of name None = Err (Absent name)
answer_of name (Some v) = Ok v
