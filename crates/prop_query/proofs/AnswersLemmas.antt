-- What an error of a call that needs a table says.
use Rattle.std.proofs.Common.{◌≡◌, Option, Some, None}
use Rattle.std.specs.Prelude.{Err, option_map}
use Rattle.prop_data.specs.declared.table.DataError.{DataError}
use Rattle.prop_data.specs.declared.table.TableName.{TableName}
use Rattle.prop_query.specs.Answers.{NeedsTable, answer_of}

-- an error of a call that needs a table is the answer where that is absent
pub answer_of-error : {V U : Type 0} (W : Type 0) (name : TableName) (table : Option V) (f : V → U) (e : DataError) → NeedsTable {V = V} {W = W} name table (Err e) → Err e ≡ answer_of name (option_map f table)
answer_of-error W name None f e needs = cc
answer_of-error W name (Some v) f e needs = cc
