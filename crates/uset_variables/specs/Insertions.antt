-- What a call that binds a name answers, and what it leaves.
use Rattle.std.specs.Prelude.{ℕ, List, Option, Some, None, Result, Ok, Err, ⊤}
use Rattle.std.specs.Borrow.{Fml, MutBor, follows_so}
use mathlib.Core.Option.{none}
use Rattle.uset_variables.specs.contracts.map.VariableMap.{the_row}
use Rattle.uset_variables.specs.declared.map.InsertError.{InsertError}
use Rattle.uset_variables.specs.declared.map.InsertError.TheVariants.{Present, NoMemory}
use Rattle.uset_variables.specs.declared.map.VariableMap.{VariableMap}
use Rattle.uset_variables.specs.declared.value.VariableValue.{VariableValue}
use Rattle.uset_variables.specs.Variables.{Binds, IsSame, HasSameNumbers}

-- the value that the name is bound to already
abbrev pub value_present : InsertError → Option VariableValue
value_present (Present value) = Some value.now
value_present NoMemory = None

-- the same, of an answer
abbrev pub present_in : Result (Unit {0}) InsertError → Option VariableValue
present_in (Ok x) = None
present_in (Err e) = value_present e

-- The name is bound to the value and all others as they were, or, after a refusal, all as they were. The strings of
-- sets have the numbers that they had.
abbrev pub Inserts : VariableMap → List ℕ → VariableValue → Result (Unit {0}) InsertError → VariableMap → Type 0
Inserts old key value (Ok x) new = Binds old key (Some value) new × HasSameNumbers old new
Inserts old key value (Err e) new = IsSame old new × HasSameNumbers old new

-- this holds of the map once the answer isn't used any longer
abbrev pub EndsInserted : MutBor VariableMap → List ℕ → VariableValue → Result (Unit {0}) InsertError → Fml
EndsInserted map key value result =
    follows_so the_row the_row map.ghost_name none (λ _ _. ⊤) (Inserts map.now key value result)
