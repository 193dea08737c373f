-- What was found for numbers of the table of scripts.
use Rattle.std.specs.Prelude.{◌≡◌, ℕ, Bool, List, Option, Some}
use Rattle.std.specs.List.{slice_get}
use Rattle.prop_data.specs.declared.scripts.ScriptWithExtensionsProperty.{ScriptWithExtensionsProperty}
use Rattle.prop_query.specs.Scripts.{number_has}

-- each answer that is kept at the place of a number is the one that the table has for the script
abbrev pub AreFound : ScriptWithExtensionsProperty → ℕ → List (Option Bool) → Type 0
AreFound table script found =
    (number : ℕ) (has : Bool) → slice_get found number ≡ Some (Some has) → number_has table script number ≡ has
