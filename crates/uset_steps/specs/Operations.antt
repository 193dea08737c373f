-- What becomes of a set where another is gathered.
use Rattle.std.specs.Prelude.{Bool, not, ◌&&◌, ◌||◌}
use Rattle.uset_steps.specs.declared.step.Operation.{Operation}
use Rattle.uset_steps.specs.declared.step.Operation.TheVariants.{Join, Remove, Retain}

-- whether something is a member once a set was joined, taken away or kept, by whether it was one and whether the set has it
abbrev pub operated : Operation → Bool → Bool → Bool
operated Join has b = b || has
operated Remove has b = b && not has
operated Retain has b = b && has
