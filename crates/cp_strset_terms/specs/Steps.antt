-- What the steps of a term make of strings.
use Rattle.std.specs.Prelude.{List, map}
use Rattle.cp_terms.specs.declared.step.Step.{Step}
use Rattle.cp_terms.specs.declared.step.Step.TheVariants.{Push, Both, Complement, Clear}

-- a complement has no strings
abbrev pub without_complement : Step → Step
without_complement (Push index) = Push index
without_complement (Both operation) = Both operation
without_complement Complement = Clear
without_complement Clear = Clear

-- each complement becomes a step that empties the set on top
abbrev pub without_complements : List Step → List Step
without_complements steps = map without_complement steps
