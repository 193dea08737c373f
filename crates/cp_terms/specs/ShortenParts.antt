-- Sets that are constant on a stretch.
use Rattle.std.specs.Prelude.{Bool, true, false, Option, None, Some}
use Rattle.cp_terms.specs.declared.shorten.Part.{Part}
use Rattle.cp_terms.specs.declared.shorten.Part.TheVariants.{Empty, Full, Mixed}

-- the set that has all or none
abbrev pub part_of : Bool → Part
part_of true = Full
part_of false = Empty

-- whether a set has all or none, where either is known
abbrev pub constant_of : Part → Option Bool
constant_of Empty = Some false
constant_of Full = Some true
constant_of (Mixed start) = None
