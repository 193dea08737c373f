-- The foldings and look-ups, computed on small tables.
use Rattle.std.specs.Prelude.{◌≡◌, [], codes, Some, None, refl}
use Rattle.prop_names.specs.Folding.{stored_folding, query_folding}
use Rattle.prop_names.specs.Names.{Names, value_of_name, value_of_query, with_name}

stored : stored_folding (codes "Old_Ita-lic") ≡ codes "oldita-lic"
stored = refl

query : query_folding (codes "OLD-ita_ lic") ≡ codes "olditalic"
query = refl

-- three names, given in another order
abbrev table : Names
table = with_name (with_name (with_name [] (codes "Latn") 25) (codes "Latin") 25) (codes "A-b") 7

value_of_name-example : (value_of_name table (codes "Latn") ≡ Some 25) × (value_of_name table (codes "latn") ≡ None)
value_of_name-example = (refl, refl)

-- a stored hyphen is never found
value_of_query-example : (value_of_query table (codes "la-TN") ≡ Some 25) × (value_of_query table (codes "a-b") ≡ None)
value_of_query-example = (refl, refl)
