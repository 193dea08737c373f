-- The lists that were made for properties, by what their code points have in common.
use Rattle.std.specs.Prelude.{◌≡◌, ℕ, List, Option, Some}
use Rattle.std.specs.Global.{Global}
use Rattle.std.specs.declared.cmp.Ordering.{Ordering}
use Rattle.std.specs.declared.rc.Rc.{Rc}
use Rattle.std.specs.BTreeMap.{BTreeMap, get}
use Rattle.prop_data.specs.Tables.{Tables}
use Rattle.uset_grammar.specs.Text.{◌>>=◌}
use Rattle.uset_resolve.specs.contracts.resolver.OriginOrd.TheImpl as origin_order
use Rattle.uset_resolve.specs.declared.resolver.Origin.{Origin}
use Rattle.uset_resolve.specs.declared.resolver.Origin.TheVariants.{Group, Extension, Value}
use Rattle.uset_resolve.specs.Resolution.{Source, with_number, in_group, with_extension}
use Rattle.uset_resolve.specs.Sources.{HasSource}
use Rattle.prop_values.specs.Tables.{category_table}

-- the order of origins, which is that of their fields
abbrev pub origin_cmp : Origin → Origin → Ordering
origin_cmp = (origin_order.ghosts).cmp

-- the code points that have it in common, where the map is there that tells (that of the categories)
abbrev pub of_origin : Tables → Origin → Option Source
of_origin tables (Group n) = tables.maps category_table >>= λ map. Some (in_group map n)
of_origin tables (Extension n) = tables.scripts >>= λ scripts. Some (with_extension tables.extensions scripts.values n)
of_origin tables (Value t n) = tables.maps t >>= λ map. Some (with_number map n)

-- each list that is kept has the code points of its origin
abbrev pub AreMade : Tables → BTreeMap Origin (Rc (List ℕ) Global) → Type 0
AreMade tables made = (origin : Origin) (list : Rc (List ℕ) Global) → get origin_cmp made origin ≡ Some list → HasSource list.value (of_origin tables origin)
