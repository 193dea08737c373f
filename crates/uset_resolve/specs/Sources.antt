-- What the code answers for a key and a value.
use Rattle.std.specs.Prelude.{◌≡◌, ℕ, Bool, true, false, List, Option, Some, None}
use Rattle.cp_invlist.specs.InversionList.{contains}
use Rattle.prop_data.specs.Tables.{Tables}
use Rattle.uset_gather.specs.declared.operand.Source.{Source as CodeSource}
use Rattle.uset_gather.specs.Gathered.{list_in}
use Rattle.uset_grammar.specs.Language.{Resolved}
use Rattle.uset_resolve.specs.Keys.{Asked, categories, extensions, values}
use Rattle.uset_resolve.specs.Resolution.{Source, resolve_bytes, lacking_bytes}
use Rattle.uset_resolve.specs.declared.key.Key.{Key}
use Rattle.uset_resolve.specs.declared.key.Key.TheVariants.{Categories, Extensions, Values}
use Rattle.uset_resolve.specs.declared.query.Resolution.{Resolution}
use Rattle.uset_resolve.specs.declared.query.Resolution.TheVariants.{Found, Unknown, Lacking}

-- the key of the code is this one, and its two tables have one number
abbrev pub IsKey : Key → Asked → Type 0
IsKey Categories k = k ≡ categories
IsKey Extensions k = k ≡ extensions
IsKey (Values map names) k = (k ≡ values map) × (names ≡ map)

abbrev pub AreKeys : Option Key → Option Asked → Type 0
AreKeys None o = o ≡ None
AreKeys (Some key) o = (k : Asked) × (o ≡ Some k) × IsKey key k

-- the list has the code points of the source
pub record HasSource (list : List ℕ) (o : Option Source) : Type 0 where
  pub source : Source
  pub is : o ≡ Some source
  pub members : (c : ℕ) → contains list c ≡ source c

-- the list of the source, or there is none
abbrev pub IsList : Option (List ℕ) → Option Source → Type 0
IsList None o = o ≡ None
IsList (Some list) o = HasSource list o

abbrev pub IsSource : Option CodeSource → Option Source → Type 0
IsSource None o = o ≡ None
IsSource (Some source) o = HasSource (list_in source) o

-- the list of the source of what was resolved, which is negated or not
pub record Resolves (list : List ℕ) (falsy : Bool) (o : Option Resolved) : Type 0 where
  pub source : Source
  pub is : o ≡ Some (record { falsy = falsy; source = source })
  pub members : (c : ℕ) → contains list c ≡ source c

-- What the code answers is what was resolved; or that is nothing, and a table is absent or not.
abbrev pub IsResolution : Resolution → Option Resolved → Bool → Type 0
IsResolution (Found source falsy) o lacks = Resolves (list_in source) falsy o
IsResolution Unknown o lacks = (o ≡ None) × (lacks ≡ false)
IsResolution Lacking o lacks = (o ≡ None) × (lacks ≡ true)

-- what the key and the value resolve to over these tables
abbrev pub ResolvesTo : Tables → List ℕ → Option (List ℕ) → Resolution → Type 0
ResolvesTo tables key value r = IsResolution r (resolve_bytes tables key value) (lacking_bytes tables key value)
