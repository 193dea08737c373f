-- Laws of resolution, over the definitions alone.
use Rattle.std.specs.Prelude.{◌≡◌, ℕ, Bool, Option, Some}
use Rattle.prop_data.specs.Tables.{Tables}
use Rattle.uset_grammar.specs.Text.{Text}
use Rattle.uset_grammar.specs.Finite.{IsBounded}
use Rattle.uset_grammar.specs.Language.{Resolved}
use Rattle.uset_resolve.specs.Resolution.{resolve}

-- Where each set of the tables ends, so does each source that a property resolves to.
abbrev pub SourcesAreBounded : Type 0
SourcesAreBounded =
    (tables : Tables) → ((t : ℕ) (members : ℕ → Bool) → tables.sets t ≡ Some members → IsBounded members) →
    (key : Text) (value : Option Text) (r : Resolved) → resolve tables key value ≡ Some r → IsBounded r.source
