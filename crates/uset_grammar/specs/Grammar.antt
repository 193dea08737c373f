-- The grammar of patterns (UTS 35, Unicode Sets): what is read at the front of a source. What follows it is free.
use Rattle.std.specs.Prelude.{◌≡◌, Bool, true, List, [], ◌∷◌, Some}
use Rattle.uset_grammar.specs.Text.{Text}
use Rattle.uset_grammar.specs.Property.{Query, PropertyRead}
use Rattle.uset_grammar.specs.Unit.{Meaning, UnitRead}
use Rattle.uset_grammar.specs.Tree.{Tree, Member, given, Steps}
use Rattle.uset_grammar.specs.Item.{Item, nested, Opening, tree_of}
use Rattle.uset_grammar.specs.Body.{Body}
use Rattle.uset_grammar.specs.Language.{Value, item_of, set, stands_for, Language, resolves, lacks, property_tree}
use Rattle.uset_grammar.specs.Front.{ahead, closing, opening, single, of_name, begins_unit, front, of_variable, of_bracket, of_property, first}

-- How an item is written.
pub data Sort : Type 0 where
  of_one_character : Sort
  of_variable_name : Sort
  of_unit : Sort

module _ (l : Language) where
  -- an item other than `]` and a bracket in front of the text, and what stands behind it
  pub data ItemAt : Text → Sort → Item → Text → Type 0 where
    one_character : {q r : Text} {i : Item} → front l q ≡ single i r → ItemAt q of_one_character i r
    variable : {q n r : Text} {v : Value} → front l q ≡ of_name n r → l.variable n ≡ Some v →
        ItemAt q of_variable_name (item_of v) r
    unit : {q r : Text} {m : Meaning} → front l q ≡ begins_unit →
        UnitRead l.white_space true (resolves l) (lacks l) q m r → ItemAt q of_unit (stands_for l m) r

  -- items one behind another, each behind white space, up to the first `]` that closes no bracket among them, and
  -- what stands behind it
  pub data ReadsItems : Text → List Item → Text → Type 0 where
    ends : {t rest : Text} → front l (ahead l t) ≡ closing rest → ReadsItems t [] rest
    reads : {t next rest : Text} {s : Sort} {i : Item} {is : List Item} → ItemAt (ahead l t) s i next →
        ReadsItems next is rest → ReadsItems t (i ∷ is) rest
    -- a bracket inside
    nests : {t inner next rest : Text} {o : Opening} {js is : List Item} {steps : Steps} →
        front l (ahead l t) ≡ opening o inner → ReadsItems inner js next → Body js steps → ReadsItems next is rest →
        ReadsItems t (nested (tree_of o steps) ∷ is) rest

  -- a set at the front of the source: a bracket, a property, or a variable that is bound to a set; and what stands
  -- behind it
  pub data Reads : Text → Tree → Text → Type 0 where
    a_bracket : {t inner rest : Text} {o : Opening} {is : List Item} {steps : Steps} →
        first l t ≡ of_bracket o inner → ReadsItems inner is rest → Body is steps → Reads t (tree_of o steps) rest
    a_property : {t rest : Text} {q : Query} → first l t ≡ of_property →
        PropertyRead l.white_space (resolves l) (lacks l) t q rest → Reads t (property_tree l q) rest
    a_variable : {t n rest : Text} {members : Member → Bool} → first l t ≡ of_variable n rest →
        l.variable n ≡ Some (set members) → Reads t (given members) rest
