-- Sources that denote the same.
use Rattle.std.specs.Prelude.{◌≡◌, ℕ, List, Option}
use Rattle.cp_invlist.specs.InversionList.{IsInversionList}
use Rattle.cp_strset.specs.StringList.{AreCanonical}
use Rattle.cp_strset.specs.StringSet.{StringSet}
use Rattle.uset_grammar.specs.Tree.{Member, has}
use Rattle.uset_grammar.specs.Language.{Language}
use Rattle.uset_parse.specs.Reading.{IsRead}

-- the lists of a set as its type keeps them
pub record IsKept (set : StringSet) : Type 0 where
  pub code_points : IsInversionList set.code_points
  pub strings : AreCanonical set.strings

-- Two sources, each in its language, of which sets were read: where what they denote has the same members, the sets are one value.
abbrev pub EqualDenotations : Type 0
EqualDenotations = (l k : Option Language) (source other : List ℕ) (set again : StringSet) (n o : ℕ) → IsKept set →
    IsKept again →
    (first : IsRead l source set n) → (second : IsRead k other again o) →
    ((m : Member) → has first.tree m ≡ has second.tree m) → set ≡ again
