-- Names of variables (UAX 31), over the bytes that the code holds.
use Rattle.std.specs.Prelude.{◌≡◌, ℕ, List, Option, Some}
use Rattle.std.specs.Str.{chars}
use Rattle.cp_invlist.specs.InversionList.{contains}
use Rattle.uset_grammar.specs.Text.{Text}
use Rattle.uset_grammar.specs.Front.{name_in}

-- the longest name in front, under these sets of characters, and what stands behind it
abbrev pub name_at : List ℕ → List ℕ → List ℕ → Option (Text × Text)
name_at start continuing text = name_in (contains start) (contains continuing) (chars text)

-- the name there, and what stands behind it
abbrev pub NameIs : List ℕ → List ℕ → List ℕ → List ℕ → List ℕ → Type 0
NameIs start continuing text name rest = name_at start continuing text ≡ Some (chars name, chars rest)
