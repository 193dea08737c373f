-- Sets by their members, which are code points and strings.
use Rattle.std.specs.Prelude.{◌≡◌, ℕ, Bool, false, List}
use Rattle.std.specs.BTreeSet.{contains_text}
use Rattle.std.specs.Str.{chars}
use Rattle.cp_invlist.specs.InversionList.{contains}
use Rattle.cp_strset.specs.StringList.{holds}
use Rattle.cp_strset.specs.StringSet.{StringSet}
use Rattle.uset_gather.specs.declared.gathered.Gathered.{Gathered}
use Rattle.uset_gather.specs.declared.operand.Operand.{Operand}
use Rattle.uset_gather.specs.declared.operand.Operand.TheVariants.{Gathered as Other, Set, CodePoints, Complement}
use Rattle.uset_gather.specs.declared.operand.Source.{Source}
use Rattle.uset_gather.specs.declared.operand.Source.TheVariants.{Lent, Shared}
use Rattle.uset_gather.specs.Painting.{in_painting}
use Rattle.uset_grammar.specs.Tree.{Member, point, string, is_text, in_source, negation}

-- the member was gathered
abbrev pub gathered_in : Gathered → Member → Bool
gathered_in g (point c) = in_painting g.code_points c
gathered_in g (string bytes) = contains_text g.strings bytes

-- what was gathered has these members
abbrev pub HasMembers : Gathered → (Member → Bool) → Type 0
HasMembers g members = (m : Member) → gathered_in g m ≡ members m

-- nothing was gathered
abbrev pub IsEmpty : Gathered → Type 0
IsEmpty g = (m : Member) → gathered_in g m ≡ false

-- whether the member is the string with these bytes
abbrev pub is_string : List ℕ → Member → Bool
is_string bytes m = is_text (chars bytes) m

-- whether the set has the member
abbrev pub in_set : StringSet → Member → Bool
in_set set (point c) = contains set.code_points c
in_set set (string bytes) = holds set.strings bytes

-- the inversion list of a source
abbrev pub list_in : Source → List ℕ
list_in (Lent list) = list.now
list_in (Shared list) = list.value

-- the operand has the member
abbrev pub operand_in : Operand → Member → Bool
operand_in (Other g) m = gathered_in g m
operand_in (Set set) m = in_set set.now m
operand_in (CodePoints source) m = in_source (contains (list_in source)) m
operand_in (Complement source) m = negation m (in_source (contains (list_in source)) m)
