-- What a pattern denotes (UTS 35, Unicode Sets): a bracket gathers step by step, from left to right.
use Rattle.std.specs.Prelude.{ℕ, Bool, false, not, ◌&&◌, ◌||◌, nat_le, List, encode_utf8_all, if◌then◌else◌}
use Rattle.std.specs.Str.{bytes_eq}
use Prim.Native.Char.{code}
use Rattle.cp_invlist.specs.InversionList.{is_code_point}
use Rattle.uset_grammar.specs.Text.{Text}

-- What a set may have: a code point, or a string, by its bytes in UTF-8.
pub data Member : Type 0 where
  point : ℕ → Member
  string : List ℕ → Member

mutual
  pub data Tree : Type 0 where
    -- the set that a variable is bound to, by its members
    given : (Member → Bool) → Tree
    -- a property: whether it is negated, and the code points of its source
    property : Bool → (ℕ → Bool) → Tree
    -- whether it is negated, whether it begins with a hyphen, and its steps
    bracket : Bool → Bool → Steps → Tree

  pub data Steps : Type 0 where
    done : Steps
    -- adds the code points from the first number to the second
    add : ℕ → ℕ → Steps → Steps
    -- adds a string
    add_text : Text → Steps → Steps
    -- adds the members of a set
    join : Tree → Steps → Steps
    -- takes the members of a set away
    remove : Tree → Steps → Steps
    -- keeps only the members of a set
    keep : Tree → Steps → Steps

-- a code point from the first to the last
abbrev pub in_range : ℕ → ℕ → Member → Bool
in_range first last (point c) = nat_le first c && nat_le c last
in_range first last (string bytes) = false

-- the string of these characters
abbrev pub is_text : Text → Member → Bool
is_text t (point c) = false
is_text t (string bytes) = bytes_eq (encode_utf8_all t) bytes

-- a code point that the source has; a property has no strings
abbrev pub in_source : (ℕ → Bool) → Member → Bool
in_source source (point c) = source c
in_source source (string bytes) = false

-- what is negated has the other code points, and no strings
abbrev pub negation : Member → Bool → Bool
negation (point c) b = is_code_point c && not b
negation (string bytes) b = false

-- U+002D, where a bracket begins with a hyphen
abbrev pub leading_hyphen : Bool → Member → Bool
leading_hyphen leading m = leading && in_range (code "-") (code "-") m

abbrev mutual
  -- whether the tree has the member
  pub has : Tree → Member → Bool
  has (given members) m = members m
  has (property negated source) m = if negated then negation m (in_source source m) else in_source source m
  has (bracket negated leading steps) m =
      if negated then negation m (gathers steps m (leading_hyphen leading m))
      else gathers steps m (leading_hyphen leading m)

  -- whether it is a member once the steps are done, where the Bool says whether it was one before
  pub gathers : Steps → Member → Bool → Bool
  gathers done m b = b
  gathers (add first last steps) m b = gathers steps m (b || in_range first last m)
  gathers (add_text t steps) m b = gathers steps m (b || is_text t m)
  gathers (join t steps) m b = gathers steps m (b || has t m)
  gathers (remove t steps) m b = gathers steps m (b && not (has t m))
  gathers (keep t steps) m b = gathers steps m (b && has t m)
