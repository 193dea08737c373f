-- Properties (UTS 35, Unicode Sets; UTS 18, 1.2): `[:key=value:]`, `\p{key=value}` and `\P{key=value}`, their shapes,
-- and where they slip.
use Rattle.std.specs.Prelude.{◌≡◌, ℕ, Bool, true, false, not, ◌&&◌, ◌||◌, ◌==◌, nat_le, [], ◌∷◌, ◌++◌, codes, Option, Some, None, if◌then◌else◌}
use mathlib.Core.Logic.{◌⊎◌}
use Prim.Native.Char.{code}
use Rattle.uset_grammar.specs.Text.{Text, ◌>>=◌, ◌∈◌, behind}
use Rattle.uset_grammar.specs.Outcome.{Kind, Outcome, HasOutcome, unknown_property, internal}

-- an ASCII letter or digit, or `_`
unfoldable pub is_key : ℕ → Bool
is_key c =
    (nat_le (code "0") c && nat_le c (code "9")) || ((nat_le (code "A") c && nat_le c (code "Z")) ||
    ((nat_le (code "a") c && nat_le c (code "z")) || c ∈ "_"))

-- What a property asks: a key, and a value or none; it is negated by an odd number of the `^` behind `[:`, the `P` of
-- `\P{` and the `≠` before the value.
pub record Query : Type 0 where
  pub negated : Bool
  pub key : Text
  pub value : Option Text

pub data Form : Type 0 where
  -- `[:..:]`
  posix : Form
  -- `\p{..}` and `\P{..}`
  perl : Form

-- the mark that ends the inner text
abbrev pub mark : Form → ℕ
mark posix = code ":"
mark perl = code "}"

-- what stands before the first such character, and behind it
abbrev pub up_to : ℕ → Text → Option (Text × Text)
up_to m [] = None
up_to m (c ∷ t) = if c == m then Some ([], t) else (up_to m t >>= λ p. Some (c ∷ p.0, p.1))

-- a key, and no value
abbrev pub no_value : Bool → Text → Option Query
no_value negated [] = None
no_value negated (c ∷ key) = Some (record { negated = negated; key = c ∷ key; value = None })

-- a key and a value, neither of which is empty
abbrev pub with_value : Bool → Text → Text → Option Query
with_value negated [] value = None
with_value negated (c ∷ key) [] = None
with_value negated (c ∷ key) (d ∷ value) = Some (record { negated = negated; key = c ∷ key; value = Some (d ∷ value) })

-- what an inner text without white space asks, behind what was read of its key
abbrev pub query : Bool → Text → Text → Option Query
query negated key [] = no_value negated key
query negated key (c ∷ t) =
    if is_key c then query negated (key ++ c ∷ []) t
    else if c ∈ "=" then with_value negated key t
    else if c ∈ "≠" then with_value (not negated) key t
    else None

-- behind the end mark: a `]` at once, or nothing
abbrev pub closed : Form → Query → Text → Option (Query × Text)
closed posix n t = behind "]" t >>= λ u. Some (n, u)
closed perl n t = Some (n, t)

-- A property begins, or a backslash.
abbrev pub PropertyBegins : Text → Type 0
PropertyBegins q = (t : Text) × ((q ≡ code "[" ∷ code ":" ∷ t) ⊎ (q ≡ code "\\" ∷ t))

module _ (white_space : ℕ → Bool) where
  abbrev pub without_white : Text → Text
  without_white [] = []
  without_white (c ∷ t) = if white_space c then without_white t else c ∷ without_white t

  -- an inner text, from which white space is dropped, and what closes it
  abbrev pub inner : Form → Bool → Text → Option (Query × Text)
  inner form negated t = do
    p ← up_to (mark form) t
    n ← query negated [] (without_white p.0)
    closed form n p.1

  abbrev pub caret_or : Text → Option Text → Option (Query × Text)
  caret_or t None = inner posix false t
  caret_or t (Some u) = inner posix true u

  abbrev pub perl_shape : Text → Option (Query × Text)
  perl_shape [] = None
  perl_shape (c ∷ t) =
      if c ∈ "p" then (behind "{" t >>= inner perl false)
      else if c ∈ "P" then (behind "{" t >>= inner perl true)
      else None

  -- what a property asks, and what stands behind it
  abbrev pub property_shape : Text → Option (Query × Text)
  property_shape [] = None
  property_shape (c ∷ t) =
      if c ∈ "[" then (behind ":" t >>= λ u. caret_or u (behind "^" u))
      else if c ∈ "\\" then perl_shape t
      else None

  -- the text is a property, whether it resolves or not
  abbrev pub PropertyShape : Text → Type 0
  PropertyShape t = (v : Query) × (property_shape t ≡ Some (v, []))

  -- which queries resolve, and which of the others lack a table
  module _ (resolves lacks : Query → Bool) where
    abbrev pub unresolved : Query → Kind
    unresolved n = if lacks n then internal else unknown_property

    -- A property stands in front, and it resolves.
    pub record PropertyRead (q : Text) (v : Query) (r : Text) : Type 0 where
      pub shape : property_shape q ≡ Some (v, r)
      pub fits : resolves v ≡ true

    -- A property slips at its end mark, where it resolves to nothing. The text before the mark stands for the place,
    -- which is one byte before the mark.
    pub data PropertySlips : Text → ℕ → Kind → Text → Type 0 where
      posix_mark : {t : Text} {n : Query} →
          property_shape (t ++ codes ":]") ≡ Some (n, []) → resolves n ≡ false →
          PropertySlips t (code ":") (unresolved n) t
      perl_mark : {t : Text} {n : Query} →
          property_shape (t ++ codes "}") ≡ Some (n, []) → resolves n ≡ false →
          PropertySlips t (code "}") (unresolved n) t

    -- the outcome is the one of a text that begins as a property
    abbrev pub PropertyOutcome : Text → Outcome Query → Type 0
    PropertyOutcome q o = HasOutcome PropertyRead PropertyShape PropertySlips q o
