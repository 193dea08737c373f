-- A property that is read part by part, up to the end mark and behind it (UTS 35, Unicode Sets; UTS 18, 1.2).
use Rattle.std.specs.Prelude.{ℕ, Bool, true, false, not, ◌==◌, [], ◌∷◌, ◌++◌, Some, None, if◌then◌else◌}
use Prim.Native.Char.{code}
use Rattle.uset_grammar.specs.Text.{Text, ◌∈◌}
use Rattle.uset_grammar.specs.Outcome.{Outcome, got, faulty, ended, unexpected}
use Rattle.uset_grammar.specs.Property.{Query, Form, posix, perl, mark, is_key, unresolved}
use Rattle.uset_grammar.specs.Parts.{and_then, char_in}

abbrev pub is_nothing : Text → Bool
is_nothing [] = true
is_nothing (c ∷ t) = false

-- whether a `^` stands in front, which is taken
abbrev pub caret_in : Text → Outcome Bool
caret_in [] = got false []
caret_in (c ∷ t) = if c ∈ "^" then got true t else got false (c ∷ t)

-- behind the opening bracket: the colon, and whether a `^` stands at once behind it
abbrev pub posix_front_in : Text → Outcome Bool
posix_front_in t = and_then (char_in (code ":") t) (λ z. caret_in)

-- behind the backslash: the letter, which is a capital where it negates, and the opening brace
abbrev pub perl_front_in : Text → Outcome Bool
perl_front_in [] = ended
perl_front_in (c ∷ t) =
    if c ∈ "p" then and_then (char_in (code "{") t) (λ z. got false)
    else if c ∈ "P" then and_then (char_in (code "{") t) (λ z. got true)
    else faulty (unexpected c) (c ∷ t)

-- what stands in front of the inner text, and whether it negates
abbrev pub front_in : Text → Outcome (Form × Bool)
front_in [] = ended
front_in (c ∷ t) =
    if c ∈ "[" then and_then (posix_front_in t) (λ n. got (posix, n))
    else and_then (perl_front_in t) (λ n. got (perl, n))

-- What ends a key.
pub data Sign : Type 0 where
  -- the end mark of the property
  end_mark : Sign
  -- `=`
  equal : Sign
  -- `≠`, which negates
  unequal : Sign

-- What a character is to a key.
pub data KeyPart : Type 0 where
  -- white space, which is dropped
  space : KeyPart
  -- a character of the key
  letter : KeyPart
  -- what ends the key
  ends : Sign → KeyPart
  -- what can't stand there
  unfit : KeyPart

module _ (white_space : ℕ → Bool) (form : Form) where
  abbrev pub key_part : ℕ → KeyPart
  key_part c =
      if c == mark form then ends end_mark
      else if white_space c then space
      else if is_key c then letter
      else if c ∈ "=" then ends equal
      else if c ∈ "≠" then ends unequal
      else unfit

  abbrev pub key_goes : KeyPart → Text → ℕ → Text → (Text → Outcome (Text × Sign)) → Outcome (Text × Sign)
  key_goes space key c t go = go key
  key_goes letter key c t go = go (key ++ c ∷ [])
  key_goes (ends sign) key c t go = if is_nothing key then faulty (unexpected c) (c ∷ t) else got (key, sign) (c ∷ t)
  key_goes unfit key c t go = faulty (unexpected c) (c ∷ t)

  -- the key behind what was read of it, and what ends it, at which the rest begins
  abbrev pub key_in : Text → Text → Outcome (Text × Sign)
  key_in key [] = ended
  key_in key (c ∷ t) = key_goes (key_part c) key c t (λ k. key_in k t)

  -- the value behind what was read of it, up to the end mark, at which the rest begins
  abbrev pub value_in : Text → Text → Outcome Text
  value_in value [] = ended
  value_in value (c ∷ t) =
      if c == mark form then (if is_nothing value then faulty (unexpected c) (c ∷ t) else got value (c ∷ t))
      else if white_space c then value_in value t
      else value_in (value ++ c ∷ []) t

  -- the value behind the sign
  abbrev pub value_behind : Text → Outcome Text
  value_behind [] = ended
  value_behind (c ∷ t) = value_in [] t

  abbrev pub with_value_in : Bool → Text → Text → Outcome Query
  with_value_in negated key t =
      and_then (value_behind t) (λ v. got (record { negated = negated; key = key; value = Some v }))

  abbrev pub ended_key_in : Bool → Text → Sign → Text → Outcome Query
  ended_key_in negated key end_mark t = got (record { negated = negated; key = key; value = None }) t
  ended_key_in negated key equal t = with_value_in negated key t
  ended_key_in negated key unequal t = with_value_in (not negated) key t

  -- what the inner text asks, up to the end mark
  abbrev pub query_in : Bool → Text → Outcome Query
  query_in negated t = and_then (key_in [] t) (λ p. ended_key_in negated p.0 p.1)

-- what the property in front asks, up to the end mark
abbrev pub asked_in : (ℕ → Bool) → Text → Outcome (Form × Query)
asked_in white_space t =
    and_then (front_in t) (λ f u. and_then (query_in white_space f.0 f.1 u) (λ q. got (f.0, q)))

abbrev pub closing_in : Form → Text → Outcome (Unit {0})
closing_in posix t = char_in (code "]") t
closing_in perl t = got tt t

-- the end mark, and the `]` at once behind that of `[:..:]`
abbrev pub close_in : Form → Text → Outcome (Unit {0})
close_in form t = and_then (char_in (mark form) t) (λ z. closing_in form)

module _ (white_space : ℕ → Bool) (resolves lacks : Query → Bool) where
  -- what is asked at the end mark: whether it resolves, and then what closes it
  abbrev pub judged : Form → Query → Text → Outcome Query
  judged form query at =
      if resolves query then and_then (close_in form at) (λ z. got query)
      else faulty (unresolved white_space resolves lacks query) at

  -- the whole property in front
  abbrev pub property_in : Text → Outcome Query
  property_in t = and_then (asked_in white_space t) (λ x. judged x.0 x.1)
