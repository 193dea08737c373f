-- Texts as lists of characters, and what stands in front of one.
use Rattle.std.specs.Prelude.{◌≡◌, ℕ, Bool, true, false, ◌==◌, ◌||◌, List, [], ◌∷◌, ◌++◌, Option, Some, None, option_and_then, codes, if◌then◌else◌}
use Prim.Native.Char.{Char, code}
use Prim.Native.String.{String}

abbrev pub Text : Type 0
Text = List ℕ

-- one step after another, where each may refuse the text
infixl 10 ◌>>=◌
abbrev pub ◌>>=◌ : {A B : Type 0} → Option A → (A → Option B) → Option B
o >>= f = option_and_then f o

-- goes on only if the test holds
infixl 10 ◌>>◌
abbrev pub ◌>>◌ : {B : Type 0} → Bool → Option B → Option B
test >> rest = if test then rest else None

abbrev pub is_among : ℕ → List ℕ → Bool
is_among c [] = false
is_among c (d ∷ []) = c == d
is_among c (d ∷ e ∷ rest) = (c == d) || is_among c (e ∷ rest)

-- the character is one of these
infix 60 ◌∈◌
abbrev pub ◌∈◌ : ℕ → String → Bool
c ∈ s = is_among c (codes s)

-- the text without the characters in front that pass the test
abbrev pub skip : (ℕ → Bool) → Text → Text
skip test [] = []
skip test (c ∷ t) = if test c then skip test t else c ∷ t

-- the characters in front that pass the test, and the rest
abbrev pub while_in : (ℕ → Bool) → Text → Text × Text
while_in test [] = ([], [])
while_in test (c ∷ t) = if test c then (c ∷ (while_in test t).0, (while_in test t).1) else ([], c ∷ t)

abbrev pub behind_code : ℕ → Text → Option Text
behind_code c [] = None
behind_code c (d ∷ t) = if d == c then Some t else None

-- what stands behind the character, where it is the first
abbrev pub behind : Char → Text → Option Text
behind c t = behind_code (code c) t

abbrev pub optional_code : ℕ → Text → Bool × Text
optional_code c [] = (false, [])
optional_code c (d ∷ t) = if d == c then (true, t) else (false, d ∷ t)

-- whether the character is the first, and the text without it
abbrev pub optional : Char → Text → Bool × Text
optional c t = optional_code (code c) t

-- the text is the front, its last character and the rest
pub record Ends (t front rest : Text) : Type 0 where
  pub last : ℕ
  pub parts : t ≡ front ++ last ∷ rest

-- the text is something, its last character and the rest
abbrev pub IsBehind : Text → Text → Type 0
IsBehind t rest = (front : Text) × Ends t front rest
