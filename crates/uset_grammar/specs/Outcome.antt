-- What is read where an escape, a string or a property begins: a value, a fault at one place, or the end of the text
-- inside it. A unit is told by its shapes, which are the whole texts that it has whatever the values in it are, and
-- by its slips, which are the characters at which a value is refused (UTS 35, Unicode Sets).
use Rattle.std.specs.Prelude.{◌≡◌, ◌↔◌, ◌≢◌, ℕ, [], ◌∷◌, ◌++◌, codes}
use Rattle.uset_grammar.specs.Text.{Text}

-- What is wrong at a place.
pub data Kind : Type 0 where
  -- the character can't stand there
  unexpected : ℕ → Kind
  -- `\N`, which isn't read
  unimplemented : Kind
  -- a number is no code point, or a surrogate where characters are due
  invalid_escape : Kind
  -- the property resolves to nothing
  unknown_property : Kind
  -- a table is absent
  internal : Kind
  -- the name is bound to nothing
  unknown_variable : Kind
  -- what the name is bound to can't stand there
  unexpected_variable : Kind
  -- more is due at the end
  eof : Kind

-- A value and what stands behind the unit; a kind of fault and the text before its place; or the text ends inside the
-- unit.
pub data Outcome (V : Type 0) : Type 0 where
  got : V → Text → Outcome V
  faulty : Kind → Text → Outcome V
  ended : Outcome V

-- neither empty nor an opening bracket alone, which begins a bracket too
abbrev pub Enough : Text → Type 0
Enough t = (t ≢ []) × (t ≢ codes "[")

-- The text is a proper prefix of a shape.
pub record Begins (Shape : Text → Type 0) (t : Text) : Type 0 where
  pub next : ℕ
  pub more : Text
  pub shape : Shape (t ++ next ∷ more)

-- no prefix of the text slips at its last character
abbrev pub NoSlip : (Text → ℕ → Kind → Text → Type 0) → Text → Type 0
NoSlip Slips t = (p u : Text) (c : ℕ) (k : Kind) (b : Text) → t ≡ p ++ c ∷ u → Slips p c k b → ⊥

module _ (Shape : Text → Type 0) (Slips : Text → ℕ → Kind → Text → Type 0) where
  -- The text may go on to a unit, and nothing in it is refused.
  pub record Sound (t : Text) : Type 0 where
    pub enough : Enough t
    pub begins : Begins Shape t
    pub no_slip : NoSlip Slips t

  -- Behind the text the character slips, or with it no shape begins; a kind, and the text before the place.
  pub data FailsAt (t : Text) (c : ℕ) : Kind → Text → Type 0 where
    slips : {k : Kind} {b : Text} → Slips t c k b → FailsAt t c k b
    unfit : ((k : Kind) (b : Text) → Slips t c k b → ⊥) → ((u : Text) → Shape (t ++ c ∷ u) → ⊥) →
        FailsAt t c (unexpected c) t

  -- A prefix of the text is sound, and fails at its next character.
  pub record Faulty (q : Text) (k : Kind) (b : Text) : Type 0 where
    pub front : Text
    pub next : ℕ
    pub more : Text
    pub parts : q ≡ front ++ next ∷ more
    pub sound : Sound front
    pub fails : FailsAt front next k b

-- The outcome is the one of the text: it is a value and a rest exactly where these are read, a fault exactly where a
-- prefix fails so, and the end exactly where the whole text is sound.
pub record HasOutcome {V : Type 0} (Read : Text → V → Text → Type 0) (Shape : Text → Type 0)
    (Slips : Text → ℕ → Kind → Text → Type 0) (q : Text) (o : Outcome V) : Type 0 where
  pub reads : (v : V) (r : Text) → (o ≡ got v r) ↔ Read q v r
  pub faults : (k : Kind) (b : Text) → (o ≡ faulty k b) ↔ Faulty Shape Slips q k b
  pub ends : (o ≡ ended) ↔ Sound Shape Slips q

-- the outcome with what the value stands for
abbrev pub meaning : {V W : Type 0} → (V → W) → Outcome V → Outcome W
meaning f (got v r) = got (f v) r
meaning f (faulty k b) = faulty k b
meaning f ended = ended
