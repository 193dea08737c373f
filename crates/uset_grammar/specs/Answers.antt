-- What is answered for a source: a set at its front, or a fault.
use Rattle.std.specs.Prelude.{◌≡◌, ◌↔◌, ℕ, Option, Some, None}
use Rattle.uset_grammar.specs.Text.{Text}
use Rattle.uset_grammar.specs.Outcome.{Kind, internal}
use Rattle.uset_grammar.specs.Tree.{Tree}
use Rattle.uset_grammar.specs.Language.{Language, Lawful}
use Rattle.uset_grammar.specs.Grammar.{Reads}
use Rattle.uset_grammar.specs.Fault.{Fault}
use Rattle.uset_grammar.specs.Place.{offset_of}

pub data Answer : Type 0 where
  -- read, with this tree, and this text behind the set
  read : Tree → Text → Answer
  -- refused, with this kind, and the number of bytes before the place, where it has one
  refused : Kind → Option ℕ → Answer

-- What is read, where the three tables of the syntax are there.
pub data ReadsUnder (source : Text) (tree : Tree) (rest : Text) : Option Language → Type 0 where
  under : {l : Language} → Reads l source tree rest → ReadsUnder source tree rest (Some l)

-- A fault, where they are there; and where one is absent, an internal one without a place.
pub data FaultUnder (source : Text) : Option Language → Kind → Option Text → Type 0 where
  absent : FaultUnder source None internal None
  under_fault : {l : Language} {k : Kind} {p : Option Text} → Fault l source k p → FaultUnder source (Some l) k p

-- a fault of this kind at this byte offset
pub record IsFault (l : Option Language) (source : Text) (kind : Kind) (offset : Option ℕ) : Type 0 where
  pub place : Option Text
  pub fault : FaultUnder source l kind place
  pub is : offset ≡ offset_of kind place

-- The answer is the one of the source: it is a reading exactly where the grammar reads so, and a refusal exactly
-- where that is a fault.
pub record IsAnswer (l : Option Language) (source : Text) (a : Answer) : Type 0 where
  pub reads : (tree : Tree) (rest : Text) → (a ≡ read tree rest) ↔ ReadsUnder source tree rest l
  pub faults : (kind : Kind) (offset : Option ℕ) → (a ≡ refused kind offset) ↔ IsFault l source kind offset

-- where there is a syntax, it is lawful
pub record AllLawful (l : Option Language) : Type 0 where
  pub lawful : (some : Language) → l ≡ Some some → Lawful some
