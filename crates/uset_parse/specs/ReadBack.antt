-- A set with strings that is written as a pattern and read back.
use Rattle.std.specs.Prelude.{◌≡◌, ◌≢◌, ℕ, ◌≤◌, Bool, true, false, All, List, length, ◌++◌, Option, Some, None}
use Rattle.std.specs.Str.{IsUtf8, chars}
use Rattle.cp_invlist.specs.InversionList.{contains, IsInversionList}
use Rattle.cp_invlist.specs.Ranges.{in_ranges, AreMaximalRanges}
use Rattle.cp_invlist.specs.declared.ranges.CodePointRange.{CodePointRange}
use Rattle.cp_strset.specs.PatternText.{pattern_text, IsPatternOf}
use Rattle.cp_strset.specs.StringList.{holds, AreCanonical}
use Rattle.cp_strset.specs.StringSet.{StringSet}
use Rattle.prop_data.specs.Forbidden.{AreAllowed}
use Rattle.prop_data.specs.Tables.{Tables}
use Rattle.uset_grammar.specs.Text.{Text, ◌∈◌}
use Rattle.uset_grammar.specs.Escape.{is_hex}
use Rattle.uset_grammar.specs.Outcome.{internal}
use Rattle.uset_grammar.specs.Tree.{Tree, Member, point, string, has}
use Rattle.uset_grammar.specs.Language.{Language, Value}
use Rattle.uset_grammar.specs.Grammar.{Reads}
use Rattle.uset_gather.specs.Gathered.{in_set}
use Rattle.uset_fault.specs.declared.error.ParseError.{ParseError}
use Rattle.uset_fault.specs.Errors.{Tells}
use Rattle.uset_reader.specs.Syntaxes.{language_of}

-- White space is none of the characters of which a pattern in escapes is made.
pub record LeavesEscapes (white_space : ℕ → Bool) : Type 0 where
  pub no_sign : (c : ℕ) → c ∈ "[]{}\\u-" ≡ true → white_space c ≡ false
  pub no_digit : (c : ℕ) → is_hex c ≡ true → white_space c ≡ false

-- The range has a member, and its members are code points.
pub record IsRange (r : CodePointRange) : Type 0 where
  pub order : r.start ≤ r.end
  pub code_points : r.end ≤ 0x10_FFFF

-- The bytes are a text, and not of exactly one character, which would be a code point.
pub record IsLongText (bytes : List ℕ) : Type 0 where
  pub text : IsUtf8 bytes
  pub not_one : length (chars bytes) ≢ 1

-- The pattern is read, up to what follows it, and what it denotes has these members.
pub record IsReadBack (l : Language) (pattern : Text) (members : Member → Bool) (rest : Text) : Type 0 where
  pub tree : Tree
  pub reads : Reads l (pattern ++ rest) tree rest
  pub same : (m : Member) → has tree m ≡ members m

-- a code point that one of the ranges has, or a string of the list
abbrev pub is_written : List CodePointRange → List (List ℕ) → Member → Bool
is_written rs ss (point c) = in_ranges rs c
is_written rs ss (string bytes) = holds ss bytes

-- What a set with strings is, as its type keeps it; its strings are texts, since those of the type are.
pub record IsStringSet (set : StringSet) : Type 0 where
  pub code_points : IsInversionList set.code_points
  pub strings : AreCanonical set.strings
  pub texts : All IsUtf8 set.strings

-- Ranges and strings that are written in escapes are read back, whatever follows them, in every language whose white space leaves
-- escapes alone.
abbrev pub EscapesAreRead : Type 0
EscapesAreRead = (l : Language) → LeavesEscapes l.white_space → (rs : List CodePointRange) (ss : List (List ℕ)) →
    All IsRange rs → All IsLongText ss →
    (rest : Text) → IsReadBack l (chars (pattern_text rs ss)) (is_written rs ss) rest

-- Under tables that a database may hold, those of the syntax among them, and all variables a set with strings that is written as a
-- pattern is read back, whatever follows it.
abbrev pub Inverse : Type 0
Inverse = (tables : Tables) → AreAllowed tables → (variable : Text → Option Value) (l : Language) →
    language_of variable tables ≡ Some l →
    (set : StringSet) → IsStringSet set → (rs : List CodePointRange) → AreMaximalRanges (contains set.code_points) rs →
    (rest : Text) → IsReadBack l (chars (pattern_text rs set.strings)) (in_set set) rest

-- The answer of a call that reads a set back that was written: the set itself, and how many bytes its pattern has.
pub record IsWholeSet (set read : StringSet) (n : ℕ) : Type 0 where
  pub pattern : List ℕ
  pub written : IsPatternOf set pattern
  pub same : read ≡ set
  pub whole : n ≡ length pattern

-- The error says that a table of the syntax is absent, or that memory was refused.
abbrev pub LacksSyntax : Option Language → ParseError → Type 0
LacksSyntax l error = Tells error (λ kind offset. (l ≡ None) × (kind ≡ internal) × (offset ≡ None))
