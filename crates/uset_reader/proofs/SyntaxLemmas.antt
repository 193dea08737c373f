-- White space that the tables of a database may hold.
use Rattle.std.proofs.Common.{◌≡◌, ℕ, Bool, true, Option, Some, None, refl, sym, subst, ◌∙◌, arith}
use Rattle.std.proofs.lemmas.Bool.Decides.{nat_tests}
use Rattle.std.specs.Char.{is_ascii_graphic}
use Rattle.std.proofs.lemmas.Bool.{false_from_ne_true, true≢false}
use Rattle.prop_data.specs.Forbidden.{is_forbidden, IsAllowed, AreAllowed}
use Rattle.prop_data.specs.Tables.{Tables}
use Rattle.uset_grammar.specs.Escape.{is_hex, Apart}
use Rattle.uset_grammar.specs.Language.{Language, Value, Lawful}
use Rattle.uset_grammar.specs.Text.{Text, ◌>>=◌}
use Rattle.uset_grammar.specs.Answers.{AllLawful}
use Rattle.uset_reader.specs.Syntaxes.{language_by, language_of}

-- a hexadecimal digit is a visible ASCII character
digit_forbidden : (c : ℕ) → is_hex c ≡ true → is_forbidden 51 c ≡ true
unfolding is_hex
digit_forbidden c h = grind (arith, nat_tests)

-- so is each visible ASCII character
pub visible_forbidden : (c : ℕ) → is_ascii_graphic c ≡ true → is_forbidden 51 c ≡ true
visible_forbidden c h = grind (arith, nat_tests)

pub allowed-apart : (members : ℕ → Bool) → IsAllowed 51 members → Apart members
allowed-apart members allowed = record {
  no_digit = λ c member. false_from_ne_true (is_hex c) (λ digit. true≢false (sym member ∙ allowed c (digit_forbidden c digit)));
  no_brace = allowed _ refl;
  no_backslash = allowed _ refl;
}

lawful_by : (tables : Tables) → AreAllowed tables → (variable : Text → Option Value) (white_space start continue : Option (ℕ → Bool)) → tables.sets 51 ≡ white_space → (l : Language) →
    (white_space >>= λ w. start >>= λ s. continue >>= λ c. Some (language_by w s c variable tables)) ≡ Some l → Lawful l
lawful_by tables allows variable None start continue there l h = cc
lawful_by tables allows variable (Some w) None continue there l h = cc
lawful_by tables allows variable (Some w) (Some s) None there l h = cc
lawful_by tables allows variable (Some w) (Some s) (Some c) there l h =
    let is : language_by w s c variable tables ≡ l = cc in
    let allowed = allows 51 w there in
    let lawful : Lawful (language_by w s c variable tables) = allowed-apart w allowed in
    subst Lawful is lawful

-- the language of tables that a database may hold is lawful
pub all_lawful : (tables : Tables) → AreAllowed tables → (variable : Text → Option Value) → AllLawful (language_of variable tables)
all_lawful tables allows variable = record { lawful = λ l h. lawful_by tables allows variable (tables.sets 51) (tables.sets 68) (tables.sets 67) refl l h }
