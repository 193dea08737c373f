-- Rows of emoji tables.
use Rattle.std.proofs.Common.{◌≡◌, ℕ, Bool, true, false, cond, ◌||◌, ◌&&◌, nat_lt, nat_le, List, [], ◌∷◌, length, Option, Some, None, option_map, option_and_then, unwrap_or, refl, sym, ap, ◌∙◌, arith}
use Rattle.std.proofs.lemmas.Bool.Decides.{nat_tests}
use Rattle.std.proofs.lemmas.Str.{chars-encodes}
use Rattle.std.specs.List.{list_any}
use Rattle.std.specs.Str.{all_scalars, chars}
use Rattle.std.proofs.lemmas.Bool.{or_parts, eq-eqb}
use Rattle.cp_strset.specs.StringList.{sole_of}
use Rattle.prop_data.specs.declared.error.TableErrorKind.TheVariants.{TooLarge, StringOfOne, StringTwice}
use Rattle.prop_data.specs.Changes.{with_emoji}
use Rattle.prop_data.specs.Headers.{emoji_table}
use Rattle.prop_data.specs.LineFault.{row_fault, emoji_row_fault, string_fault, is_one, no_emoji}
use Rattle.prop_data.specs.Numbers.{range}
use Rattle.prop_data.specs.Strings.{braced, spelled_numbers, is_surrogate, string_numbers, without_surrogates, text_of_numbers, text_spelled, range_in, range_unless, string_in}
use Rattle.prop_data.specs.Tables.{EmojiMembers, Tables}

-- a row of an emoji table is tested against the members of its table
pub emoji_row : (t : ℕ) (last : Option ℕ) (first : List ℕ) (second inner : Option (List ℕ)) (members : EmojiMembers) (tables : Tables) → second ≡ None → inner ≡ braced first →
    row_fault (with_emoji t members tables) (Some (emoji_table t)) last (first, second) ≡ emoji_row_fault members last first inner
emoji_row t last first second inner members tables one is =
    ap (λ (s : Option (List ℕ)). row_fault (with_emoji t members tables) (Some (emoji_table t)) last (first, s)) one
    ∙ (ap (λ (b : Bool). emoji_row_fault (unwrap_or (cond b (Some members) (tables.emoji t)) no_emoji) last first (braced first)) (eq-eqb t t refl)
    ∙ ap (emoji_row_fault members last first) (sym is))

-- what no string spells
pub range_in-range : (first : List ℕ) → None ≡ braced first → range_in first ≡ range first
range_in-range first is = ap (λ (o : Option (List ℕ)). range_unless o first) (sym is)

pub string_in-range : (first : List ℕ) → None ≡ braced first → string_in first ≡ None
string_in-range first is = ap (λ (o : Option (List ℕ)). option_map text_of_numbers (option_and_then string_numbers o)) (sym is)

pub range_in-string : (first inner : List ℕ) → Some inner ≡ braced first → range_in first ≡ None
range_in-string first inner is = ap (λ (o : Option (List ℕ)). range_unless o first) (sym is)

pub string_in-string : (first inner : List ℕ) → Some inner ≡ braced first → string_in first ≡ option_map text_of_numbers (string_numbers inner)
string_in-string first inner is = ap (λ (o : Option (List ℕ)). option_map text_of_numbers (option_and_then string_numbers o)) (sym is)

no_character : (n : ℕ) → is_surrogate n ≡ false → nat_lt 0x10_FFFF n ≡ false → cond (nat_lt n 55296) true (nat_le 57344 n && nat_lt n 1114112) ≡ true
no_character n apart small = grind (arith, nat_tests)

far_character : (n : ℕ) → nat_lt 0x10_FFFF n ≡ true → cond (nat_lt n 55296) true (nat_le 57344 n && nat_lt n 1114112) ≡ false
far_character n far = grind (arith, nat_tests)

-- numbers without surrogates that are not all characters' have one past the last
pub past_all : (ns : List ℕ) (b : Bool) → list_any is_surrogate ns ≡ false → all_scalars ns ≡ b → list_any (nat_lt 0x10_FFFF) ns ≡ cond b false true
past_all ns b apart is = each ns apart ∙ ap (λ x. cond x false true) is
  where
    step : (n : ℕ) (far others all : Bool) → nat_lt 0x10_FFFF n ≡ far → is_surrogate n ≡ false → others ≡ cond all false true →
        (far || others) ≡ cond (cond (nat_lt n 55296) true (nat_le 57344 n && nat_lt n 1114112) && all) false true
    step n true others all is apart rest = ap (λ x. cond (x && all) false true) (sym (far_character n is))
    step n false others all is apart rest = rest ∙ ap (λ x. cond (x && all) false true) (sym (no_character n apart is))

    each : (ns : List ℕ) → list_any is_surrogate ns ≡ false → list_any (nat_lt 0x10_FFFF) ns ≡ cond (all_scalars ns) false true
    each [] apart = refl
    each (n ∷ ns) apart =
        let p = or_parts (is_surrogate n) (list_any is_surrogate ns) apart in
        step n (nat_lt 0x10_FFFF n) (list_any (nat_lt 0x10_FFFF) ns) (all_scalars ns) refl p.0 (each ns p.1)

-- numbers that are no surrogates are those of a string
pub string_numbers-spelled : (inner ns : List ℕ) → Some ns ≡ spelled_numbers inner → list_any is_surrogate ns ≡ false → string_numbers inner ≡ Some ns
string_numbers-spelled inner ns spelled apart = ap (option_and_then without_surrogates) (sym spelled) ∙ ap (λ (b : Bool). cond b None (Some ns)) apart

-- what no characters spell is too large
pub string_fault-large : (members : EmojiMembers) (ns : List ℕ) → list_any is_surrogate ns ≡ false → None ≡ text_spelled ns → string_fault members ns ≡ Some TooLarge
string_fault-large members ns apart none = by_test (all_scalars ns) refl none
  where
    by_test : (b : Bool) → all_scalars ns ≡ b → None ≡ cond b (Some (text_of_numbers ns)) None → string_fault members ns ≡ Some TooLarge
    by_test true is h = cc
    by_test false is h = ap (λ (b : Bool). cond b (Some TooLarge) (cond (is_one ns) (Some StringOfOne) (cond (members.strings (text_of_numbers ns)) (Some StringTwice) None))) (past_all ns false apart is)

-- the text of numbers that are all characters', of which there are other than one
pub record IsString (ns text : List ℕ) : Type 0 where
  pub all : all_scalars ns ≡ true
  pub text_is : text ≡ text_of_numbers ns
  pub near : list_any (nat_lt 0x10_FFFF) ns ≡ false
  pub more : is_one ns ≡ false

one_number : (ns : List ℕ) → (length ns ≡ 1 → ⊥) → is_one ns ≡ false
one_number [] other = refl
one_number (n ∷ []) other = absurd (other refl)
one_number (n ∷ m ∷ ns) other = refl

pub is_string : (ns text : List ℕ) → list_any is_surrogate ns ≡ false → Some text ≡ text_spelled ns → (length ns ≡ 1 → ⊥) → IsString ns text
is_string ns text apart spelled other = by_test (all_scalars ns) refl spelled
  where
    by_test : (b : Bool) → all_scalars ns ≡ b → Some text ≡ cond b (Some (text_of_numbers ns)) None → IsString ns text
    by_test true is h = record { all = is; text_is = cc; near = past_all ns true apart is; more = one_number ns other }
    by_test false is h = cc

pub string_fault-string : (members : EmojiMembers) (ns text : List ℕ) (there : Bool) → IsString ns text → members.strings text ≡ there → string_fault members ns ≡ cond there (Some StringTwice) None
string_fault-string members ns text there string is = rw (string.near, string.more) (ap (λ (b : Bool). cond b (Some StringTwice) None) (ap members.strings (sym string.text_is) ∙ is))

not_sole : (cs : List ℕ) → is_one cs ≡ false → sole_of cs ≡ None
not_sole [] h = refl
not_sole (c ∷ []) h = cc
not_sole (c ∷ d ∷ cs) h = refl

-- a string is not one character
pub sole_of-string : (ns text : List ℕ) → IsString ns text → sole_of (chars text) ≡ None
unfolding text_of_numbers
sole_of-string ns text string = ap (λ (bs : List ℕ). sole_of (chars bs)) string.text_is ∙ (ap sole_of (chars-encodes ns string.all) ∙ not_sole ns string.more)
