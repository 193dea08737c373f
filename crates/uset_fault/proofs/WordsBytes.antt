-- The words of a fault in bytes.
use lib.Utf8.{encode}
use mathlib.Core.Logic.{◌⊎◌}
use Rattle.std.proofs.Common.{ℕ, zero, suc, ◌≡◌, ◌<◌, ◌≤◌, Bool, true, false, nat_lt, ◌&&◌, ◌||◌, not, cond, List, [], ◌∷◌, ◌++◌, length, Option, Some, None, option_map, is_some, inl, inr, ltb-true, codes, encode_utf8, encode_utf8_all, refl, sym, ap, ◌∙◌, append_assoc, arith}
use Rattle.std.proofs.lemmas.Bool.{and_parts, or_cases, cases_eq, both_ways, not-true, lt-ltb, le-ltb}
use Rattle.std.proofs.lemmas.Bool.Decides.{nat_tests}
use Rattle.std.proofs.lemmas.Slice.Eq.{bytes_eq-Decides}
use Rattle.std.proofs.lemmas.Grind.{flat_map-append}
use Rattle.std.proofs.lemmas.Str.{encode_ascii, encodes-chars}
use Rattle.std.specs.Char.{is_ascii_control}
use Rattle.std.specs.Fmt.{digits}
use Rattle.std.specs.List.{list_all}
use Rattle.std.specs.Str.{bytes_eq, chars, IsUtf8}
use Rattle.uset_grammar.specs.Text.{Text}
use Rattle.uset_grammar.specs.Place.{size}
use Rattle.uset_grammar.specs.Shown.{quoted, message, up_to_place, front_past}
use Rattle.uset_fault.specs.declared.error.ParseError.{ParseError}
use Rattle.uset_fault.specs.declared.error.ParseErrorKind.{ParseErrorKind}
use Rattle.uset_fault.specs.declared.error.ParseErrorKind.TheVariants.{UnexpectedChar, UnknownProperty, UnknownVariable, UnexpectedVariable, Eof, Internal, Unimplemented, InvalidEscape, NoMemory}
use Rattle.uset_fault.specs.Errors.{escape_of, numbered, words_told, front_shown, front_up_to, front_of, with_arrow, shown_as, shown_with, kind_told}

-- ASCII is its own bytes
pub ascii_bytes : (t : Text) → list_all (λ c. nat_lt c 128) t ≡ true → encode_utf8_all t ≡ t
ascii_bytes [] h = refl
ascii_bytes (c ∷ t) h =
    let p = and_parts (nat_lt c 128) (list_all (λ d. nat_lt d 128) t) h in
    ap (λ b. b ++ encode_utf8_all t) (encode_ascii c (ltb-true c 128 p.0)) ∙ ap (λ r. c ∷ r) (ascii_bytes t p.1)

-- the arrow in bytes
pub arrow_bytes : encode_utf8_all (codes "← ") ≡ 226 ∷ 134 ∷ 144 ∷ 32 ∷ []
unfolding encode
arrow_bytes = refl

-- a control character without an escape of its own is written by its number
abbrev is_right : ℕ → Bool
is_right c = is_some (escape_of c) || (not (is_ascii_control c) || bytes_eq (numbered c) (encode_utf8_all (quoted c)))

abbrev all_below : (ℕ → Bool) → ℕ → Bool
all_below test zero = true
all_below test (suc n) = test n && all_below test n

below : (test : ℕ → Bool) (n c : ℕ) → all_below test n ≡ true → c < n → test c ≡ true
below test zero c all less = absurd (omega arith)
below test (suc n) c all less =
    let p = and_parts (test n) (all_below test n) all in
    elim (cases_eq c n) [ inl is ↦ ap test is ∙ p.0 | inr other ↦ below test n c p.1 (omega arith) ]

all_right : all_below is_right 128 ≡ true
unfolding digits encode
all_right = refl

right : (c : ℕ) → is_right c ≡ true → escape_of c ≡ None → is_ascii_control c ≡ true → numbered c ≡ encode_utf8_all (quoted c)
right c h none control = by (or_cases (is_some (escape_of c)) _ h)
  where
    by : (is_some (escape_of c) ≡ true) ⊎ ((not (is_ascii_control c) || bytes_eq (numbered c) (encode_utf8_all (quoted c))) ≡ true) → numbered c ≡ encode_utf8_all (quoted c)
    by (inl some) = let s : is_some (escape_of c) ≡ false = ap is_some none in absurd (both_ways _ s some)
    by (inr more) = by_control (or_cases (not (is_ascii_control c)) _ more)
      where
        by_control : (not (is_ascii_control c) ≡ true) ⊎ (bytes_eq (numbered c) (encode_utf8_all (quoted c)) ≡ true) → numbered c ≡ encode_utf8_all (quoted c)
        by_control (inl off) = absurd (both_ways _ (not-true _ off) control)
        by_control (inr same) = (bytes_eq-Decides _ _).0 same

control_low : (c : ℕ) → is_ascii_control c ≡ true → c < 128
control_low c h = grind (arith, nat_tests)

pub numbered-quoted : (c : ℕ) → None ≡ escape_of c → true ≡ is_ascii_control c → numbered c ≡ encode_utf8_all (quoted c)
numbered-quoted c none control = right c (below is_right 128 c all_right (control_low c (sym control))) (sym none) (sym control)

-- The parts of a shown fault: the front with its arrow, and what is wrong.
up_to : (offset : Option ℕ) (source : Text) → up_to_place offset source ≡ with_arrow (front_up_to offset source)
up_to None source = refl
up_to (Some offset) source = by_test (nat_lt offset (size source))
  where
    by_test : (b : Bool) → cond b (front_past offset source ++ codes "← ") [] ≡ with_arrow (cond b (Some (front_past offset source)) None)
    by_test true = refl
    by_test false = refl

placed : (wrong : Text) (offset : Option ℕ) (source : Text) → message wrong offset source ≡ with_arrow (front_up_to offset source) ++ (codes "error: " ++ wrong)
placed wrong offset source = append_assoc (up_to_place offset source) (codes "error: ") wrong ∙ ap (λ f. f ++ (codes "error: " ++ wrong)) (up_to offset source)

parts : (kind : ParseErrorKind) (offset : Option ℕ) (source : Text) → shown_as (kind_told kind) offset source ≡ with_arrow (front_of kind offset source) ++ (codes "error: " ++ words_told kind)
parts (UnexpectedChar c) offset source = placed (words_told (UnexpectedChar c)) offset source
parts UnknownProperty offset source = placed (words_told UnknownProperty) offset source
parts UnknownVariable offset source = placed (words_told UnknownVariable) offset source
parts UnexpectedVariable offset source = placed (words_told UnexpectedVariable) offset source
parts Eof offset source = append_assoc source (codes "← error: ") (words_told Eof) ∙ sym (append_assoc source (codes "← ") (codes "error: " ++ words_told Eof))
parts Internal offset source = placed (words_told Internal) offset source
parts Unimplemented offset source = placed (words_told Unimplemented) offset source
parts InvalidEscape offset source = placed (words_told InvalidEscape) offset source
parts NoMemory offset source = placed (words_told NoMemory) offset source

pub shown_in_parts : (error : ParseError) (source : Text) →
    encode_utf8_all (with_arrow (front_shown error source)) ++ (codes "error: " ++ encode_utf8_all (words_told error.kind)) ≡ encode_utf8_all (shown_with error source)
shown_in_parts error source =
    let front = with_arrow (front_shown error source) in
    let wrong = words_told error.kind in
    sym (ap encode_utf8_all (parts error.kind error.offset source) ∙ (flat_map-append encode_utf8 front (codes "error: " ++ wrong)
    ∙ ap (λ r. encode_utf8_all front ++ r) (flat_map-append encode_utf8 (codes "error: ") wrong ∙ ap (λ r. r ++ encode_utf8_all wrong) (ascii_bytes (codes "error: ") refl))))

-- an unexpected character in words
pub unexpected_bytes : (c : ℕ) → codes "unexpected character '" ++ (encode_utf8_all (quoted c) ++ codes "'") ≡ encode_utf8_all (words_told (UnexpectedChar c))
unexpected_bytes c = sym (
    flat_map-append encode_utf8 (codes "unexpected character '" ++ quoted c) (codes "'")
    ∙ (ap (λ r. r ++ encode_utf8_all (codes "'")) (flat_map-append encode_utf8 (codes "unexpected character '") (quoted c))
    ∙ (append_assoc (encode_utf8_all (codes "unexpected character '")) (encode_utf8_all (quoted c)) (encode_utf8_all (codes "'"))
    ∙ (ap (λ w. w ++ (encode_utf8_all (quoted c) ++ encode_utf8_all (codes "'"))) (ascii_bytes (codes "unexpected character '") refl)
    ∙ ap (λ w. codes "unexpected character '" ++ (encode_utf8_all (quoted c) ++ w)) (ascii_bytes (codes "'") refl)))))

-- The front of a source that is shown, in bytes.
pub front-eof : (error : ParseError) (source : List ℕ) → IsUtf8 source → error.kind ≡ Eof → Some source ≡ option_map encode_utf8_all (front_shown error (chars source))
front-eof error source text is =
    ap Some (sym (encodes-chars source text)) ∙ ap (λ k. option_map encode_utf8_all (front_of k error.offset (chars source))) (sym is)

not_eof : (kind : ParseErrorKind) (offset : Option ℕ) (source : Text) → (kind ≡ Eof → ⊥) → front_of kind offset source ≡ front_up_to offset source
not_eof (UnexpectedChar c) offset source other = refl
not_eof UnknownProperty offset source other = refl
not_eof UnknownVariable offset source other = refl
not_eof UnexpectedVariable offset source other = refl
not_eof Eof offset source other = absurd (other refl)
not_eof Internal offset source other = refl
not_eof Unimplemented offset source other = refl
not_eof InvalidEscape offset source other = refl
not_eof NoMemory offset source other = refl

-- the place is within the source
pub front-within : (error : ParseError) (source front : List ℕ) (offset : ℕ) → IsUtf8 source → (error.kind ≡ Eof → ⊥) → error.offset ≡ Some offset → offset < length source →
    front ≡ encode_utf8_all (front_past offset (chars source)) → Some front ≡ option_map encode_utf8_all (front_shown error (chars source))
front-within error source front offset text other is within front_is =
    let inside : nat_lt offset (size (chars source)) ≡ true = lt-ltb offset (size (chars source)) (omega (arith, within, ap length (encodes-chars source text))) in
    sym (ap (option_map encode_utf8_all) (not_eof error.kind error.offset (chars source) other ∙ (ap (λ o. front_up_to o (chars source)) is ∙ ap (λ b. cond b (Some (front_past offset (chars source))) None) inside)) ∙ ap Some (sym front_is))

-- the place is not within it
pub front-beyond : (error : ParseError) (source : List ℕ) (offset : ℕ) → IsUtf8 source → (error.kind ≡ Eof → ⊥) → error.offset ≡ Some offset → length source ≤ offset →
    None ≡ option_map encode_utf8_all (front_shown error (chars source))
front-beyond error source offset text other is beyond =
    let outside : nat_lt offset (size (chars source)) ≡ false = le-ltb offset (size (chars source)) (omega (arith, beyond, ap length (encodes-chars source text))) in
    sym (ap (option_map encode_utf8_all) (not_eof error.kind error.offset (chars source) other ∙ (ap (λ o. front_up_to o (chars source)) is ∙ ap (λ b. cond b (Some (front_past offset (chars source))) None) outside)))

-- a front with its arrow, in bytes
pub arrowed : (o : Option Text) (front : List ℕ) → Some front ≡ option_map encode_utf8_all o → front ++ (226 ∷ 134 ∷ 144 ∷ 32 ∷ []) ≡ encode_utf8_all (with_arrow o)
arrowed None front h = cc
arrowed (Some t) front h =
    let same : front ≡ encode_utf8_all t = cc in
    ap (λ f. f ++ (226 ∷ 134 ∷ 144 ∷ 32 ∷ [])) same ∙ (ap (λ a. encode_utf8_all t ++ a) (sym arrow_bytes) ∙ sym (flat_map-append encode_utf8 t (codes "← ")))
