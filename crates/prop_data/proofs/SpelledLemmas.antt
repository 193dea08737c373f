-- Strings as they are spelled in braces.
use Rattle.std.proofs.Common.{◌≡◌, ℕ, ◌+◌, ◌<◌, Bool, true, false, cond, ◌&&◌, ◌==◌, List, [], ◌∷◌, ◌++◌, take, length, Option, Some, None, option_map, option_and_then, Bor, refl, sym, ap, ap₂, ◌∙◌, arith, append_assoc, append-nil, get_or, zero, suc}
use Rattle.std.proofs.lemmas.Bool.Decides.{nat_tests}
use Rattle.std.proofs.lemmas.Bool.{and_parts, and_right, and_left, false_from_ne_true}
use Rattle.std.proofs.lemmas.List.{take_more}
use Rattle.std.proofs.lemmas.Str.{encodes-append}
use lib.Utf8.{scalar}
use Rattle.std.specs.Prelude.{encode_utf8, encode_utf8_all}
use Rattle.std.proofs.lemmas.Iterator.{YieldsList}
use Rattle.std.specs.Str.{all_scalars}
use Rattle.prop_data.specs.Strings.{before_brace, braced, numbers_of, text_of_numbers, text_spelled}
use Rattle.prop_data.specs.Numbers.{hex}

onto_front : (b : Bool) (x : ℕ) (front : List ℕ) → option_map (λ (f : List ℕ). x ∷ f) (cond b (Some front) None) ≡ cond b (Some (x ∷ front)) None
onto_front true x front = refl
onto_front false x front = refl

-- the last byte decides
pub before_brace-last : (front : List ℕ) (c : ℕ) → before_brace (front ++ c ∷ []) ≡ cond (c == 0x7D) (Some front) None
before_brace-last [] c = refl
before_brace-last (x ∷ []) c = onto_front (c == 0x7D) x []
before_brace-last (x ∷ y ∷ front) c = ap (option_map (λ (f : List ℕ). x ∷ f)) (before_brace-last (y ∷ front) c) ∙ onto_front (c == 0x7D) x (y ∷ front)

-- one more number was read
pub numbers_of-next : (read : List ℕ) (n : ℕ) (part : List ℕ) (parts : List (List ℕ)) → Some n ≡ hex part →
    option_map (λ ns. (read ++ n ∷ []) ++ ns) (numbers_of parts) ≡ option_map (λ ns. read ++ ns) (numbers_of (part ∷ parts))
numbers_of-next read n part parts is = onto_read (numbers_of parts) ∙ ap (λ (o : Option ℕ). option_map (λ (ns : List ℕ). read ++ ns) (option_and_then (λ (m : ℕ). option_map (λ (ns : List ℕ). m ∷ ns) (numbers_of parts)) o)) is
  where
    onto_read : (o : Option (List ℕ)) → option_map (λ (ns : List ℕ). (read ++ n ∷ []) ++ ns) o ≡ option_map (λ (ns : List ℕ). read ++ ns) (option_map (λ (ns : List ℕ). n ∷ ns) o)
    onto_read None = refl
    onto_read (Some ns) = ap Some (append_assoc read (n ∷ []) ns)

pub numbers_of-misspelled : (read part : List ℕ) (parts : List (List ℕ)) → None ≡ hex part → option_map (λ ns. read ++ ns) (numbers_of (part ∷ parts)) ≡ None
numbers_of-misspelled read part parts is =
    ap (λ (o : Option ℕ). option_map (λ (ns : List ℕ). read ++ ns) (option_and_then (λ (m : ℕ). option_map (λ (ns : List ℕ). m ∷ ns) (numbers_of parts)) o)) (sym is)

-- no number was read yet
pub numbers_of-front : (read : List ℕ) (all : Option (List ℕ)) → read ≡ [] → option_map (λ ns. read ++ ns) all ≡ all
numbers_of-front read None none = refl
numbers_of-front read (Some ns) none = ap (λ (r : List ℕ). Some (r ++ ns)) none

-- all numbers were read
pub numbers_of-end : (read : List ℕ) (parts : List (List ℕ)) → parts ≡ [] → Some read ≡ option_map (λ ns. read ++ ns) (numbers_of parts)
numbers_of-end read parts none = ap Some (sym (append-nil read)) ∙ ap (λ ps. option_map (λ (ns : List ℕ). read ++ ns) (numbers_of ps)) (sym none)

-- an iterator of parts that gave one, or none
pub next_part : {S : Type 0} {steps : S → Option (Bor (List ℕ)) → S → Type 0} (s t : S) (part : Bor (List ℕ)) (parts : List (List ℕ)) →
    YieldsList steps (λ x. x.now) s parts → steps s (Some part) t → (rest : List (List ℕ)) × YieldsList steps (λ x. x.now) t rest × (parts ≡ part.now ∷ rest)
next_part s t part [] left step = absurd (left.runs part t step)
next_part s t part (p ∷ rest) left step = let next = left.runs.1 part t step in (rest, record { runs = next.1 }, ap (λ q. q ∷ rest) (sym next.0))

pub no_part : {S : Type 0} {steps : S → Option (Bor (List ℕ)) → S → Type 0} (s t : S) (parts : List (List ℕ)) → YieldsList steps (λ x. x.now) s parts → steps s None t → parts ≡ []
no_part s t [] left step = refl
no_part s t (p ∷ rest) left step = absurd (left.runs.0 t step)

-- a number that is no character's
pub not_all : (ns : List ℕ) (i : ℕ) → i < length ns → (scalar (get_or ns i 0) ≡ true → ⊥) → all_scalars ns ≡ false
not_all [] i h none = absurd (omega (arith, h))
not_all (n ∷ ns) zero h none = and_left (scalar n) (all_scalars ns) (false_from_ne_true (scalar n) none)
not_all (n ∷ ns) (suc i) h none = and_right (scalar n) (all_scalars ns) (not_all ns i (omega (arith, h)) none)

all_scalars-more : (ns : List ℕ) (n : ℕ) → all_scalars ns ≡ true → scalar n ≡ true → all_scalars (ns ++ n ∷ []) ≡ true
all_scalars-more [] n all is = ap (λ b. b && true) is
all_scalars-more (m ∷ ns) n all is = let p = and_parts (scalar m) (all_scalars ns) all in ap (λ b. b && all_scalars (ns ++ n ∷ [])) p.0 ∙ all_scalars-more ns n p.1 is

-- one more character
pub spelled_more : (ns : List ℕ) (i n : ℕ) (old new : List ℕ) → i < length ns → n ≡ get_or ns i 0 → scalar (get_or ns i 0) ≡ true → all_scalars (take i ns) ≡ true → old ≡ encode_utf8_all (take i ns) →
    new ≡ old ++ encode_utf8 n → (all_scalars (take (i + 1) ns) ≡ true) × (new ≡ encode_utf8_all (take (i + 1) ns))
spelled_more ns i n old new short at is all before more =
    let next = take_more ns i 0 short in (
      ap all_scalars next ∙ all_scalars-more (take i ns) (get_or ns i 0) all is,
      more ∙ (ap (λ (m : ℕ). old ++ encode_utf8 m) at ∙ (ap (λ (o : List ℕ). o ++ encode_utf8 (get_or ns i 0)) before
          ∙ (ap (λ (b : List ℕ). encode_utf8_all (take i ns) ++ b) (sym (append-nil (encode_utf8 (get_or ns i 0))))
          ∙ (sym (encodes-append (take i ns) (get_or ns i 0 ∷ [])) ∙ ap encode_utf8_all (sym next))))),
    )

pub text_spelled-all : (ns : List ℕ) → all_scalars ns ≡ true → text_spelled ns ≡ Some (encode_utf8_all ns)
unfolding text_of_numbers
text_spelled-all ns all = ap (λ b. cond b (Some (encode_utf8_all ns)) None) all

pub text_spelled-none : (ns : List ℕ) → all_scalars ns ≡ false → text_spelled ns ≡ None
text_spelled-none ns all = ap (λ b. cond b (Some (text_of_numbers ns)) None) all

braced-parts : (field rest inner : List ℕ) (first last : ℕ) → field ≡ first ∷ rest → rest ≡ inner ++ last ∷ [] → braced field ≡ cond (first == 0x7B) (cond (last == 0x7D) (Some inner) None) None
unfolding braced
braced-parts field rest inner first last all behind =
    ap braced all ∙ ap (λ (o : Option (List ℕ)). cond (first == 0x7B) o None) (ap before_brace behind ∙ before_brace-last inner last)

pub braced-both : (field rest inner : List ℕ) (first last : ℕ) → field ≡ first ∷ rest → rest ≡ inner ++ last ∷ [] → first ≡ 0x7B → last ≡ 0x7D → Some inner ≡ braced field
braced-both field rest inner first last all behind f l =
    sym (braced-parts field rest inner first last all behind ∙ ap₂ (λ (a b : ℕ). cond (a == 0x7B) (cond (b == 0x7D) (Some inner) None) None) f l)

pub braced-not : (field rest inner : List ℕ) (first last : ℕ) → field ≡ first ∷ rest → rest ≡ inner ++ last ∷ [] → (first ≡ 0x7B → last ≡ 0x7D → ⊥) → None ≡ braced field
braced-not field rest inner first last all behind never = sym (braced-parts field rest inner first last all behind ∙ by_tests (first == 0x7B) (last == 0x7D) refl refl)
  where
    by_tests : (a b : Bool) → (first == 0x7B) ≡ a → (last == 0x7D) ≡ b → cond a (cond b (Some inner) None) None ≡ None
    by_tests true true f l = absurd (never (grind (arith, nat_tests, f)) (grind (arith, nat_tests, l)))
    by_tests true false f l = refl
    by_tests false b f l = refl
