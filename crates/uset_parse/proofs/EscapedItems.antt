-- What a pattern in escapes is made of, read item by item.
use Rattle.std.proofs.Common.{◌≡◌, ◌≢◌, ℕ, zero, suc, ◌≤◌, Bool, true, false, cond, not, ◌&&◌, List, [], ◌∷◌, ◌++◌, length, Some, refl, sym, ap, ◌∙◌, subst, arith, append_assoc, length-append}
use Rattle.std.specs.Prelude.{◌==◌, All}
use Rattle.std.specs.Fmt.{digits}
use Rattle.std.specs.List.{list_all, flat_map}
use Rattle.std.specs.Str.{all_scalars, chars as chars_of}
use Rattle.std.proofs.lemmas.Bool.{eqb-true, and_parts}
use Rattle.std.proofs.lemmas.Bool.Decides.{nat_tests}
use Rattle.std.proofs.lemmas.List.Elements.{All-head, All-tail}
use Rattle.std.proofs.lemmas.Str.{scalars-chars}
use lib.Utf8.{scalar}
use Rattle.cp_invlist.specs.declared.ranges.CodePointRange.{CodePointRange}
use Rattle.cp_strset.specs.PatternText.{escaped, range_text, string_text}
use Rattle.uset_grammar.specs.Text.{Text, ◌>>=◌, skip}
use Rattle.uset_grammar.specs.Escape.{Spelled, numbers, is_above, is_surrogate, escape_shape}
use Rattle.uset_grammar.specs.EscapeSlips.{in_string, fits_in, allowed}
use Rattle.uset_grammar.specs.BracedString.{with_piece, pieces_shape, text_of}
use Rattle.uset_grammar.specs.Unit.{escape_read, string_read}
use Rattle.uset_grammar.specs.Tree.{Steps, add, add_text}
use Rattle.uset_grammar.specs.Item.{Item, chars, text, minus, text_item}
use Rattle.uset_grammar.specs.Body.{Body, range, members, texts}
use Rattle.uset_grammar.specs.Language.{Language}
use Rattle.uset_grammar.specs.Front.{ahead, sign}
use Rattle.uset_grammar.specs.Grammar.{of_unit, of_one_character, ItemAt, one_character, unit, ReadsItems, reads}
use Rattle.uset_parse.specs.ReadBack.{LeavesEscapes, IsRange, IsLongText}
use Rattle.uset_parse.proofs.NumberInBraces.{escaped_read}

-- the steps of ranges, and of strings, in front of others
abbrev pub add_ranges : List CodePointRange → Steps → Steps
add_ranges [] steps = steps
add_ranges (r ∷ rs) steps = add r.start r.end (add_ranges rs steps)

abbrev pub add_strings : List (List ℕ) → Steps → Steps
add_strings [] steps = steps
add_strings (s ∷ ss) steps = add_text (chars_of s) (add_strings ss steps)

-- each character as an escape of its own
abbrev single_escapes : Text → List Spelled
single_escapes [] = []
single_escapes (c ∷ cs) = numbers (c ∷ []) ∷ single_escapes cs

text_of-single_escapes : (cs : Text) → text_of (single_escapes cs) ≡ cs
text_of-single_escapes [] = refl
text_of-single_escapes (c ∷ cs) = ap (λ t. c ∷ t) (text_of-single_escapes cs)

not_above : (n : ℕ) → n ≤ 0x10_FFFF → is_above n ≡ false
unfolding is_above
not_above n h = grind (arith, nat_tests)

scalar_fits : (n : ℕ) → scalar n ≡ true → fits_in in_string n ≡ true
unfolding is_above is_surrogate
scalar_fits n h = grind (arith, nat_tests)

pub scalar_below : (n : ℕ) → scalar n ≡ true → n ≤ 0x10_FFFF
scalar_below n h = grind (arith, nat_tests)

fits_all : (cs : Text) → all_scalars cs ≡ true → list_all (allowed in_string) (single_escapes cs) ≡ true
fits_all [] h = refl
fits_all (c ∷ cs) h =
    let p = and_parts (scalar c) (all_scalars cs) h in
    ap (λ b. ((b && true) && true) && list_all (allowed in_string) (single_escapes cs)) (scalar_fits c p.0) ∙ fits_all cs p.1

not_one_text : (cs : Text) → length cs ≢ 1 → text_item cs ≡ text cs
not_one_text [] h = refl
not_one_text (c ∷ []) h = absurd (h refl)
not_one_text (c ∷ d ∷ cs) h = refl

-- each escape takes a character or more
length-escapes : (cs more : Text) → suc (length cs) ≤ length (flat_map escaped cs ++ 0x7D ∷ more)
length-escapes [] more = omega arith
length-escapes (c ∷ cs) more =
    let parts = append_assoc (escaped c) (flat_map escaped cs) (0x7D ∷ more) in
    omega (arith, ap length parts, length-append (escaped c) (flat_map escaped cs ++ 0x7D ∷ more), length-escapes cs more)

module _ (l : Language) (leaves : LeavesEscapes l.white_space) where
  pub stays : (c : ℕ) (t : Text) → l.white_space c ≡ false → ahead l (c ∷ t) ≡ c ∷ t
  stays c t h = ap (λ b. cond b (skip l.white_space t) (c ∷ t)) h

  -- What is written is read as items that are arranged to these steps, in front of others.
  pub record IsPart (written : Text) (steps : Steps → Steps) : Type 0 where
    pub part : (more rest : Text) (is : List Item) (s : Steps) → ReadsItems l more is rest → Body is s →
        (js : List Item) × ReadsItems l (written ++ more) js rest × Body js (steps s)

  pub nothing_part : IsPart [] (λ s. s)
  nothing_part = record { part = λ more rest is s items body. (is, items, body) }

  pub both_parts : (a b : Text) (f g : Steps → Steps) → IsPart a f → IsPart b g → IsPart (a ++ b) (λ s. f (g s))
  both_parts a b f g first second = record {
    part = λ more rest is s items body.
        let behind = second.part more rest is s items body in
        let all = first.part (b ++ more) rest behind.0 (g s) behind.1 behind.2 in
        (all.0, subst (λ t. ReadsItems l t all.0 rest) (sym (append_assoc a b more)) all.1, all.2);
  }

  -- an escape of one code point in front
  at_escape : (n : ℕ) (more : Text) → n ≤ 0x10_FFFF → ItemAt l (ahead l (escaped n ++ more)) of_unit (chars (n ∷ [])) more
  unfolding sign
  at_escape n more h =
      subst (λ t. ItemAt l t of_unit (chars (n ∷ [])) more) (sym (stays 0x5C _ (leaves.no_sign 0x5C refl)))
      (unit refl (escape_read refl (record { shape = escaped_read l.white_space leaves.no_digit n more h; fits = ap (λ b. (not b && true) && true) (not_above n h) })))

  at_hyphen : (more : Text) → ItemAt l (ahead l (0x2D ∷ more)) of_one_character minus more
  unfolding sign
  at_hyphen more = subst (λ t. ItemAt l t of_one_character minus more) (sym (stays 0x2D more (leaves.no_sign 0x2D refl))) (one_character refl)

  one_part : (n : ℕ) → n ≤ 0x10_FFFF → IsPart (escaped n) (add n n)
  one_part n h = record { part = λ more rest is s items body. (chars (n ∷ []) ∷ is, reads (at_escape n more h) items, members body) }

  pub two_part : (a b : ℕ) → a ≤ b → b ≤ 0x10_FFFF → IsPart (escaped a ++ 0x2D ∷ escaped b) (add a b)
  two_part a b order h = record {
    part = λ more rest is s items body. (
      chars (a ∷ []) ∷ minus ∷ chars (b ∷ []) ∷ is,
      subst (λ t. ReadsItems l t (chars (a ∷ []) ∷ minus ∷ chars (b ∷ []) ∷ is) rest) (sym (append_assoc (escaped a) (0x2D ∷ escaped b) more))
          (reads (at_escape a (0x2D ∷ escaped b ++ more) (omega (arith, order, h))) (reads (at_hyphen (escaped b ++ more)) (reads (at_escape b more h) items))),
      range order body,
    );
  }

  range_part : (r : CodePointRange) → IsRange r → IsPart (range_text r) (add r.start r.end)
  range_part r h = by (r.start == r.end) refl
    where
      by : (t : Bool) → (r.start == r.end) ≡ t → IsPart (cond t (escaped r.start) (escaped r.start ++ 0x2D ∷ escaped r.end)) (add r.start r.end)
      by true e = subst (λ n. IsPart (escaped r.start) (add r.start n)) (eqb-true r.start r.end e) (one_part r.start (omega (arith, h.order, h.code_points)))
      by false e = two_part r.start r.end h.order h.code_points

  pub ranges_part : (rs : List CodePointRange) → All IsRange rs → IsPart (flat_map range_text rs) (add_ranges rs)
  ranges_part [] h = nothing_part
  ranges_part (r ∷ rs) h =
      both_parts (range_text r) (flat_map range_text rs) (add r.start r.end) (add_ranges rs) (range_part r (All-head IsRange r rs h)) (ranges_part rs (All-tail IsRange r rs h))

  -- escapes of characters up to the closing brace
  pieces : (cs more : Text) (n : ℕ) → suc (length cs) ≤ n → all_scalars cs ≡ true →
      pieces_shape l.white_space n (flat_map escaped cs ++ 0x7D ∷ more) ≡ Some (single_escapes cs, more)
  pieces cs more zero h s = absurd (omega (arith, h))
  pieces [] more (suc n) h s = refl
  pieces (c ∷ cs) more (suc n) h s =
      let p = and_parts (scalar c) (all_scalars cs) s in
      let left = flat_map escaped cs ++ 0x7D ∷ more in
      let parts = append_assoc (escaped c) (flat_map escaped cs) (0x7D ∷ more) in
      let tail : Text = 0x75 ∷ 0x7B ∷ ((digits 16 false c ++ 0x7D ∷ []) ++ left) in
      ap (λ t. pieces_shape l.white_space (suc n) t) parts
      ∙ ap (λ b. cond b (pieces_shape l.white_space n tail) (escape_shape l.white_space (escaped c ++ left) >>= λ q. with_piece q.0 (pieces_shape l.white_space n q.1))) (leaves.no_sign 0x5C refl)
      ∙ ap (λ o. o >>= λ q. with_piece q.0 (pieces_shape l.white_space n q.1)) (escaped_read l.white_space leaves.no_digit c left (scalar_below c p.0))
      ∙ ap (with_piece (numbers (c ∷ []))) (pieces cs more n (omega (arith, h)) p.1)

  at_string : (s more : Text) → IsLongText s → ItemAt l (ahead l (string_text s ++ more)) of_unit (text (chars_of s)) more
  unfolding sign
  at_string s more h =
      let cs = chars_of s in
      let scalars = scalars-chars s h.text in
      let inner = append_assoc (flat_map escaped cs) (0x7D ∷ []) more in
      let shape = ap (λ u. pieces_shape l.white_space (length u) u) inner ∙ pieces cs more (length (flat_map escaped cs ++ 0x7D ∷ more)) (length-escapes cs more) scalars in
      let item : text_item (text_of (single_escapes cs)) ≡ text cs = ap text_item (text_of-single_escapes cs) ∙ not_one_text cs h.not_one in
      subst (λ t. ItemAt l t of_unit (text cs) more) (sym (stays 0x7B _ (leaves.no_sign 0x7B refl)))
      (subst (λ i. ItemAt l (string_text s ++ more) of_unit i more) item (unit refl (string_read (record { shape = shape; fits = fits_all cs scalars }))))

  string_part : (s : List ℕ) → IsLongText s → IsPart (string_text s) (add_text (chars_of s))
  string_part s h = record { part = λ more rest is steps items body. (text (chars_of s) ∷ is, reads (at_string s more h) items, texts body) }

  pub strings_part : (ss : List (List ℕ)) → All IsLongText ss → IsPart (flat_map string_text ss) (add_strings ss)
  strings_part [] h = nothing_part
  strings_part (s ∷ ss) h =
      both_parts (string_text s) (flat_map string_text ss) (add_text (chars_of s)) (add_strings ss) (string_part s (All-head IsLongText s ss h)) (strings_part ss (All-tail IsLongText s ss h))
