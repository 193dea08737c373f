-- The text of a pattern is printable ASCII.
use Rattle.std.proofs.Common.{◌≡◌, ℕ, zero, suc, ◌/◌, ◌%◌, ◌<◌, true, false, ◌&&◌, List, [], ◌∷◌, ◌++◌, refl, ap, ap₂, ◌∙◌, arith}
use Rattle.std.specs.Prelude.{◌==◌, codes}
use Rattle.std.specs.Fmt.{digits, digits_onto, digit_glyph}
use Rattle.std.specs.List.{flat_map, list_all, AllPass}
use Rattle.std.specs.Str.{chars}
use Rattle.std.proofs.lemmas.Bool.Decides.{nat_tests}
use Rattle.std.proofs.lemmas.List.Folds.{list_all-append}
use Rattle.std.proofs.lemmas.List.Sums.{AllPass-from_list_all}
use Rattle.std.proofs.lemmas.Bool.{cond_both}
use Rattle.cp_invlist.specs.declared.ranges.CodePointRange.{CodePointRange}
use Rattle.cp_strset.specs.PatternText.{escaped, range_text, string_text, pattern_text, IsPatternOf, is_printable_ascii}
use Rattle.cp_strset.specs.StringSet.{StringSet}

abbrev Printable : List ℕ → Type 0
Printable text = list_all is_printable_ascii text ≡ true

both : (a b : List ℕ) → Printable a → Printable b → Printable (a ++ b)
both a b h k = list_all-append is_printable_ascii a b ∙ ap₂ (λ x y. x && y) h k

each : {X : Type 0} (f : X → List ℕ) → ((x : X) → Printable (f x)) → (xs : List X) → Printable (flat_map f xs)
each f h [] = refl
each f h (x ∷ xs) = both (f x) (flat_map f xs) (h x) (each f h xs)

glyph : (d : ℕ) → d < 16 → is_printable_ascii (digit_glyph false d) ≡ true
glyph d h = grind (arith, nat_tests)

glyph_onto : (n : ℕ) (acc : List ℕ) → Printable acc → Printable (digit_glyph false (n % 16) ∷ acc)
glyph_onto n acc h = ap₂ (λ x y. x && y) (glyph (n % 16) (omega arith)) h

digits_onto_printable : (k n : ℕ) (acc : List ℕ) → Printable acc → Printable (digits_onto k 16 false n acc)
digits_onto_printable zero n acc h = h
digits_onto_printable (suc k) n acc h =
    let first = glyph_onto n acc h in
    cond_both (n / 16 == 0) _ _ Printable (λ _. first) (λ _. digits_onto_printable k (n / 16) (digit_glyph false (n % 16) ∷ acc) first)

escaped_printable : (c : ℕ) → Printable (escaped c)
unfolding digits
escaped_printable c =
    both (codes "\\u{") (digits 16 false c ++ codes "}") refl
    (both (digits 16 false c) (codes "}") (digits_onto_printable 64 c [] refl) refl)

range_printable : (r : CodePointRange) → Printable (range_text r)
range_printable r =
    let end = both (codes "-") (escaped r.end) refl (escaped_printable r.end) in
    cond_both (r.start == r.end) _ _ Printable (λ _. escaped_printable r.start) (λ _. both (escaped r.start) (codes "-" ++ escaped r.end) (escaped_printable r.start) end)

string_printable : (bs : List ℕ) → Printable (string_text bs)
string_printable bs =
    both (codes "{") (flat_map escaped (chars bs) ++ codes "}") refl
    (both (flat_map escaped (chars bs)) (codes "}") (each escaped escaped_printable (chars bs)) refl)

text_printable : (rs : List CodePointRange) (ss : List (List ℕ)) → Printable (pattern_text rs ss)
text_printable rs ss =
    both (codes "[") (flat_map range_text rs ++ (flat_map string_text ss ++ codes "]")) refl
    (both (flat_map range_text rs) (flat_map string_text ss ++ codes "]") (each range_text range_printable rs)
    (both (flat_map string_text ss) (codes "]") (each string_text string_printable ss) refl))

-- the text of a set
pub pattern_printable : (set : StringSet) (text : List ℕ) → IsPatternOf set text → AllPass is_printable_ascii text
pattern_printable set text h =
    AllPass-from_list_all is_printable_ascii text (ap (list_all is_printable_ascii) h.is ∙ text_printable h.ranges set.strings)
