-- A name and what stands behind it.
use Rattle.std.proofs.Common.{◌≡◌, ◌-◌, ℕ, Bool, true, false, cond, take, length, List, [], ◌∷◌, ◌++◌, Some, None, refl, sym, ap, ◌∙◌, subst, arith}
use Rattle.std.proofs.Math.Seq.{take-append_seam}
use Rattle.std.proofs.lemmas.List.{append_cancel_right, length-append}
use Rattle.std.proofs.lemmas.Str.{IsCharBoundary-at_seam, chars-append}
use Rattle.std.specs.Str.{chars, IsUtf8, IsCharBoundary}
use Rattle.std.specs.List.{slice_range}
use Rattle.uset_grammar.specs.Text.{Text, skip, while_in}
use Rattle.uset_grammar.specs.Front.{name_in}
use Rattle.uset_grammar.specs.Laws.{CutByTest}

-- a text may be cut in front of a rest
pub cut_before : (text front rest : List ℕ) → text ≡ front ++ rest → IsUtf8 rest → IsCharBoundary text (length text - length rest)
cut_before text front rest e utf8 =
    let sizes = ap length e ∙ length-append front rest in
    subst (λ n. IsCharBoundary text n) (let g : length front ≡ length text - length rest = omega (arith, sizes) in g) (IsCharBoundary-at_seam text front rest e utf8)

-- what is left without the characters that pass the test is what stands behind them
skip-while_in : (test : ℕ → Bool) (t : Text) → skip test t ≡ (while_in test t).1
skip-while_in test [] = refl
skip-while_in test (c ∷ t) = by_test (test c) (skip-while_in test t)
  where
    by_test : (b : Bool) → skip test t ≡ (while_in test t).1 → cond b (skip test t) (c ∷ t) ≡ (cond {A = Text × Text} b (c ∷ (while_in test t).0, (while_in test t).1) ([], c ∷ t)).1
    by_test true h = h
    by_test false h = refl

pub name_parts : CutByTest → (start continue : ℕ → Bool) (text name rest : List ℕ) (first : ℕ) (behind : Text) → IsUtf8 name → text ≡ name ++ rest → chars text ≡ first ∷ behind → start first ≡ true →
    chars rest ≡ skip continue behind → name_in start continue (chars text) ≡ Some (chars name, chars rest)
name_parts cut start continue text name rest first behind utf8 bytes parts begins skips =
    let skipped = skips ∙ skip-while_in continue behind in
    let whole : chars name ++ chars rest ≡ (first ∷ (while_in continue behind).0) ++ chars rest =
    sym (ap chars bytes ∙ chars-append name rest utf8) ∙ (parts ∙ ap (λ z. first ∷ z) (cut continue behind ∙ ap (λ z. (while_in continue behind).0 ++ z) (sym skipped))) in
    let same = append_cancel_right (chars name) (first ∷ (while_in continue behind).0) (chars rest) whole in
    ap (name_in start continue) parts ∙ (ap (λ b. cond b (Some (first ∷ (while_in continue behind).0, (while_in continue behind).1)) None) begins
    ∙ (ap (λ z. Some (first ∷ (while_in continue behind).0, z)) (sym skipped) ∙ ap (λ z. Some (z, chars rest)) (sym same)))

-- the text in front of a rest
pub front_is : (text front rest : List ℕ) → text ≡ front ++ rest → slice_range text 0 (length text - length rest) ≡ front
front_is text front rest e =
    let sizes = ap length e ∙ length-append front rest in
    let n : length text - length rest - 0 ≡ length front = omega (arith, sizes) in
    ap (λ k. take k text) n ∙ (ap (take (length front)) e ∙ take-append_seam front rest)
