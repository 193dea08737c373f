-- A text cut at its first space.
use Rattle.std.proofs.Common.{◌≡◌, ◌≢◌, ℕ, suc, ◌<◌, ◌==◌, Bool, true, false, List, [], ◌∷◌, ◌++◌, length, get_or, Option, Some, None, option_map, MatchOption, Bor, cond, drop, ◌+◌, refl, sym, ap, ap₂, ◌∙◌, arith}
use Rattle.std.proofs.lemmas.Bool.{cond-false, ne_eqb, eqb-true, eq-eqb}
use Rattle.std.specs.Str.Pattern.{LacksTextAt, FindsTextPrefix}
use Rattle.uset_tool.specs.Script.{stripped, onto_front, at_space}

-- no space stands in the text
abbrev pub HasNoSpace : List ℕ → Type 0
HasNoSpace xs = (i : ℕ) → i < length xs → get_or xs i 0 ≢ 0x20

HasNoSpace-tail : (x : ℕ) (xs : List ℕ) → HasNoSpace (x ∷ xs) → HasNoSpace xs
HasNoSpace-tail x xs h = λ k lt. h (suc k) (omega arith)

pub at_space-some : (xs ys : List ℕ) → HasNoSpace xs → at_space (xs ++ 0x20 ∷ ys) ≡ Some (xs, ys)
at_space-some [] ys h = refl
at_space-some (x ∷ xs) ys h = cond-false (x == 0x20) _ _ (ne_eqb x 0x20 (h 0 (omega arith))) ∙ ap (option_map (onto_front x)) (at_space-some xs ys (HasNoSpace-tail x xs h))

pub at_space-none : (xs : List ℕ) → HasNoSpace xs → at_space xs ≡ None
at_space-none [] h = refl
at_space-none (x ∷ xs) h = cond-false (x == 0x20) _ _ (ne_eqb x 0x20 (h 0 (omega arith))) ∙ ap (option_map (onto_front x)) (at_space-none xs (HasNoSpace-tail x xs h))

-- the two parts of a text, where there are two
pub at_space_cut : (text : List ℕ) (r : Option (Bor (List ℕ) × Bor (List ℕ))) →
    MatchOption r (HasNoSpace text) (λ p. (text ≡ p.0.now ++ (0x20 ∷ p.1.now)) × HasNoSpace p.0.now) → option_map (λ p. (p.0.now, p.1.now)) r ≡ at_space text
at_space_cut text None h = sym (at_space-none text h)
at_space_cut text (Some p) h = sym (ap at_space h.0 ∙ at_space-some p.0.now p.1.now h.1)

stripped-some : (text rest : List ℕ) → stripped text (text ++ rest) ≡ Some rest
stripped-some [] rest = refl
stripped-some (c ∷ text) rest = ap (λ b. cond b (stripped text (text ++ rest)) None) (eq-eqb c c refl) ∙ stripped-some text rest

pub stripped-is : (text line rest : List ℕ) → stripped text line ≡ Some rest → line ≡ text ++ rest
stripped-is [] line rest h = cc
stripped-is (c ∷ text) [] rest h = cc
stripped-is (c ∷ text) (d ∷ line) rest h = by_test (d == c) refl h (stripped-is text line rest)
  where
    by_test : (b : Bool) → (d == c) ≡ b → cond b (stripped text line) None ≡ Some rest → (stripped text line ≡ Some rest → line ≡ text ++ rest) → (d ∷ line) ≡ c ∷ (text ++ rest)
    by_test true same h further = ap₂ (λ x xs. x ∷ xs) (eqb-true d c same) (further h)
    by_test false other h further = cc

-- what stands behind a text that a line begins with
pub strip_cut : (text line : List ℕ) (r : Option (Bor (List ℕ))) → MatchOption r (LacksTextAt text line 0) (λ x. (n : ℕ) × FindsTextPrefix text line (Some n) × (x.now ≡ drop n line) × (length x.now + n ≡ length line)) →
    option_map (λ rest. rest.now) r ≡ stripped text line
strip_cut text line None h = by (stripped text line) refl
  where
    by : (o : Option (List ℕ)) → stripped text line ≡ o → None ≡ o
    by None e = refl
    by (Some rest) e = absurd (h rest (stripped-is text line rest e))
strip_cut text line (Some x) h =
    let is : line ≡ text ++ x.now = h.1.1 ∙ ap (λ t. text ++ t) (sym h.2) in
    sym (ap (stripped text) is ∙ stripped-some text x.now)
