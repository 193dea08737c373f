-- The lines of a text are texts, and so is what stands in front of an ASCII character in one, and behind it.
use Rattle.std.proofs.Common.{◌≡◌, ℕ, ◌-◌, ◌<◌, Bool, true, false, cond, ◌==◌, List, [], ◌∷◌, ◌++◌, length, get_or, take, refl, sym, ap, subst, append_assoc, append-nil, arith}
use Rattle.std.proofs.lemmas.Bool.{eqb-true}
use Rattle.std.proofs.lemmas.List.{length-append}
use Rattle.std.proofs.Math.Seq.{get_or-append_seam, take-append_seam, drop-append_seam}
use Rattle.std.proofs.lemmas.Str.{IsUtf8-take, IsUtf8-drop, IsCharBoundary-before_ascii, IsUtf8-past_char, encode_ascii}
use Rattle.std.specs.List.{onto_first, slice_split, AllByRecursion}
use Rattle.std.specs.Str.{IsUtf8}
use Rattle.std.specs.Str.Lines.{lines, lines_of_parts, strip_carriage_return}
use Rattle.text_lines.specs.Fields.{is_sole, past}

-- behind an ASCII character
pub behind_ascii : (c : ℕ) (bytes : List ℕ) → c < 128 → IsUtf8 (c ∷ bytes) → IsUtf8 bytes
behind_ascii c bytes low u = IsUtf8-past_char (c ∷ bytes) bytes c u (ap (λ e. e ++ bytes) (sym (encode_ascii c low)))

within : (xs ys : List ℕ) (c : ℕ) → length xs < length (xs ++ c ∷ ys)
within xs ys c = let n = length-append xs (c ∷ ys) in omega arith

-- in front of it, and behind it
pub parted : (xs ys : List ℕ) (c : ℕ) → c < 128 → IsUtf8 (xs ++ c ∷ ys) → IsUtf8 xs × IsUtf8 ys
parted xs ys c low u =
    let at = IsCharBoundary-before_ascii (xs ++ c ∷ ys) (length xs) (within xs ys c) (subst (λ n. n < 128) (sym (get_or-append_seam xs c ys 0)) low) in (
      subst IsUtf8 (take-append_seam xs (c ∷ ys)) (IsUtf8-take (xs ++ c ∷ ys) (length xs) u at),
      behind_ascii c ys low (subst IsUtf8 (drop-append_seam xs (c ∷ ys)) (IsUtf8-drop (xs ++ c ∷ ys) (length xs) u at)),
    )

abbrev pub AreTexts : List (List ℕ) → Type 0
AreTexts ls = AllByRecursion IsUtf8 ls

-- the parts between the LFs of a text
abbrev parts : List ℕ → List (List ℕ)
parts bytes = slice_split (λ b. b == 0x0A) bytes

-- with these bytes in front of the first part
abbrev prefixed : List ℕ → List (List ℕ) → List (List ℕ)
prefixed w [] = w ∷ []
prefixed w (l ∷ ls) = (w ++ l) ∷ ls

not_prefixed : (ls : List (List ℕ)) → AreTexts (prefixed [] ls) → AreTexts ls
not_prefixed [] h = tt
not_prefixed (l ∷ ls) h = h

onto : (w : List ℕ) (c : ℕ) (ls : List (List ℕ)) → AreTexts (prefixed (w ++ c ∷ []) ls) → AreTexts (prefixed w (onto_first c ls))
onto w c [] h = h
onto w c (l ∷ ls) (first, more) = (subst IsUtf8 (append_assoc w (c ∷ []) l) first, more)

parts_prefixed : (bytes w : List ℕ) → IsUtf8 (w ++ bytes) → AreTexts (prefixed w (parts bytes))
parts_prefixed [] w u = (u, tt)
parts_prefixed (c ∷ bytes) w u = by (c == 0x0A) refl (λ v k. parts_prefixed bytes v k)
  where
    by : (x : Bool) → (c == 0x0A) ≡ x → ((v : List ℕ) → IsUtf8 (v ++ bytes) → AreTexts (prefixed v (parts bytes))) →
        AreTexts (prefixed w (cond x ([] ∷ parts bytes) (onto_first c (parts bytes))))
    by true e more =
        let p = parted w bytes c (subst (λ n. n < 128) (sym (eqb-true c 0x0A e)) (omega arith)) u in
        (subst IsUtf8 (sym (append-nil w)) p.0, not_prefixed (parts bytes) (more [] p.1))
    by false e more = onto w c (parts bytes) (more (w ++ c ∷ []) (subst IsUtf8 (sym (append_assoc w (c ∷ []) bytes)) u))

stripped : (line : List ℕ) → IsUtf8 line → IsUtf8 (strip_carriage_return line)
stripped [] u = u
stripped (c ∷ cs) u = by (get_or (c ∷ cs) (length (c ∷ cs) - 1) 0 == 0x0D) refl
  where
    by : (x : Bool) → (get_or (c ∷ cs) (length (c ∷ cs) - 1) 0 == 0x0D) ≡ x → IsUtf8 (cond x (take (length (c ∷ cs) - 1) (c ∷ cs)) (c ∷ cs))
    by true e =
        let low = subst (λ n. n < 128) (sym (eqb-true _ 0x0D e)) (omega arith) in
        IsUtf8-take (c ∷ cs) (length (c ∷ cs) - 1) u (IsCharBoundary-before_ascii (c ∷ cs) (length (c ∷ cs) - 1) (omega arith) low)
    by false e = u

lines_of : (ls : List (List ℕ)) → AreTexts ls → AreTexts (lines_of_parts ls)
lines_of [] h = tt
lines_of (l ∷ []) (text, more) = by (length l == 0)
  where
    by : (x : Bool) → AreTexts (cond x [] (l ∷ []))
    by true = tt
    by false = (text, tt)
lines_of (l ∷ m ∷ ls) (text, more) = (stripped l text, lines_of (m ∷ ls) more)

-- the lines of a text
pub lines_are_texts : (bytes : List ℕ) → IsUtf8 bytes → AreTexts (lines bytes)
lines_are_texts bytes u = lines_of (parts bytes) (not_prefixed (parts bytes) (parts_prefixed bytes [] u))

-- so are those behind one of them
pub past_are_texts : (word : List ℕ) (ls : List (List ℕ)) → AreTexts ls → AreTexts (past word ls)
past_are_texts word [] h = h
past_are_texts word (l ∷ ls) (first, more) = by (is_sole word l) (past_are_texts word ls more)
  where
    by : (x : Bool) → AreTexts (past word ls) → AreTexts (cond x ls (past word ls))
    by true k = more
    by false k = k
