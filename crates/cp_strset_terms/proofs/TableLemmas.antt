-- Texts in order, each once.
use Rattle.std.proofs.Common.{◌≡◌, ◌≢◌, ◌<◌, ◌||◌, ℕ, zero, suc, Bool, true, false, Bor, List, [], ◌∷◌, ◌++◌, All, length, map, take, drop, get_or, refl, sym, subst, ap, ◌∙◌, arith, nat_cmp, nat_eq, inl, inr}
use Rattle.std.proofs.Math.Seq.{take-append_seam, drop-append_seam}
use Rattle.std.proofs.lemmas.Bool.{cases_Bool, cond-true, cond-false}
use Rattle.std.proofs.lemmas.List.{get_or-take, get_or-map, length-take, length-map, map-append}
use Rattle.std.proofs.lemmas.List.Elements.{All-from_recursion, All-map, All-take, All-drop}
use Rattle.std.proofs.lemmas.Slice.Eq.{bytes_eq-Decides}
use Rattle.std.specs.Cmp.Lexicographic.{slice_cmp, pointwise}
use Rattle.std.specs.List.{AllPairs, dedup, dedup_from}
use Rattle.std.specs.List.Sorted.{IsStrictlySortedBy}
use Rattle.std.specs.Str.{bytes_eq, chars}
use Rattle.cp_strset.specs.StringList.{AreCanonical, holds}
use Rattle.cp_strset.specs.OrderLaws.{IsBelow}

-- texts that are strictly sorted ascend
pub ascending_texts : (list : List (Bor (List ℕ))) → IsStrictlySortedBy (λ x y. slice_cmp nat_cmp x.now y.now) list → AllPairs IsBelow (map (λ text. text.now) list)
unfolding IsStrictlySortedBy
ascending_texts [] h i j d below within = absurd (omega (arith, within))
ascending_texts (x ∷ xs) h i zero d below within = absurd (omega (arith, below))
ascending_texts (x ∷ xs) h zero (suc j) d below within =
    All-map (IsBelow x.now) (λ text. text.now) xs (All-from_recursion (λ y. IsBelow x.now y.now) xs h.0) j d (omega (arith, within))
ascending_texts (x ∷ xs) h (suc i) (suc j) d below within = ascending_texts xs h.1 i j d (omega (arith, below)) (omega (arith, within))

either_again : (x y more : Bool) → x ≡ y → (x || more) ≡ (x || (y || more))
either_again true y more h = refl
either_again false true more h = cc
either_again false false more h = refl

dedup_from-holds : (bytes : List ℕ) (k : Bor (List ℕ)) (list : List (Bor (List ℕ))) →
    holds (map (λ text. text.now) (dedup_from (λ x y. pointwise nat_eq x.now y.now) k list)) bytes ≡ (bytes_eq k.now bytes || holds (map (λ text. text.now) list) bytes)
dedup_from-holds bytes k [] = refl
dedup_from-holds bytes k (x ∷ xs) = elim (cases_Bool (pointwise nat_eq x.now k.now)) [
  | inl same ↦
      ap (λ list. holds (map (λ text. text.now) list) bytes) (cond-true _ _ _ same)
      ∙ (dedup_from-holds bytes k xs
      ∙ either_again (bytes_eq k.now bytes) (bytes_eq x.now bytes) (holds (map (λ text. text.now) xs) bytes) (ap (λ text. bytes_eq text bytes) (sym ((bytes_eq-Decides x.now k.now).0 same))))
  | inr other ↦
      ap (λ list. holds (map (λ text. text.now) list) bytes) (cond-false _ _ _ other)
      ∙ ap (λ b. bytes_eq k.now bytes || b) (dedup_from-holds bytes x xs)
]

-- equal neighbours are one string
pub holds-dedup : (bytes : List ℕ) (list : List (Bor (List ℕ))) →
    holds (map (λ text. text.now) (dedup (λ x y. pointwise nat_eq x.now y.now) list)) bytes ≡ holds (map (λ text. text.now) list) bytes
holds-dedup bytes [] = refl
holds-dedup bytes (x ∷ xs) = dedup_from-holds bytes x xs

-- what holds of the texts holds of the references by the texts behind them
pub each_text : (P : List ℕ → Type 0) (list : List (Bor (List ℕ))) → All P (map (λ text. text.now) list) → All (λ text. P text.now) list
each_text P list h = λ k d within.
    subst P (get_or-map (λ text. text.now) list k d d.now within) (h k d.now (omega (arith, length-map list (λ text. text.now))))

AllPairs-take : (n : ℕ) (list : List (List ℕ)) → AllPairs IsBelow list → AllPairs IsBelow (take n list)
AllPairs-take n list h = λ i j d below within.
    let short : j < n = omega (arith, length-take n list) in
    let inside : j < length list = omega (arith, length-take n list) in
    let earlier : i < n = omega arith in
    ap (λ s. slice_cmp nat_cmp s (get_or (take n list) j d)) (get_or-take n list i d earlier)
    ∙ ap (slice_cmp nat_cmp (get_or list i d)) (get_or-take n list j d short)
    ∙ h i j d below inside

AllPairs-drop : (n : ℕ) (list : List (List ℕ)) → AllPairs IsBelow list → AllPairs IsBelow (drop n list)
AllPairs-drop zero list h = h
AllPairs-drop (suc n) [] h = h
AllPairs-drop (suc n) (x ∷ xs) h = AllPairs-drop n xs (λ i j d below within. h (suc i) (suc j) d (omega arith) (omega arith))

pub canonical-take : (n : ℕ) (list : List (List ℕ)) → AreCanonical list → AreCanonical (take n list)
canonical-take n list h = record {
  ascending = AllPairs-take n list h.ascending;
  none_of_one = All-take (λ s. length (chars s) ≢ 1) n list h.none_of_one;
}

pub canonical-drop : (n : ℕ) (list : List (List ℕ)) → AreCanonical list → AreCanonical (drop n list)
canonical-drop n list h = record {
  ascending = AllPairs-drop n list h.ascending;
  none_of_one = All-drop (λ s. length (chars s) ≢ 1) n list h.none_of_one;
}

-- the parts of a list in order are in order
pub canonical_parts : (front rest : List (Bor (List ℕ))) → AreCanonical (map (λ text. text.now) (front ++ rest)) →
    AreCanonical (map (λ text. text.now) front) × AreCanonical (map (λ text. text.now) rest)
canonical_parts front rest h =
    let ahead = map (λ text. text.now) front in
    let behind = map (λ text. text.now) rest in
    let whole : AreCanonical (ahead ++ behind) = subst AreCanonical (map-append (λ text. text.now) front rest) h in (
      subst AreCanonical (take-append_seam ahead behind) (canonical-take (length ahead) (ahead ++ behind) whole),
      subst AreCanonical (drop-append_seam ahead behind) (canonical-drop (length ahead) (ahead ++ behind) whole),
    )
