-- The members of a set are counted by its maximal ranges.
use Rattle.std.proofs.Common.{◌≡◌, ℕ, zero, suc, ◌+◌, ◌-◌, ◌<◌, ◌≤◌, Bool, true, false, cond, List, [], ◌∷◌, All, sum_by, refl, sym, ap, ◌∙◌, arith, true≢false, inl, inr}
use Rattle.std.proofs.lemmas.Bool.{cases_lt}
use Rattle.std.proofs.lemmas.List.Sums.{sum_by-cons}
use Rattle.std.proofs.lemmas.List.Elements.{All-nil, All-cons}
use Rattle.cp_invlist.specs.InversionList.{contains, ascends_from, has_even_length, IsInversionList}
use Rattle.cp_invlist.specs.Ranges.{ranges_of}
use Rattle.cp_invlist.specs.Size.{count_members, range_size}
use Rattle.cp_invlist.specs.declared.ranges.CodePointRange.{CodePointRange}
use Rattle.cp_invlist.specs.ListLaws.{ascends_from-parts, ascends_from-lower, IsInversionList-parts}
use Rattle.cp_invlist.proofs.RangesLemmas.{contains-first_below, contains-first_within, contains-first_behind, even_rest}

count_members-next : (m : ℕ → Bool) (n : ℕ) → count_members m (suc n) ≡ cond (m n) 1 0 + count_members m n
unfolding count_members
count_members-next m n = refl

-- a stretch without members, and one of members alone
count_members-none : (m : ℕ → Bool) (n e : ℕ) → n ≤ e → ((c : ℕ) → n ≤ c → c < e → m c ≡ false) → count_members m e ≡ count_members m n
count_members-none m n zero le none = ap (count_members m) (omega arith)
count_members-none m n (suc e) le none = elim (cases_lt e n) [
  | inl lt ↦ ap (count_members m) (omega arith)
  | inr ge ↦
      count_members-next m e ∙ ap (λ b. cond b 1 0 + count_members m e) (none e ge (omega arith))
      ∙ omega (arith, count_members-none m n e ge (λ c low high. none c low (omega arith)))
]

count_members-all : (m : ℕ → Bool) (n e : ℕ) → n ≤ e → ((c : ℕ) → n ≤ c → c < e → m c ≡ true) → count_members m e ≡ e - n + count_members m n
count_members-all m n zero le each = let same : zero ≡ n = omega arith in ap (count_members m) same ∙ omega arith
count_members-all m n (suc e) le each = elim (cases_lt e n) [
  | inl lt ↦ let same : suc e ≡ n = omega arith in ap (count_members m) same ∙ omega arith
  | inr ge ↦
      count_members-next m e ∙ ap (λ b. cond b 1 0 + count_members m e) (each e ge (omega arith))
      ∙ omega (arith, count_members-all m n e ge (λ c low high. each c low (omega arith)))
]

count_members-bound : (m : ℕ → Bool) (n : ℕ) → count_members m n ≤ n
unfolding count_members
count_members-bound m zero = omega arith
count_members-bound m (suc n) = elim (m n) as (λ b. cond b 1 0 + count_members m n ≤ suc n) [
  | true ↦ omega (arith, count_members-bound m n)
  | false ↦ omega (arith, count_members-bound m n)
]

count_members-from : (m : ℕ → Bool) (n top : ℕ) (xs : List ℕ) → n ≤ top → 0x11_0000 ≤ top → ascends_from n xs ≡ true → has_even_length xs ≡ true →
    ((c : ℕ) → n ≤ c → m c ≡ contains xs c) → count_members m top ≡ sum_by range_size (ranges_of xs) + count_members m n
count_members-from m n top [] le high h even same = omega (arith, count_members-none m n top le (λ c low _. same c low))
count_members-from m n top (a ∷ []) le high h even same = absurd (true≢false (sym even))
count_members-from m n top (a ∷ b ∷ xs) le high h even same =
    let first = ascends_from-parts n a (b ∷ xs) h in
    let second = ascends_from-parts (suc a) b xs first.2 in
    let before = count_members-none m n a first.0 (λ c low up. same c low ∙ contains-first_below a b c xs second.0 second.2 up) in
    let inside = count_members-all m a b (omega arith) (λ c low up. same c (omega arith) ∙ contains-first_within a b c xs second.2 low up) in
    let behind = count_members-from m b top xs (omega arith) high (ascends_from-lower b (suc b) xs (omega arith) second.2) (even_rest xs even)
    (λ c low. same c (omega arith) ∙ contains-first_behind a b c xs second.0 low) in
    let range : CodePointRange = record { start = a; end = b - 1 } in
    omega (arith, behind, inside, before, sum_by-cons range_size range (ranges_of xs))

-- the sum over a set's ranges counts its members
pub sum_by-ranges_of : (xs : List ℕ) (top : ℕ) → 0x11_0000 ≤ top → IsInversionList xs → sum_by range_size (ranges_of xs) ≡ count_members (contains xs) top
unfolding count_members
sum_by-ranges_of xs top le h =
    let parts = IsInversionList-parts xs h in
    let counted = count_members-from (contains xs) 0 top xs (omega arith) le parts.0 parts.1 (λ c _. refl) in
    omega (arith, counted)

pub sum_by-ranges_of-bound : (xs : List ℕ) → IsInversionList xs → sum_by range_size (ranges_of xs) ≤ 0x11_0000
sum_by-ranges_of-bound xs h =
    let bound : (top : ℕ) → 0x11_0000 ≤ top → sum_by range_size (ranges_of xs) ≤ top =
    λ top le. omega (arith, sum_by-ranges_of xs top le h, count_members-bound (contains xs) top) in
    bound 0x11_0000 (omega arith)

-- each range starts at most where it ends
pub ranges_of-ordered : (n : ℕ) (xs : List ℕ) → ascends_from n xs ≡ true → All (λ r. r.start ≤ r.end) (ranges_of xs)
ranges_of-ordered n [] h = All-nil (λ (r : CodePointRange). r.start ≤ r.end)
ranges_of-ordered n (a ∷ []) h = All-nil (λ (r : CodePointRange). r.start ≤ r.end)
ranges_of-ordered n (a ∷ b ∷ xs) h =
    let first = ascends_from-parts n a (b ∷ xs) h in
    let second = ascends_from-parts (suc a) b xs first.2 in
    All-cons (λ (r : CodePointRange). r.start ≤ r.end) (record { start = a; end = b - 1 }) (ranges_of xs) (omega arith)
    (ranges_of-ordered (suc b) xs second.2)
