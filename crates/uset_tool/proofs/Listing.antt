-- What is finite can be listed: its code points as maximal ranges, and its strings in order.
use mathlib.Core.Logic.{◌⊎◌}
use Rattle.std.proofs.Common.{inl, inr, ◌≡◌, ◌≢◌, ℕ, zero, suc, ◌+◌, ◌<◌, ◌≤◌, Bool, true, false, ◌&&◌, ◌||◌, All, List, [], ◌∷◌, length, encode_utf8_all, refl, sym, ap, ◌∙◌, arith, nat_cmp}
use Rattle.std.proofs.lemmas.Bool.{both_ways, cases_Bool, cases_lt}
use Rattle.std.proofs.lemmas.Cmp.{nat_list_cmp_total}
use Rattle.std.proofs.lemmas.List.Elements.{All-cons, All-head, All-tail, All-nil}
use Rattle.std.proofs.lemmas.List.Kept.{AllPairs-cons}
use Rattle.std.proofs.lemmas.Map.Text.{is_eq-slice_cmp}
use Rattle.std.proofs.lemmas.Map.Views.{All-insert_key}
use Rattle.std.proofs.lemmas.Slice.Eq.{bytes_eq-Decides}
use Rattle.std.proofs.lemmas.Str.{chars-encodes}
use Rattle.std.specs.declared.cmp.Ordering.{Ordering}
use Rattle.std.specs.declared.cmp.Ordering.TheVariants.{Less, Equal, Greater}
use Rattle.std.specs.Ordering.{is_eq, ordering_reverse, match_ordering}
use Rattle.std.specs.BTreeSet.{insert_key}
use Rattle.std.specs.Cmp.Lexicographic.{slice_cmp}
use Rattle.std.specs.List.{AllPairs, list_any}
use Rattle.std.specs.Str.{chars, bytes_eq}
use Rattle.std.proofs.Math.Bool.{or_self_left, and-false}
use Rattle.cp_invlist.specs.declared.ranges.CodePointRange.{CodePointRange}
use Rattle.cp_invlist.specs.Ranges.{AreRangesFrom, AreMaximalRanges}
use Rattle.cp_strset.specs.StringList.{holds, AreCanonical}
use Rattle.uset_grammar.specs.Text.{Text}
use Rattle.uset_grammar.specs.Finite.{IsBounded, IsString}

-- The maximal ranges from a number on.
abbrev Ranges : (ℕ → Bool) → ℕ → Type 0
Ranges m n = (rs : List CodePointRange) × AreRangesFrom m n rs

-- where the number below is no member, they are the same
past : (m : ℕ → Bool) (n : ℕ) (P : ℕ → Type 0) → m n ≡ false → ((c : ℕ) → n + 1 ≤ c → P c → m c ≡ false) → (c : ℕ) → n ≤ c → P c → m c ≡ false
past m n P out further c above p = by (cases_lt n c)
  where
    by : (n < c) ⊎ (c ≤ n) → m c ≡ false
    by (inl over) = further c (omega (arith, over)) p
    by (inr under) = ap m (let same : c ≡ n = omega (arith, above, under) in same) ∙ out

below_outside : (m : ℕ → Bool) (n : ℕ) → m n ≡ false → (rs : List CodePointRange) → AreRangesFrom m (n + 1) rs → AreRangesFrom m n rs
below_outside m n out [] h = λ c above. past m n (λ c. Unit {0}) out (λ c k u. h c k) c above tt
below_outside m n out (r ∷ rs) (start, end, gap, inside, stops, more) =
    (omega (arith, start), end, past m n (λ c. c < r.start) out gap, inside, stops, more)

-- where it is one and the number itself is none, it is a range
alone : (m : ℕ → Bool) (n : ℕ) → m n ≡ true → m (n + 1) ≡ false → (rs : List CodePointRange) → AreRangesFrom m (n + 1) rs → AreRangesFrom m n (record { start = n; end = n } ∷ rs)
alone m n in' out rs h = (
  omega arith,
  omega arith,
  λ c above below. absurd (omega (arith, above, below)),
  λ c above below. ap m (let same : c ≡ n = omega (arith, above, below) in same) ∙ in',
  out,
  h,
)

-- where both are, the first range begins one number lower
lower : (m : ℕ → Bool) (n : ℕ) → m n ≡ true → m (n + 1) ≡ true → (rs : List CodePointRange) → AreRangesFrom m (n + 1) rs → Ranges m n
lower m n in' next [] h = absurd (both_ways _ (h (n + 1) (omega arith)) next)
lower m n in' next (r ∷ rs) (start, end, gap, inside, stops, more) =
    (record { start = n; end = r.end } ∷ rs, (omega arith, omega (arith, start, end), (λ c above below. absurd (omega (arith, above, below))), within, stops, more))
  where
    at_next : (n + 1 < r.start) ⊎ (r.start ≤ n + 1) → r.start ≤ n + 1
    at_next (inl over) = absurd (both_ways _ (gap (n + 1) (omega arith) over) next)
    at_next (inr h) = h

    within : (c : ℕ) → n ≤ c → c ≤ r.end → m c ≡ true
    within c above below = by (cases_lt n c)
      where
        by : (n < c) ⊎ (c ≤ n) → m c ≡ true
        by (inl over) = inside c (let h = at_next (cases_lt (n + 1) r.start) in omega (arith, h, over)) below
        by (inr under) = ap m (let same : c ≡ n = omega (arith, above, under) in same) ∙ in'

one_lower : (m : ℕ → Bool) (n : ℕ) → ((m n ≡ true) ⊎ (m n ≡ false)) → ((m (n + 1) ≡ true) ⊎ (m (n + 1) ≡ false)) → Ranges m (n + 1) → Ranges m n
one_lower m n (inr out) next (rs, h) = (rs, below_outside m n out rs h)
one_lower m n (inl in') (inl next) (rs, h) = lower m n in' next rs h
one_lower m n (inl in') (inr out) (rs, h) = (record { start = n; end = n } ∷ rs, alone m n in' out rs h)

ranges_from : (m : ℕ → Bool) (k n : ℕ) → ((c : ℕ) → n + k ≤ c → m c ≡ false) → Ranges m n
ranges_from m zero n beyond = ([], λ c h. beyond c (omega (arith, h)))
ranges_from m (suc k) n beyond =
    one_lower m n (cases_Bool (m n)) (cases_Bool (m (n + 1))) (ranges_from m k (n + 1) (λ c h. beyond c (omega (arith, h))))

-- a bounded set has maximal ranges
pub maximal_ranges : (m : ℕ → Bool) → IsBounded m → (rs : List CodePointRange) × AreMaximalRanges m rs
maximal_ranges m h = ranges_from m h.bound 0 (λ c k. h.beyond c (omega (arith, k)))

-- Strings in order.
abbrev IsBelow : List ℕ → List ℕ → Type 0
IsBelow s t = slice_cmp nat_cmp s t ≡ Less

-- by recursion: each is below those behind it
abbrev Ascend : List (List ℕ) → Type 0
Ascend ss = AllPairs IsBelow ss

ascend_head : (s : List ℕ) (ss : List (List ℕ)) → Ascend (s ∷ ss) → All (IsBelow s) ss
ascend_head s ss h = λ k d below. h zero (suc k) d (omega arith) (omega (arith, below))

ascend_tail : (s : List ℕ) (ss : List (List ℕ)) → Ascend (s ∷ ss) → Ascend ss
ascend_tail s ss h = λ i j d below within. h (suc i) (suc j) d (omega (arith, below)) (omega (arith, within))

all_below : (s t : List ℕ) (ss : List (List ℕ)) → IsBelow s t → All (IsBelow t) ss → All (IsBelow s) ss
all_below s t ss first more = λ k d within. nat_list_cmp_total.trans s t _ first (more k d within)

insert_ascends : (ss : List (List ℕ)) (s : List ℕ) → Ascend ss → Ascend (insert_key (slice_cmp nat_cmp) ss s)
insert_ascends [] s h = AllPairs-cons IsBelow s [] (All-nil (IsBelow s)) h
insert_ascends (t ∷ ss) s h = by (slice_cmp nat_cmp s t) refl (insert_ascends ss s (ascend_tail t ss h))
  where
    by : (o : Ordering) → slice_cmp nat_cmp s t ≡ o → Ascend (insert_key (slice_cmp nat_cmp) ss s) →
        Ascend (match_ordering o (s ∷ t ∷ ss) (t ∷ ss) (t ∷ insert_key (slice_cmp nat_cmp) ss s))
    by Less e more = AllPairs-cons IsBelow s (t ∷ ss) (All-cons (IsBelow s) t ss e (all_below s t ss e (ascend_head t ss h))) h
    by Equal e more = h
    by Greater e more =
        AllPairs-cons IsBelow t (insert_key (slice_cmp nat_cmp) ss s)
        (All-insert_key (slice_cmp nat_cmp) s (IsBelow t) ss (ascend_head t ss h) (nat_list_cmp_total.antisymm t s ∙ ap ordering_reverse e)) more

turned : (a b c : Bool) → (a || (b || c)) ≡ (b || (a || c))
turned true true c = refl
turned true false c = refl
turned false b c = refl

insert_holds : (ss : List (List ℕ)) (s bytes : List ℕ) → holds (insert_key (slice_cmp nat_cmp) ss s) bytes ≡ (bytes_eq s bytes || holds ss bytes)
insert_holds [] s bytes = refl
insert_holds (t ∷ ss) s bytes = by (slice_cmp nat_cmp s t) refl (insert_holds ss s bytes)
  where
    by : (o : Ordering) → slice_cmp nat_cmp s t ≡ o → holds (insert_key (slice_cmp nat_cmp) ss s) bytes ≡ (bytes_eq s bytes || holds ss bytes) →
        holds (match_ordering o (s ∷ t ∷ ss) (t ∷ ss) (t ∷ insert_key (slice_cmp nat_cmp) ss s)) bytes ≡ (bytes_eq s bytes || (bytes_eq t bytes || holds ss bytes))
    by Less e more = refl
    by Equal e more = sym (or_self_left (bytes_eq t bytes) (holds ss bytes)) ∙ ap (λ u. bytes_eq u bytes || (bytes_eq t bytes || holds ss bytes)) (sym ((bytes_eq-Decides s t).0 (sym (is_eq-slice_cmp s t) ∙ ap is_eq e)))
    by Greater e more = ap (λ b. bytes_eq t bytes || b) more ∙ turned (bytes_eq t bytes) (bytes_eq s bytes) (holds ss bytes)

-- The strings of a set, where each is one of some texts.
abbrev Strings : (List ℕ → Bool) → List Text → Type 0
Strings m ts = (ss : List (List ℕ)) × AreCanonical ss × ((bytes : List ℕ) → holds ss bytes ≡ (m bytes && list_any (λ t. bytes_eq (encode_utf8_all t) bytes) ts))

-- one more text, of which the set tells whether it has it
with_one : (b x y : Bool) → (x ≡ true → b ≡ true) → (x || (b && y)) ≡ (b && (x || y))
with_one true x y h = refl
with_one false true y h = absurd (let g = h refl in cc)
with_one false false y h = refl

without : (b x y : Bool) → (x ≡ true → b ≡ false) → (b && y) ≡ (b && (x || y))
without true true y h = absurd (let g = h refl in cc)
without true false y h = refl
without false x y h = refl

strings_of : (m : List ℕ → Bool) (ts : List Text) → All IsString ts → Strings m ts
strings_of m [] h = ([], record { ascending = λ i j d below within. absurd (omega (arith, below, within)); none_of_one = All-nil (λ s. length (chars s) ≢ 1) }, λ bytes. sym (and-false (m bytes)))
strings_of m (t ∷ ts) h = by (cases_Bool (m (encode_utf8_all t))) (strings_of m ts (All-tail IsString t ts h))
  where
    same : (bytes : List ℕ) → bytes_eq (encode_utf8_all t) bytes ≡ true → m (encode_utf8_all t) ≡ m bytes
    same bytes e = ap m ((bytes_eq-Decides (encode_utf8_all t) bytes).0 e)

    here : IsString t
    here = All-head IsString t ts h

    not_one : length (chars (encode_utf8_all t)) ≢ 1
    not_one e = here.not_one (ap length (sym (chars-encodes t here.characters)) ∙ e)

    by : (m (encode_utf8_all t) ≡ true) ⊎ (m (encode_utf8_all t) ≡ false) → Strings m ts → Strings m (t ∷ ts)
    by (inl has) (ss, canonical, holding) = (
      insert_key (slice_cmp nat_cmp) ss (encode_utf8_all t),
      record {
        ascending = insert_ascends ss (encode_utf8_all t) canonical.ascending;
        none_of_one = All-insert_key (slice_cmp nat_cmp) (encode_utf8_all t) (λ s. length (chars s) ≢ 1) ss canonical.none_of_one not_one;
      },
      λ bytes. insert_holds ss (encode_utf8_all t) bytes
          ∙ (ap (λ b. bytes_eq (encode_utf8_all t) bytes || b) (holding bytes)
          ∙ with_one (m bytes) (bytes_eq (encode_utf8_all t) bytes) _ (λ e. sym (same bytes e) ∙ has)),
    )
    by (inr lacks) (ss, canonical, holding) =
        (ss, canonical, λ bytes. holding bytes ∙ without (m bytes) (bytes_eq (encode_utf8_all t) bytes) _ (λ e. sym (same bytes e) ∙ lacks))

only : (b x : Bool) → (b ≡ true → x ≡ true) → (b && x) ≡ b
only true x h = h refl
only false x h = refl

-- the strings of a finite set can be put in order
pub strings_in_order : (m : List ℕ → Bool) (ts : List Text) → All IsString ts → ((bytes : List ℕ) → m bytes ≡ true → list_any (λ t. bytes_eq (encode_utf8_all t) bytes) ts ≡ true) →
    (ss : List (List ℕ)) × AreCanonical ss × ((bytes : List ℕ) → holds ss bytes ≡ m bytes)
strings_in_order m ts h within =
    let (ss, canonical, holding) = strings_of m ts h in
    (ss, canonical, λ bytes. holding bytes ∙ only (m bytes) _ (within bytes))
