-- Sets of strings, by their bytes.
use Rattle.std.proofs.Common.{◌≡◌, ◌≢◌, ◌↔◌, ◌<◌, ◌+◌, take, slice_index_or, subst, ℕ, Bool, true, false, cond, ◌||◌, ◌&&◌, not, List, [], ◌∷◌, ◌++◌, zero, suc, map, length, filter, None, refl, sym, ap, ◌∙◌, inl, inr, arith, append-nil}
use Rattle.std.proofs.lemmas.Bool.{cases_Bool, true≢false, or_cases, and_parts, or_right}
use Rattle.std.proofs.lemmas.List.Elements.{All-from_recursion, All-map}
use Rattle.std.proofs.lemmas.List.Folds.{list_any-append}
use Rattle.std.proofs.lemmas.Map.Text.{is_eq-slice_cmp}
use Rattle.std.proofs.lemmas.Slice.Eq.{bytes_eq-Decides}
use Rattle.std.specs.declared.cmp.Ordering.TheVariants.{Less}
use Rattle.std.specs.declared.string.String.{String}
use Rattle.std.specs.Cmp.Lexicographic.{slice_cmp, nat_list_eq_equiv}
use Rattle.std.specs.Global.{Global}
use Rattle.std.specs.List.{list_any, AllPairs, AllByRecursion}
use Rattle.std.specs.List.Sorted.{IsStrictlySortedBy}
use Rattle.std.specs.Ordering.{nat_cmp, is_eq, eq_by_cmp}
use Rattle.std.specs.Set.{IsUnion}
use Rattle.std.specs.Str.{bytes_eq, chars}
use Rattle.std.specs.String.{string_bytes, string_cmp}
use Rattle.cp_strset.specs.StringSet.{StringSet, contains_sole, contains_text}
use Rattle.cp_strset.specs.StringList.{sole_of, holds, AreCanonical}
use Rattle.std.proofs.Math.Seq.{take-suc}
use Rattle.std.proofs.Math.Bool.{or-false, or_assoc}
use Rattle.std.proofs.lemmas.List.{get_or-map, length-map}

-- the string has these bytes
abbrev pub spells : List ℕ → String Global → Bool
spells bytes k = is_eq (slice_cmp nat_cmp bytes (string_bytes k))

-- some string of the list has these bytes
abbrev pub spelled_in : List (String Global) → List ℕ → Bool
spelled_in ks bytes = list_any (spells bytes) ks

-- none of the strings is exactly one character
abbrev pub NoneOfOne : List (String Global) → Type 0
NoneOfOne ks = (bytes : List ℕ) → spelled_in ks bytes ≡ true → sole_of (chars bytes) ≡ None

same_bytes : (bytes : List ℕ) (k : String Global) → spells bytes k ≡ true → bytes ≡ string_bytes k
same_bytes bytes k h = (bytes_eq-Decides bytes (string_bytes k)).0 (sym (is_eq-slice_cmp bytes (string_bytes k)) ∙ h)

pub replaced_or : (new : Bool) (old : Bool) → cond new true old ≡ (old || new)
replaced_or true true = refl
replaced_or true false = refl
replaced_or false true = refl
replaced_or false false = refl

-- a string was added that isn't one character
pub none_of_one_more : (old new : List (String Global)) (added : List ℕ) → sole_of (chars added) ≡ None → NoneOfOne old →
    ((bytes : List ℕ) → spelled_in new bytes ≡ (spelled_in old bytes || bytes_eq added bytes)) → NoneOfOne new
none_of_one_more old new added none all joined bytes h = elim (or_cases (spelled_in old bytes) (bytes_eq added bytes) (sym (joined bytes) ∙ h)) [
  | inl was ↦ all bytes was
  | inr is ↦ ap (λ bs. sole_of (chars bs)) (sym ((bytes_eq-Decides added bytes).0 is)) ∙ none
]

-- strings were added of which none is one character
pub none_of_one_joined : (old other new : List (String Global)) → NoneOfOne old → NoneOfOne other →
    ((bytes : List ℕ) → spelled_in new bytes ≡ (spelled_in old bytes || spelled_in other bytes)) → NoneOfOne new
none_of_one_joined old other new all all_too joined bytes h = elim (or_cases (spelled_in old bytes) (spelled_in other bytes) (sym (joined bytes) ∙ h)) [
  | inl was ↦ all bytes was
  | inr is ↦ all_too bytes is
]

witness : (test : String Global → Bool) (ks : List (String Global)) → list_any test ks ≡ true → (k : String Global) × (test k ≡ true)
witness test [] h = cc
witness test (k ∷ ks) h = elim (or_cases (test k) (list_any test ks) h) [
  | inl is ↦ (k, is)
  | inr more ↦ witness test ks more
]

-- what a list has at the bytes of a string
at_key : (bytes : List ℕ) (k : String Global) (ks : List (String Global)) → bytes ≡ string_bytes k → spelled_in ks bytes ≡ list_any (eq_by_cmp string_cmp k) ks
at_key bytes k ks same = ap (spelled_in ks) same

union_at : (xs ys zs : List (String Global)) → IsUnion (eq_by_cmp string_cmp) xs ys zs → (bytes : List ℕ) (k : String Global) → spells bytes k ≡ true →
    spelled_in zs bytes ≡ (spelled_in xs bytes || spelled_in ys bytes)
union_at xs ys zs union bytes k h =
    let same = same_bytes bytes k h in
    at_key bytes k zs same ∙ (union k ∙ (λ i. sym (at_key bytes k xs same) i || sym (at_key bytes k ys same) i))

-- the strings of two lists
pub union_spelled : (xs ys zs : List (String Global)) → IsUnion (eq_by_cmp string_cmp) xs ys zs → (bytes : List ℕ) → spelled_in zs bytes ≡ (spelled_in xs bytes || spelled_in ys bytes)
union_spelled xs ys zs union bytes = elim (cases_Bool (spelled_in zs bytes)) [
  | inl is ↦ (let w = witness (spells bytes) zs is in union_at xs ys zs union bytes w.0 w.1)
  | inr isnt ↦ elim (cases_Bool (spelled_in xs bytes || spelled_in ys bytes)) [
    | inl some ↦ elim (or_cases (spelled_in xs bytes) (spelled_in ys bytes) some) [
      | inl is ↦ (let w = witness (spells bytes) xs is in union_at xs ys zs union bytes w.0 w.1)
      | inr is ↦ (let w = witness (spells bytes) ys is in union_at xs ys zs union bytes w.0 w.1)
    ]
    | inr none ↦ isnt ∙ sym none
  ]
]

kept_step : (passes is more test : Bool) → (is ≡ true → passes ≡ test) → cond passes (is || (more && test)) (more && test) ≡ ((is || more) && test)
kept_step true true more true h = refl
kept_step true true more false h = absurd (let e = h refl in cc)
kept_step true false more test h = refl
kept_step false true more true h = absurd (let e = h refl in cc)
kept_step false true true false h = refl
kept_step false true false false h = refl
kept_step false false more test h = refl

any_of_kept : (bytes : List ℕ) (passes : Bool) (k : String Global) (ks : List (String Global)) → spelled_in (cond passes (k ∷ ks) ks) bytes ≡ cond passes (spells bytes k || spelled_in ks bytes) (spelled_in ks bytes)
any_of_kept bytes true k ks = refl
any_of_kept bytes false k ks = refl

-- the strings that were kept
pub kept_spelled : (test : List ℕ → Bool) (ks : List (String Global)) (bytes : List ℕ) → spelled_in (filter (λ k. test (string_bytes k)) ks) bytes ≡ (spelled_in ks bytes && test bytes)
kept_spelled test [] bytes = refl
kept_spelled test (k ∷ ks) bytes =
    any_of_kept bytes (test (string_bytes k)) k (filter (λ x. test (string_bytes x)) ks)
    ∙ (ap (λ more. cond (test (string_bytes k)) (spells bytes k || more) more) (kept_spelled test ks bytes)
    ∙ kept_step (test (string_bytes k)) (spells bytes k) (spelled_in ks bytes) (test bytes) (λ is. ap test (sym (same_bytes bytes k is))))

-- fewer strings, none of which is one character
pub none_of_one_kept : (test : List ℕ → Bool) (ks kept : List (String Global)) → NoneOfOne ks → ((bytes : List ℕ) → spelled_in kept bytes ≡ (spelled_in ks bytes && test bytes)) → NoneOfOne kept
none_of_one_kept test ks kept all is bytes h = all bytes (and_parts (spelled_in ks bytes) (test bytes) (sym (is bytes) ∙ h)).0

spells_itself : (k : String Global) → spells (string_bytes k) k ≡ true
spells_itself k = is_eq-slice_cmp (string_bytes k) (string_bytes k) ∙ (bytes_eq-Decides (string_bytes k) (string_bytes k)).1 refl

-- there are no strings just where none has any bytes
pub none_spelled : (ks : List (String Global)) → (length ks ≡ 0) ↔ ((bytes : List ℕ) → spelled_in ks bytes ≡ false)
none_spelled [] = (λ _ bytes. refl, λ _. refl)
none_spelled (k ∷ ks) = (
  λ none. absurd (omega arith),
  λ none. absurd (true≢false (sym (ap (λ b. b || spelled_in ks (string_bytes k)) (spells_itself k)) ∙ none (string_bytes k))),
)

not_one : (cs : List ℕ) → sole_of cs ≡ None → length cs ≢ 1
not_one [] h = λ e. omega (arith, e)
not_one (c ∷ []) h = absurd (let e = h in cc)
not_one (c ∷ d ∷ cs) h = λ e. omega (arith, e)

each_of_more : (ks : List (String Global)) → NoneOfOne ks → AllByRecursion (λ k. length (chars (string_bytes k)) ≢ 1) ks
each_of_more [] none = tt
each_of_more (k ∷ ks) none = (
  not_one (chars (string_bytes k)) (none (string_bytes k) (ap (λ b. b || spelled_in ks (string_bytes k)) (spells_itself k))),
  each_of_more ks (λ bytes h. none bytes (or_right (spells bytes k) (spelled_in ks bytes) h)),
)

ascending_bytes : (ks : List (String Global)) → IsStrictlySortedBy string_cmp ks → AllPairs (λ s t. slice_cmp nat_cmp s t ≡ Less) (map string_bytes ks)
unfolding IsStrictlySortedBy
ascending_bytes [] h i j d below within = absurd (omega (arith, within))
ascending_bytes (k ∷ ks) h i zero d below within = absurd (omega (arith, below))
ascending_bytes (k ∷ ks) h zero (suc j) d below within =
    All-map (λ s. slice_cmp nat_cmp (string_bytes k) s ≡ Less) string_bytes ks (All-from_recursion (λ y. string_cmp k y ≡ Less) ks h.0) j d (omega (arith, within))
ascending_bytes (k ∷ ks) h (suc i) (suc j) d below within = ascending_bytes ks h.1 i j d (omega (arith, below)) (omega (arith, within))

-- the strings in order, by their bytes
pub canonical_bytes : (ks : List (String Global)) → IsStrictlySortedBy string_cmp ks → NoneOfOne ks → AreCanonical (map string_bytes ks)
canonical_bytes ks sorted none = record {
  ascending = ascending_bytes ks sorted;
  none_of_one = All-map (λ s. length (chars s) ≢ 1) string_bytes ks (All-from_recursion (λ k. length (chars (string_bytes k)) ≢ 1) ks (each_of_more ks none));
}

-- whether a list of bytes has these
pub bytes_spelled : (ks : List (String Global)) (bytes : List ℕ) → holds (map string_bytes ks) bytes ≡ spelled_in ks bytes
bytes_spelled [] bytes = refl
bytes_spelled (k ∷ ks) bytes =
    ap (λ b. b || holds (map string_bytes ks) bytes) (nat_list_eq_equiv.symm (string_bytes k) bytes ∙ sym (is_eq-slice_cmp bytes (string_bytes k)))
    ∙ ap (λ b. spells bytes k || b) (bytes_spelled ks bytes)

-- all strings were given out
pub all_given : (given left ks : List (String Global)) → given ++ left ≡ ks → left ≡ [] → given ≡ ks
all_given given left ks parts none = sym (append-nil given) ∙ (ap (λ l. given ++ l) (sym none) ∙ parts)

removed_step : (is was given : Bool) → cond is false (was && not given) ≡ (was && not (given || is))
removed_step true true true = refl
removed_step true true false = refl
removed_step true false given = refl
removed_step false true true = refl
removed_step false true false = refl
removed_step false false given = refl

or_last : (xs : List (String Global)) (k : String Global) (bytes : List ℕ) → spelled_in (xs ++ k ∷ []) bytes ≡ (spelled_in xs bytes || bytes_eq (string_bytes k) bytes)
or_last xs k bytes =
    list_any-append (spells bytes) xs (k ∷ [])
    ∙ ap (λ b. spelled_in xs bytes || b) (or-false (spells bytes k) ∙ (is_eq-slice_cmp bytes (string_bytes k) ∙ sym (nat_list_eq_equiv.symm (string_bytes k) bytes)))

-- one more string was taken away
pub removed_more : (start old new : Bool) (given : List (String Global)) (k : String Global) (bytes : List ℕ) → old ≡ (start && not (spelled_in given bytes)) →
    new ≡ cond (bytes_eq (string_bytes k) bytes) false old → new ≡ (start && not (spelled_in (given ++ k ∷ []) bytes))
removed_more start old new given k bytes before it =
    it
    ∙ (ap (cond (bytes_eq (string_bytes k) bytes) false) before
    ∙ (removed_step (bytes_eq (string_bytes k) bytes) start (spelled_in given bytes) ∙ ap (λ b. start && not b) (sym (or_last given k bytes))))

-- one more string of a list
pub spelled_next : (ks : List (String Global)) (i : ℕ) (d : String Global) (bytes : List ℕ) → i < length ks →
    spelled_in (take (i + 1) ks) bytes ≡ (spelled_in (take i ks) bytes || bytes_eq (string_bytes (slice_index_or ks i d)) bytes)
spelled_next ks i d bytes below =
    let one : i + 1 ≡ suc i = omega arith in
    ap (λ xs. spelled_in xs bytes) (ap (λ n. take n ks) one ∙ take-suc ks i d below) ∙ or_last (take i ks) (slice_index_or ks i d) bytes

-- a copy of the next string was added
pub copied_more : (start old new : Bool) (ks : List (String Global)) (i : ℕ) (d : String Global) (copy bytes : List ℕ) → i < length ks → copy ≡ string_bytes (slice_index_or ks i d) →
    old ≡ (start || spelled_in (take i ks) bytes) → new ≡ (old || bytes_eq copy bytes) → new ≡ (start || spelled_in (take (i + 1) ks) bytes)
copied_more start old new ks i d copy bytes below same before it =
    it
    ∙ (ap (λ b. b || bytes_eq copy bytes) before
    ∙ (or_assoc start (spelled_in (take i ks) bytes) (bytes_eq copy bytes)
    ∙ ap (λ b. start || b) (ap (λ bs. spelled_in (take i ks) bytes || bytes_eq bs bytes) same ∙ sym (spelled_next ks i d bytes below))))

one_or_other : (cs : List ℕ) → length cs ≢ 1 → sole_of cs ≡ None
one_or_other [] n = refl
one_or_other (c ∷ []) n = absurd (n refl)
one_or_other (c ∷ d ∷ cs) n = refl

-- no string of a canonical list is exactly one character
pub canonical_none : (ks : List (String Global)) (i : ℕ) (d : String Global) → AreCanonical (map string_bytes ks) → i < length ks →
    sole_of (chars (string_bytes (slice_index_or ks i d))) ≡ None
canonical_none ks i d all below =
    one_or_other (chars (string_bytes (slice_index_or ks i d)))
    (subst (λ bs. length (chars bs) ≢ 1) (get_or-map string_bytes ks i d (string_bytes d) below) (all.none_of_one i (string_bytes d) (subst (λ n. i < n) (sym (length-map ks string_bytes)) below)))

-- the next string of a list was taken away
pub listed_removed_more : (start old new : Bool) (ks : List (String Global)) (i : ℕ) (k : String Global) (bytes : List ℕ) → i < length ks → k ≡ slice_index_or ks i k →
    old ≡ (start && not (spelled_in (take i ks) bytes)) → new ≡ cond (bytes_eq (string_bytes k) bytes) false old → new ≡ (start && not (spelled_in (take (i + 1) ks) bytes))
listed_removed_more start old new ks i k bytes below is before it =
    let one : i + 1 ≡ suc i = omega arith in
    removed_more start old new (take i ks) k bytes before it
    ∙ ap (λ xs. start && not (spelled_in xs bytes)) (ap (λ x. take i ks ++ x ∷ []) is ∙ (sym (take-suc ks i k below) ∙ ap (λ n. take n ks) (sym one)))

pub and_where : (a b c : Bool) → (a ≡ true → b ≡ c) → (a && b) ≡ (a && c)
and_where true b c h = h refl
and_where false b c h = refl

-- a text of other than one character is in a set where it is among the strings
pub listed_as_text : (set : StringSet) (bytes : List ℕ) → sole_of (chars bytes) ≡ None → contains_text set bytes ≡ holds set.strings bytes
listed_as_text set bytes e = ap (contains_sole set bytes) e
