-- What windows say of sets.
use Rattle.std.proofs.Common.{◌≡◌, ℕ, suc, ◌+◌, ◌-◌, ◌%◌, ◌<◌, ◌≤◌, Bool, true, false, ◌==◌, nat_le, List, [], ◌∷◌, ◌++◌, Some, length, take, drop, get_or, All, refl, sym, ap, ap₂, ◌∙◌, arith, subst, inl, inr}
use Rattle.std.specs.List.{slice_get}
use Rattle.std.proofs.lemmas.Option.{slice_get_within, get_or_from_slice_get}
use Rattle.std.proofs.Math.Seq.{drop-cons}
use Rattle.std.proofs.lemmas.Bool.{le-leb, lt-leb, cases_lt}
use Rattle.std.proofs.lemmas.List.{get_or-drop, length-drop, take-append-drop, length-take-le, take_more, take_all}
use Rattle.std.proofs.lemmas.List.Elements.{All-append, All-cons, All-nil}
use Rattle.cp_invlist.specs.InversionList.{contains, differ, ascends_from, IsInversionList}
use Rattle.cp_invlist.specs.Cuts.{CutAfter}
use Rattle.cp_invlist.specs.ListLaws.{ascends_from-parts, ascends_from-cons, ascends_from-drop, contains-append, contains-below, contains-all_at_most, IsInversionList-parts}
use Rattle.cp_invlist.specs.CutLaws.{IsNonDecreasingBy-ascends, differ-false, odd_length}
use Rattle.cp_invlist.specs.Words.{has_bit, IsWord}
use Rattle.cp_invlist.specs.Windows.{IsWindow, is_inside}
use Rattle.cp_invlist.specs.declared.window.Window.{Window}

-- no element behind a place is below the one there
pub next_least : (xs : List ℕ) (i next : ℕ) → ascends_from 0 xs ≡ true → i < length xs → ((d : ℕ) → get_or xs i d ≡ next) → All (λ x. next ≤ x) (drop i xs)
next_least xs i next h lt is k d below =
    let short : i + k < length xs = omega (arith, length-drop i xs) in
    let ordered = IsNonDecreasingBy-ascends 0 xs h i (i + k) d (omega arith) short in
    omega (arith, get_or-drop i xs k d, is d)

-- the first element behind a cut is above the number
pub next_above : (c : ℕ) (xs : List ℕ) (i next : ℕ) → i < length xs → All (λ x. c < x) (drop i xs) → ((d : ℕ) → get_or xs i d ≡ next) → c < next
next_above c xs i next lt all is =
    let first : get_or (drop i xs) 0 0 ≡ get_or xs i 0 = get_or-drop i xs 0 0 ∙ ap (λ k. get_or xs k 0) (omega arith) in
    omega (arith, all 0 0 (omega (arith, length-drop i xs)), first, is 0)

-- the window at a place, and the element behind it
pub record IsWindowAhead (xs : List ℕ) (place taken next : ℕ) : Type 0 where
  pub window : IsWindow xs place (record { taken = taken; next = next })
  pub ahead : place < next

pub window_at : (xs elements : List ℕ) (place taken next : ℕ) → elements ≡ xs → IsInversionList xs → CutAfter place elements taken → slice_get elements taken ≡ Some next → IsWindowAhead xs place taken next
window_at xs elements place taken next same list cut at =
    let here : CutAfter place xs taken = subst (λ (l : List ℕ). CutAfter place l taken) same cut in
    let found : slice_get xs taken ≡ Some next = subst (λ (l : List ℕ). slice_get l taken ≡ Some next) same at in
    let short = slice_get_within xs taken next found in
    let is = λ (d : ℕ). get_or_from_slice_get xs taken next d found in
    record {
      window = record { within = omega arith; before = here.before; behind = next_least xs taken next (IsInversionList-parts xs list).0 short is };
      ahead = next_above place xs taken next short here.behind is;
    }

-- the window behind all elements
pub window_behind : (xs elements : List ℕ) (place taken next : ℕ) → elements ≡ xs → taken ≤ length elements → CutAfter place elements taken → length elements ≤ taken → IsWindow xs place (record { taken = taken; next = next })
window_behind xs elements place taken next same within cut past =
    let here : CutAfter place xs taken = subst (λ (l : List ℕ). CutAfter place l taken) same cut in
    let bound : taken ≤ length xs = omega (arith, ap length same) in
    record { within = bound; before = here.before; behind = λ k d lt. absurd (omega (arith, length-drop taken xs, ap length same)) }

-- an element of an ascending list, and those from there on
pub record Ascends (n : ℕ) (xs : List ℕ) (i : ℕ) : Type 0 where
  pub least : n ≤ get_or xs i 0
  pub rest : ascends_from (get_or xs i 0) (drop i xs) ≡ true

pub ascends_at : (n : ℕ) (xs : List ℕ) (i : ℕ) → ascends_from n xs ≡ true → i < length xs → Ascends n xs i
ascends_at n xs i h lt =
    let x = get_or xs i 0 in
    let split : drop i xs ≡ x ∷ drop (suc i) xs = drop-cons xs i 0 lt in
    let parts = ascends_from-parts n x (drop (suc i) xs) (subst (λ (l : List ℕ). ascends_from n l ≡ true) split (ascends_from-drop n i xs h)) in
    record {
      least = parts.0;
      rest = subst (λ (l : List ℕ). ascends_from x l ≡ true) (sym split) (ascends_from-cons x x (drop (suc i) xs) (omega arith) parts.1 parts.2);
    }

-- no element from a place on counts for a number below the one there
pub contains-front : (n c : ℕ) (xs : List ℕ) (i : ℕ) → ascends_from n xs ≡ true → i < length xs → c < get_or xs i 0 → contains xs c ≡ contains (take i xs) c
contains-front n c xs i h lt below =
    ap (λ l. contains l c) (sym (take-append-drop i xs))
    ∙ (contains-append (take i xs) (drop i xs) c
    ∙ (ap (differ (contains (take i xs) c)) (contains-below (get_or xs i 0) c (drop i xs) (ascends_at n xs i h lt).rest below) ∙ differ-false (contains (take i xs) c)))

offset_reaches : (x place j : ℕ) → place ≤ x → nat_le (x - place) j ≡ nat_le x (place + j)
offset_reaches x place j le = elim (cases_lt (place + j) x) [
  | inl below ↦ lt-leb (x - place) j (omega arith) ∙ sym (lt-leb x (place + j) below)
  | inr above ↦ le-leb (x - place) j (omega arith) ∙ sym (le-leb x (place + j) above)
]

differ_swap : (a b : Bool) → differ a b ≡ differ b (differ a false)
differ_swap true true = refl
differ_swap true false = refl
differ_swap false true = refl
differ_swap false false = refl

-- The elements in front have turned the word, and the others are behind the place.
pub record IsTurned (xs : List ℕ) (place taken word : ℕ) : Type 0 where
  pub within : taken ≤ length xs
  pub before : All (λ x. x < place + 64) (take taken xs)
  pub behind : All (λ x. place ≤ x) (drop taken xs)
  pub bits : (j : ℕ) → j < 64 → has_bit word j ≡ contains (take taken xs) (place + j)

pub turned_none : (xs : List ℕ) (place word : ℕ) (window : Window) → IsWindow xs place window → place ≤ window.next → ((j : ℕ) → j < 64 → has_bit word j ≡ is_inside window) → IsTurned xs place window.taken word
turned_none xs place word window is ahead same = record {
  within = is.within;
  before = λ k d lt. omega (arith, is.before k d lt);
  behind = λ k d lt. omega (arith, is.behind k d lt);
  bits = λ j h.
      same j h
      ∙ sym (contains-all_at_most (place + j) (take window.taken xs) (λ k d lt. omega (arith, is.before k d lt)) ∙ (odd_length (take window.taken xs) ∙ ap (λ n. n % 2 == 1) (length-take-le window.taken xs is.within)));
}

-- the next element is behind the place
pub turned_least : (xs : List ℕ) (place taken word x : ℕ) → IsTurned xs place taken word → slice_get xs taken ≡ Some x → place ≤ x
turned_least xs place taken word x is at =
    let lt = slice_get_within xs taken x at in
    let first : get_or (drop taken xs) 0 0 ≡ get_or xs taken 0 = get_or-drop taken xs 0 0 ∙ ap (λ k. get_or xs k 0) (omega arith) in
    omega (arith, is.behind 0 0 (omega (arith, length-drop taken xs)), first, get_or_from_slice_get xs taken x 0 at)

-- one element more
pub turned_more : (xs : List ℕ) (place taken word new x : ℕ) → IsTurned xs place taken word → slice_get xs taken ≡ Some x → x < place + 64 →
    ((j : ℕ) → j < 64 → has_bit new j ≡ differ (nat_le (x - place) j) (has_bit word j)) → IsTurned xs place (taken + 1) new
turned_more xs place taken word new x is at short turned =
    let lt = slice_get_within xs taken x at in
    let found = get_or_from_slice_get xs taken x 0 at in
    let least = turned_least xs place taken word x is at in
    let more : take (taken + 1) xs ≡ take taken xs ++ x ∷ [] = take_more xs taken 0 lt ∙ ap (λ y. take taken xs ++ y ∷ []) found in
    record {
      within = omega arith;
      before = subst (λ (l : List ℕ). All (λ x. x < place + 64) l) (sym more) (All-append (λ x. x < place + 64) (take taken xs) (x ∷ []) is.before (All-cons (λ x. x < place + 64) x [] short (All-nil (λ x. x < place + 64))));
      behind = λ k d rest.
          let same : taken + 1 + k ≡ taken + (k + 1) = omega arith in
          omega (arith, is.behind (k + 1) d (omega (arith, rest, length-drop taken xs, length-drop (taken + 1) xs)), get_or-drop taken xs (k + 1) d, get_or-drop (taken + 1) xs k d, ap (λ n. get_or xs n d) same);
      bits = λ j h.
          turned j h
          ∙ (ap₂ differ (offset_reaches x place j least) (is.bits j h)
          ∙ (differ_swap (nat_le x (place + j)) (contains (take taken xs) (place + j))
          ∙ sym (ap (λ l. contains l (place + j)) more ∙ contains-append (take taken xs) (x ∷ []) (place + j))));
    }

-- The word is read, and no element behind it turns it.
pub record IsRead (xs : List ℕ) (place taken next word : ℕ) : Type 0 where
  pub is_word : IsWord xs place word
  pub window : IsWindow xs (place + 64) (record { taken = taken; next = next })

pub turned_before : (xs : List ℕ) (place taken next word : ℕ) → IsInversionList xs → IsTurned xs place taken word → slice_get xs taken ≡ Some next → place + 64 ≤ next → IsRead xs place taken next word
turned_before xs place taken next word list is at far =
    let lt = slice_get_within xs taken next at in
    let found = λ (d : ℕ). get_or_from_slice_get xs taken next d at in
    let ascends = (IsInversionList-parts xs list).0 in
    record {
      is_word = λ j h. is.bits j h ∙ sym (contains-front 0 (place + j) xs taken ascends lt (omega (arith, found 0)));
      window = record { within = is.within; before = λ k d lt. omega (arith, is.before k d lt); behind = next_least xs taken next ascends lt found };
    }

-- a slice up to the end
pub rest_of : (xs list : List ℕ) (taken : ℕ) → list ≡ xs → take (length list - taken) (drop taken list) ≡ drop taken xs
rest_of xs list taken same = take_all (length list - taken) (drop taken list) (omega (arith, length-drop taken list)) ∙ ap (drop taken) same
