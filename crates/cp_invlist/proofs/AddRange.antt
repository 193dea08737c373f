-- A list after a range is added: everything from the range's start to the number past it is cut out, and an end of the range
-- is put there where it lies in no range of the list.
use Rattle.std.proofs.Common.{◌≡◌, ℕ, suc, ◌+◌, ◌-◌, ◌%◌, ◌<◌, ◌≤◌, ◌==◌, Bool, true, false, not, ◌||◌, ◌&&◌, nat_le, nat_lt, min, List, [], ◌∷◌, ◌++◌, length, take, drop, get_or, All, refl, sym, ap, ap₂, ◌∙◌, arith, append_assoc, inl, inr, Result, Ok, Err, OnOk, OnErr}
use Rattle.std.specs.List.{splice}
use Rattle.std.proofs.lemmas.Bool.{le-leb, lt-leb, cases_lt, and_left, and_right, and_from}
use Rattle.std.proofs.lemmas.Bool.Decides.{nat_tests}
use Rattle.std.proofs.lemmas.List.{take-append-drop, take_all, drop_all}
use Rattle.std.proofs.lemmas.List.Elements.{All-weaker}
use Rattle.std.proofs.Math.Bool.{or-false, or-true}
use Rattle.cp_invlist.specs.InversionList.{differ, contains, ascends_from, has_even_length, IsInversionList}
use Rattle.cp_invlist.specs.Ranges.{in_code_points}
use Rattle.cp_invlist.specs.declared.error.NoMemory.{NoMemory}
use Rattle.cp_invlist.specs.declared.ranges.CodePointRange.{CodePointRange}
use Rattle.cp_invlist.specs.Cuts.{CutAfter, CutBefore}
use Rattle.cp_invlist.specs.ListLaws.{ascends_from-lower, ascends_from-raise, ascends_from-take, ascends_from-drop, ascends_from-append, ascends_from-cons, contains-append, contains-all_at_most, contains-all_above, has_even_length-append, IsInversionList-parts, IsInversionList-from}
use Rattle.cp_invlist.specs.CutLaws.{IsNonDecreasingBy-ascends, CutAfter-all, CutBefore-all, CutBefore-last, odd_length, has_even_length-take, has_odd_length-take, cases_parity}

-- an end, where it is to be written
abbrev pub written : Bool → ℕ → List ℕ
written true x = x ∷ []
written false x = []

-- the list with the range from the first to the second number added, cut at these places
abbrev pub with_range : List ℕ → ℕ → ℕ → ℕ → ℕ → List ℕ
with_range xs start past low high =
    take low xs ++ (written (has_even_length (take low xs)) start ++ (written (has_even_length (take high xs)) past ++ drop high xs))

ascends_from-written : (b : Bool) (n m x : ℕ) (xs : List ℕ) → n ≤ x → x < m → x ≤ 0x11_0000 → ascends_from m xs ≡ true → ascends_from n (written b x ++ xs) ≡ true
ascends_from-written true n m x xs le lt bound h = ascends_from-cons n x xs le bound (ascends_from-lower (suc x) m xs lt h)
ascends_from-written false n m x xs le lt bound h = ascends_from-lower n m xs (omega arith) h

contains-written_at_most : (b : Bool) (x c : ℕ) → x ≤ c → contains (written b x) c ≡ b
contains-written_at_most true x c le = ap (λ b. differ b false) (le-leb x c le)
contains-written_at_most false x c le = refl

contains-written_above : (b : Bool) (x c : ℕ) → c < x → contains (written b x) c ≡ false
contains-written_above true x c lt = ap (λ b. differ b false) (lt-leb x c lt)
contains-written_above false x c lt = refl

has_even_length-written : (b : Bool) (x : ℕ) → has_even_length (written b x) ≡ not b
has_even_length-written true x = refl
has_even_length-written false x = refl

with_range-ascends : (xs : List ℕ) (start past low high : ℕ) → ascends_from 0 xs ≡ true → start < past → past ≤ 0x11_0000 →
    CutBefore start xs low → CutAfter past xs high → ascends_from 0 (with_range xs start past low high) ≡ true
with_range-ascends xs start past low high h lt bound before after =
    ascends_from-append 0 start (take low xs) _ (omega arith) before.before (ascends_from-take 0 low xs h)
    (
    ascends_from-written (has_even_length (take low xs)) start past start _ (omega arith) lt (omega arith)
    (
    ascends_from-written (has_even_length (take high xs)) past (suc past) past _ (omega arith) (omega arith) bound
    (ascends_from-raise 0 (suc past) (drop high xs) after.behind (ascends_from-drop 0 high xs h))
    )
    )

parity : (a b c : Bool) → not (differ b c) ≡ true →
    not (differ a (not (differ (not a) (not (differ (not b) c))))) ≡ true
parity true true true h = refl
parity true true false h = h
parity true false true h = h
parity true false false h = refl
parity false true true h = refl
parity false true false h = h
parity false false true h = h
parity false false false h = refl

with_range-even : (xs : List ℕ) (start past low high : ℕ) → has_even_length xs ≡ true → has_even_length (with_range xs start past low high) ≡ true
with_range-even xs start past low high h =
    let a = has_even_length (take low xs) in
    let b = has_even_length (take high xs) in
    let c = has_even_length (drop high xs) in
    has_even_length-append (take low xs) _
    ∙ ap (λ e. not (differ a e)) (
    has_even_length-append (written a start) _
    ∙ ap₂ (λ d e. not (differ d e)) (has_even_length-written a start) (
    has_even_length-append (written b past) _ ∙ ap (λ d. not (differ d c)) (has_even_length-written b past)
    )
    )
    ∙ parity a b c (sym (has_even_length-append (take high xs) (drop high xs)) ∙ ap has_even_length (take-append-drop high xs) ∙ h)

pub with_range-IsInversionList : (xs : List ℕ) (start past low high : ℕ) → IsInversionList xs → start < past → past ≤ 0x11_0000 →
    CutBefore start xs low → CutAfter past xs high → IsInversionList (with_range xs start past low high)
with_range-IsInversionList xs start past low high h lt bound before after =
    let parts = IsInversionList-parts xs h in
    IsInversionList-from (with_range xs start past low high) (with_range-ascends xs start past low high parts.0 lt bound before after)
    (with_range-even xs start past low high parts.1)

contains-with_range : (xs : List ℕ) (start past low high d : ℕ) →
    contains (with_range xs start past low high) d
    ≡ differ (contains (take low xs) d) (
    differ (contains (written (has_even_length (take low xs)) start) d) (
    differ (contains (written (has_even_length (take high xs)) past) d) (contains (drop high xs) d)
    )
    )
contains-with_range xs start past low high d =
    contains-append (take low xs) _ d
    ∙ ap (differ (contains (take low xs) d)) (
    contains-append (written (has_even_length (take low xs)) start) _ d
    ∙ ap (differ (contains (written (has_even_length (take low xs)) start) d))
    (contains-append (written (has_even_length (take high xs)) past) (drop high xs) d)
    )

contains-split : (xs : List ℕ) (i d : ℕ) → contains xs d ≡ differ (contains (take i xs) d) (contains (drop i xs) d)
contains-split xs i d = ap (λ l. contains l d) (sym (take-append-drop i xs)) ∙ contains-append (take i xs) (drop i xs) d

differ-self : (a : Bool) → differ (not a) (differ a false) ≡ true
differ-self true = refl
differ-self false = refl

differ-behind : (a b c : Bool) → differ (not a) (differ a (differ b c)) ≡ differ (not b) c
differ-behind true true true = refl
differ-behind true true false = refl
differ-behind true false true = refl
differ-behind true false false = refl
differ-behind false true true = refl
differ-behind false true false = refl
differ-behind false false c = refl

-- its members are those of the list, and the numbers from the start up to the number past the range
pub with_range-members : (xs : List ℕ) (start past low high d : ℕ) → start < past →
    CutBefore start xs low → CutAfter past xs high →
    contains (with_range xs start past low high) d ≡ (contains xs d || (nat_le start d && nat_lt d past))
with_range-members xs start past low high d lt before after =
    let a = has_even_length (take low xs) in
    let b = has_even_length (take high xs) in
    contains-with_range xs start past low high d
    ∙ elim (cases_lt d start) [
      | inl below ↦
          let old : contains xs d ≡ differ (contains (take low xs) d) false =
          contains-split xs low d
          ∙ ap (differ (contains (take low xs) d))
          (contains-all_above d (drop low xs) (All-weaker (λ x. start ≤ x) (λ x. d < x) (λ x le. omega arith) (drop low xs) before.behind)) in
          let outside : (nat_le start d && nat_lt d past) ≡ false = and_left _ _ (lt-leb start d below) in
          ap₂ (λ p q. differ (contains (take low xs) d) (differ p q)) (contains-written_above a start d below) (
          ap₂ differ (contains-written_above b past d (omega arith))
          (contains-all_above d (drop high xs) (All-weaker (λ x. past < x) (λ x. d < x) (λ x le. omega arith) (drop high xs) after.behind))
          )
          ∙ sym old ∙ sym (or-false (contains xs d)) ∙ ap (λ v. contains xs d || v) (sym outside)
      | inr ge ↦
          let front : contains (take low xs) d ≡ not a =
          contains-all_at_most d (take low xs) (All-weaker (λ x. x < start) (λ x. x ≤ d) (λ x le. omega arith) (take low xs) before.before) in
          elim (cases_lt d past) [
            | inl within ↦
                let inside : (nat_le start d && nat_lt d past) ≡ true = and_from _ _ (le-leb start d ge) (le-leb (suc d) past within) in
                ap₂ (λ p q. differ p (differ q (differ (contains (written b past) d) (contains (drop high xs) d)))) front (contains-written_at_most a start d ge)
                ∙ ap₂ (λ p q. differ (not a) (differ a (differ p q))) (contains-written_above b past d within)
                (contains-all_above d (drop high xs) (All-weaker (λ x. past < x) (λ x. d < x) (λ x le. omega arith) (drop high xs) after.behind))
                ∙ differ-self a ∙ sym (or-true (contains xs d)) ∙ ap (λ v. contains xs d || v) (sym inside)
            | inr behind ↦
                let old : contains xs d ≡ differ (not b) (contains (drop high xs) d) =
                contains-split xs high d
                ∙ ap (λ v. differ v (contains (drop high xs) d))
                (contains-all_at_most d (take high xs) (All-weaker (λ x. x ≤ past) (λ x. x ≤ d) (λ x le. omega arith) (take high xs) after.before)) in
                let outside : (nat_le start d && nat_lt d past) ≡ false = and_right _ _ (lt-leb (suc d) past (omega arith)) in
                ap₂ (λ p q. differ p (differ q (differ (contains (written b past) d) (contains (drop high xs) d)))) front (contains-written_at_most a start d ge)
                ∙ ap (λ p. differ (not a) (differ a (differ p (contains (drop high xs) d)))) (contains-written_at_most b past d behind)
                ∙ differ-behind a b (contains (drop high xs) d)
                ∙ sym old ∙ sym (or-false (contains xs d)) ∙ ap (λ v. contains xs d || v) (sym outside)
          ]
    ]

-- the ends that are written are those between these places of the two
pub written-ends : (xs : List ℕ) (start past low high : ℕ) → low ≤ length xs → high ≤ length xs →
    take (2 - high % 2 - low % 2) (drop (low % 2) (start ∷ past ∷ []))
    ≡ written (has_even_length (take low xs)) start ++ written (has_even_length (take high xs)) past
written-ends xs start past low high hl hh = elim (cases_parity low) [
  | inl even_low ↦ elim (cases_parity high) [
    | inl even_high ↦ rw (even_low, even_high, has_even_length-take xs low hl even_low, has_even_length-take xs high hh even_high)
    | inr odd_high ↦ rw (even_low, odd_high, has_even_length-take xs low hl even_low, has_odd_length-take xs high hh odd_high)
  ]
  | inr odd_low ↦ elim (cases_parity high) [
    | inl even_high ↦ rw (odd_low, even_high, has_odd_length-take xs low hl odd_low, has_even_length-take xs high hh even_high)
    | inr odd_high ↦ rw (odd_low, odd_high, has_odd_length-take xs low hl odd_low, has_odd_length-take xs high hh odd_high)
  ]
]

pub with_range-splice : (xs ends : List ℕ) (start past low high : ℕ) →
    ends ≡ written (has_even_length (take low xs)) start ++ written (has_even_length (take high xs)) past →
    splice xs low high ends ≡ with_range xs start past low high
with_range-splice xs ends start past low high e =
    ap (λ l. take low xs ++ (l ++ drop high xs)) e
    ∙ ap (λ l. take low xs ++ l) (append_assoc (written (has_even_length (take low xs)) start) (written (has_even_length (take high xs)) past) (drop high xs))

-- the place of the last element is odd
odd_before_last : (xs : List ℕ) → 0 < length xs → has_even_length xs ≡ true → (length xs - 1) % 2 ≡ 1
odd_before_last xs some even =
    let remainder : (length xs % 2 == 1) ≡ false = sym (odd_length xs) ∙ ap not even in
    grind (arith, nat_tests, remainder)

-- behind all elements both ends are written
pub with_range-behind : (xs : List ℕ) (start past : ℕ) → has_even_length xs ≡ true → xs ++ (start ∷ past ∷ []) ≡ with_range xs start past (length xs) (length xs)
with_range-behind xs start past even =
    let whole = take_all (length xs) xs (omega arith) in
    rw (whole, even, drop_all (length xs) xs (omega arith))

-- the numbers from the start to the number past the range are its code points
pub in_code_points-past : (r : CodePointRange) (past d : ℕ) → past ≡ min r.end 0x10_FFFF + 1 → (nat_le r.start d && nat_lt d past) ≡ in_code_points r d
in_code_points-past r past d e = grind (arith, nat_tests)

-- what a builder's list is after a range was added
pub record Added (xs new : List ℕ) (r : CodePointRange) : Type 0 where
  pub list : IsInversionList new
  pub members : (d : ℕ) → contains new d ≡ (contains xs d || in_code_points r d)

pub Added-from_cuts : (xs new : List ℕ) (r : CodePointRange) (past low high : ℕ) → IsInversionList xs → r.start ≤ r.end → r.start ≤ 0x10_FFFF →
    past ≡ min r.end 0x10_FFFF + 1 → CutBefore r.start xs low → CutAfter past xs high → new ≡ with_range xs r.start past low high → Added xs new r
Added-from_cuts xs new r past low high h le bound e before after is =
    let lt : r.start < past = omega arith in
    record {
      list = rw is (with_range-IsInversionList xs r.start past low high h lt (omega arith) before after);
      members = λ d. ap (λ l. contains l d) is ∙ with_range-members xs r.start past low high d lt before after
          ∙ ap (λ b. contains xs d || b) (in_code_points-past r past d e);
    }

pub Added-behind : (xs new : List ℕ) (r : CodePointRange) (past : ℕ) → IsInversionList xs → r.start ≤ r.end → r.start ≤ 0x10_FFFF →
    past ≡ min r.end 0x10_FFFF + 1 → All (λ x. x < r.start) xs → new ≡ xs ++ (r.start ∷ past ∷ []) → Added xs new r
Added-behind xs new r past h le bound e all is =
    Added-from_cuts xs new r past (length xs) (length xs) h le bound e (CutBefore-all r.start xs all)
    (CutAfter-all past xs (All-weaker (λ x. x < r.start) (λ x. x ≤ past) (λ x lt. omega arith) xs all))
    (is ∙ with_range-behind xs r.start past (IsInversionList-parts xs h).1)

-- a range that starts where the last one ends goes on with it
pub Added-touching : (xs new : List ℕ) (r : CodePointRange) (past : ℕ) → IsInversionList xs → r.start ≤ r.end → r.start ≤ 0x10_FFFF →
    past ≡ min r.end 0x10_FFFF + 1 → 0 < length xs → ((d : ℕ) → get_or xs (length xs - 1) d ≡ r.start) →
    new ≡ splice xs (length xs - 1) (length xs) (past ∷ []) → Added xs new r
Added-touching xs new r past h le bound e some last is =
    let parts = IsInversionList-parts xs h in
    let all : All (λ x. x ≤ past) xs = λ k d lt. omega (arith, last d, IsNonDecreasingBy-ascends 0 xs parts.0 k (length xs - 1) d (omega arith) (omega arith)) in
    let odd = has_odd_length-take xs (length xs - 1) (omega arith) (odd_before_last xs some parts.1) in
    let whole = take_all (length xs) xs (omega arith) in
    Added-from_cuts xs new r past (length xs - 1) (length xs) h le bound e (CutBefore-last r.start xs parts.0 some last) (CutAfter-all past xs all)
    (is ∙ with_range-splice xs (past ∷ []) r.start past (length xs - 1) (length xs) (rw (odd, whole, parts.1) refl))

-- after a change that may have failed
pub Added-list : (xs new : List ℕ) (r : CodePointRange) (b : Result (Unit {0}) NoMemory) → IsInversionList xs → OnOk b (Added xs new r) → OnErr b (new ≡ xs) → IsInversionList new
Added-list xs new r (Ok _) h ok err = ok.list
Added-list xs new r (Err _) h ok err = rw err h

pub Added-members : (xs new : List ℕ) (r : CodePointRange) (b : Result (Unit {0}) NoMemory) → OnOk b (Added xs new r) → OnOk b ((d : ℕ) → contains new d ≡ (contains xs d || in_code_points r d))
Added-members xs new r (Ok _) ok = ok.members
Added-members xs new r (Err _) ok = tt

pub Added-on_ok : (xs new ends : List ℕ) (r : CodePointRange) (b : Result (Unit {0}) NoMemory) (past low high : ℕ) → IsInversionList xs → r.start ≤ r.end → r.start ≤ 0x10_FFFF →
    past ≡ min r.end 0x10_FFFF + 1 → CutBefore r.start xs low → CutAfter past xs high → low ≤ length xs → high ≤ length xs →
    ends ≡ take (2 - high % 2 - low % 2) (drop (low % 2) (r.start ∷ past ∷ [])) →
    OnOk b (new ≡ splice xs low high ends) → OnOk b (Added xs new r)
Added-on_ok xs new ends r (Ok _) past low high h le bound e before after hl hh is ok =
    Added-from_cuts xs new r past low high h le bound e before after
    (ok ∙ with_range-splice xs ends r.start past low high (is ∙ written-ends xs r.start past low high hl hh))
Added-on_ok xs new ends r (Err _) past low high h le bound e before after hl hh is ok = tt
