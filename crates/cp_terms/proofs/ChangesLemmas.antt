-- What changes tell of members.
use Rattle.std.proofs.Common.{◌≡◌, ℕ, ◌+◌, ◌-◌, ◌*◌, ◌/◌, ◌%◌, ◌<◌, ◌≤◌, Bool, true, false, not, ◌&&◌, nat_le, List, [], ◌∷◌, ◌++◌, map, Bor, refl, sym, ap, ap₂, ◌∙◌, arith, subst, inl, inr}
use Rattle.std.proofs.Math.Bool.{beq}
use Rattle.std.proofs.lemmas.Bool.{cases_lt, le-leb, lt-leb}
use Rattle.std.proofs.lemmas.List.Elements.{All-append, All-cons, All-nil}
use Rattle.cp_invlist.specs.InversionList.{contains, differ, ascends_from, has_even_length}
use Rattle.cp_invlist.specs.declared.set.CodePointInversionList.{CodePointInversionList}
use Rattle.cp_invlist.specs.ListLaws.{ascends_from-cons, ascends_from-append, contains-append, contains-all_at_most, has_even_length-append, same_of_differ}
use Rattle.cp_invlist.specs.CutLaws.{differ-false}
use Rattle.cp_terms.specs.declared.step.Step.{Step}
use Rattle.cp_terms.specs.Terms.{value_of, holds_at}
use Rattle.cp_invlist.specs.Words.{has_bit}
use Rattle.cp_invlist.specs.WordLaws.{has_bit-zero}
use Rattle.cp_terms.specs.declared.block.Block.{Block}
use Rattle.cp_terms.specs.Blocks.{block_has}
use Rattle.cp_terms.specs.Changes.{AreBefore, TellBelow, IsConstant, members_of}

-- the list goes on ascending
pub ascends_push : (place : ℕ) (xs : List ℕ) → place ≤ 0x110000 → AreBefore place xs → ascends_from 0 xs ≡ true → ascends_from 0 (xs ++ place ∷ []) ≡ true
ascends_push place xs within before ascends = ascends_from-append 0 place xs (place ∷ []) (omega arith) before ascends (ascends_from-cons place place [] (omega arith) within refl)

-- what lies before a place lies before a later one
pub before_later : (place later : ℕ) (xs : List ℕ) → place ≤ later → AreBefore place xs → AreBefore later xs
before_later place later xs le all k d lt = omega (arith, all k d lt)

-- the same place, in other words
pub tell_at : (m : ℕ → Bool) (xs : List ℕ) (place other : ℕ) → place ≡ other → TellBelow m place xs → TellBelow m other xs
tell_at m xs place other same h = subst (λ p. TellBelow m p xs) same h

-- past the code points nothing is a member
pub members_past : (sets : List (Bor CodePointInversionList)) (ss : List Step) (c : ℕ) → 0x110000 ≤ c → members_of sets ss c ≡ false
members_past sets ss c le = ap (λ b. b && value_of (holds_at (map (λ s. s.now) sets) c) ss) (lt-leb c 0x10FFFF (omega arith))

-- behind the changes their number tells
pub contains-behind : (place c : ℕ) (xs : List ℕ) → AreBefore place xs → place ≤ c + 1 → contains xs c ≡ not (has_even_length xs)
contains-behind place c xs all le = contains-all_at_most c xs (λ k d lt. omega (arith, all k d lt))

-- nothing changes at the place
pub tell_kept : (m : ℕ → Bool) (place end : ℕ) (inside : Bool) (xs : List ℕ) → AreBefore place xs → not (has_even_length xs) ≡ inside → TellBelow m place xs → IsConstant m place end inside → TellBelow m end xs
tell_kept m place end inside xs before is tell constant = record {
  told = λ c lt. elim (cases_lt c place) [
    | inl below ↦ tell.told c below
    | inr behind ↦ contains-behind place c xs before (omega arith) ∙ (is ∙ sym (constant c behind lt))
  ];
}

-- on a block that has all or none nothing changes
pub constant_of_block : (m : ℕ → Bool) (place : ℕ) (inside : Bool) (block : Block) → ((i j : ℕ) → i < 256 → j < 64 → m (place + 64 * i + j) ≡ block_has block i j) → ((i j : ℕ) → i < 256 → j < 64 → block_has block i j ≡ inside) → IsConstant m place (place + 0x4000) inside
constant_of_block m place inside block bits all c le lt =
    let i = (c - place) / 64 in
    let j = (c - place) % 64 in
    let is : c ≡ place + 64 * i + j = omega arith in
    ap m is ∙ (bits i j (omega arith) (omega arith) ∙ all i j (omega arith) (omega arith))

-- more changes from the place on
pub contains-more : (place c : ℕ) (xs ys : List ℕ) → AreBefore place xs → contains ys c ≡ false → contains (xs ++ ys) c ≡ contains xs c
contains-more place c xs ys before none = contains-append xs ys c ∙ (ap (differ (contains xs c)) none ∙ differ-false (contains xs c))

-- with one change more it is the other way round
pub is_inside-push : (xs : List ℕ) (x : ℕ) (inside : Bool) → has_even_length xs ≡ inside → not (has_even_length (xs ++ x ∷ [])) ≡ inside
is_inside-push xs x inside is = ap not (has_even_length-append xs (x ∷ [])) ∙ (twice (has_even_length xs) ∙ is)
  where
    twice : (b : Bool) → not (not (differ b false)) ≡ b
    twice true = refl
    twice false = refl

-- a place where it is inside or not other than before
pub turns : (even inside : Bool) → not (beq (not even) inside) ≡ true → even ≡ inside
turns true true h = refl
turns false false h = refl
turns true false h = absurd (let e = h in cc)
turns false true h = absurd (let e = h in cc)

pub stays : (even inside : Bool) → not (beq (not even) inside) ≡ false → not even ≡ inside
stays true false h = refl
stays false true h = refl
stays true true h = absurd (let e = h in cc)
stays false false h = absurd (let e = h in cc)

pub before_push : (place : ℕ) (xs : List ℕ) → AreBefore place xs → AreBefore (place + 1) (xs ++ place ∷ [])
before_push place xs before = All-append (λ x. x < place + 1) xs (place ∷ []) (before_later place (place + 1) xs (omega arith) before) (All-cons (λ x. x < place + 1) place [] (omega arith) (All-nil (λ x. x < place + 1)))

-- a change at the place
pub tell_push : (m : ℕ → Bool) (place end : ℕ) (inside : Bool) (xs : List ℕ) → AreBefore place xs → has_even_length xs ≡ inside → TellBelow m place xs → IsConstant m place end inside → TellBelow m end (xs ++ place ∷ [])
tell_push m place end inside xs before is tell constant = record {
  told = λ c lt. elim (cases_lt c place) [
    | inl below ↦ contains-more place c xs (place ∷ []) before (ap (λ b. differ b false) (lt-leb place c below)) ∙ tell.told c below
    | inr behind ↦
        contains-behind (place + 1) c (xs ++ place ∷ []) (before_push place xs before) (omega arith) ∙ (is_inside-push xs place inside is ∙ sym (constant c behind lt))
  ];
}

-- below 0 no code point is told
pub tell_none : (m : ℕ → Bool) (xs : List ℕ) → TellBelow m 0 xs
tell_none m xs = record { told = λ c lt. absurd (omega (arith, lt)) }

-- from a place up to itself all is constant
pub constant_none : (m : ℕ → Bool) (place : ℕ) (inside : Bool) → IsConstant m place place inside
constant_none m place inside c le lt = absurd (omega arith)

-- The changes that were there tell what they told below the place. From there on the bits that are left say where the changes
-- tell other than the word, and each of these lies behind all changes.
pub record IsLeft (old changes : List ℕ) (place word left : ℕ) : Type 0 where
  pub kept : (c : ℕ) → c < place → contains changes c ≡ contains old c
  pub bits : (j : ℕ) → j < 64 → has_bit left j ≡ differ (contains changes (place + j)) (has_bit word j)
  pub behind : (j : ℕ) → j < 64 → has_bit left j ≡ true → AreBefore (place + j) changes
  pub before : AreBefore (place + 64) changes

pub left_none : (old : List ℕ) (place word left : ℕ) (inside : Bool) → AreBefore place old → inside ≡ not (has_even_length old) → ((j : ℕ) → j < 64 → has_bit left j ≡ differ inside (has_bit word j)) → IsLeft old old place word left
left_none old place word left inside before is same = record {
  kept = λ c lt. refl;
  bits = λ j h. same j h ∙ ap (λ b. differ b (has_bit word j)) (is ∙ sym (contains-behind place (place + j) old before (omega arith)));
  behind = λ j h there. before_later place (place + j) old (omega arith) before;
  before = before_later place (place + 64) old (omega arith) before;
}

differ_pushed : (a b w : Bool) → differ a (differ b w) ≡ differ (differ b (differ a false)) w
differ_pushed true true true = refl
differ_pushed true true false = refl
differ_pushed true false w = refl
differ_pushed false true w = refl
differ_pushed false false w = refl

offset_in_front : (offset place j : ℕ) → nat_le offset j ≡ nat_le (place + offset) (place + j)
offset_in_front offset place j = elim (cases_lt j offset) [
  | inl below ↦ lt-leb offset j below ∙ sym (lt-leb (place + offset) (place + j) (omega arith))
  | inr above ↦ le-leb offset j above ∙ sym (le-leb (place + offset) (place + j) (omega arith))
]

-- the bits up to the first one are gone
pub bits_gone : (left new offset j : ℕ) → offset < 64 → has_bit left offset ≡ true → ((i : ℕ) → i < offset → has_bit left i ≡ false) → ((i : ℕ) → i < 64 → has_bit new i ≡ differ (nat_le offset i) (has_bit left i)) → j ≤ offset →
    has_bit new j ≡ false
bits_gone left new offset j short there none turned le = elim (cases_lt j offset) [
  | inl below ↦ turned j (omega arith) ∙ (ap (λ b. differ b (has_bit left j)) (lt-leb offset j below) ∙ none j below)
  | inr above ↦
      let same : j ≡ offset = omega arith in
      turned j (omega arith) ∙ (ap (λ b. differ b (has_bit left j)) (le-leb offset j above) ∙ ap not (ap (has_bit left) same ∙ there))
]

before_pushed : (place offset later : ℕ) (xs : List ℕ) → offset < later → AreBefore (place + offset) xs → AreBefore (place + later) (xs ++ (place + offset) ∷ [])
before_pushed place offset later xs lt before = All-append (λ x. x < place + later) xs ((place + offset) ∷ []) (before_later (place + offset) (place + later) xs (omega arith) before) (All-cons (λ x. x < place + later) (place + offset) [] (omega arith) (All-nil (λ x. x < place + later)))

-- with a change at the first bit that is left
pub left_more : (old changes : List ℕ) (place word left new offset : ℕ) → IsLeft old changes place word left → offset < 64 → has_bit left offset ≡ true → ((i : ℕ) → i < offset → has_bit left i ≡ false) →
    ((i : ℕ) → i < 64 → has_bit new i ≡ differ (nat_le offset i) (has_bit left i)) → IsLeft old (changes ++ (place + offset) ∷ []) place word new
left_more old changes place word left new offset is short there none turned = record {
  kept = λ c lt.
      contains-append changes ((place + offset) ∷ []) c
      ∙ (ap (differ (contains changes c)) (ap (λ b. differ b false) (lt-leb (place + offset) c (omega arith))) ∙ (differ-false (contains changes c) ∙ is.kept c lt));
  bits = λ j h.
      turned j h
      ∙ (ap₂ differ (offset_in_front offset place j) (is.bits j h)
      ∙ (differ_pushed (nat_le (place + offset) (place + j)) (contains changes (place + j)) (has_bit word j)
      ∙ ap (λ b. differ b (has_bit word j)) (sym (contains-append changes ((place + offset) ∷ []) (place + j)))));
  behind = λ j h set. elim (cases_lt offset j) [
    | inl later ↦ before_pushed place offset j changes later (is.behind offset short there)
    | inr gone ↦ absurd (let e = bits_gone left new offset j short there none turned gone in cc)
  ];
  before = before_pushed place offset 64 changes short (is.behind offset short there);
}

-- no bit is left
pub tell_written : (m : ℕ → Bool) (old changes : List ℕ) (place word left : ℕ) → IsLeft old changes place word left → left ≡ 0 → TellBelow m place old → ((j : ℕ) → j < 64 → m (place + j) ≡ has_bit word j) → TellBelow m (place + 64) changes
tell_written m old changes place word left is zero_is tell bits = record {
  told = λ c lt. elim (cases_lt c place) [
    | inl below ↦ is.kept c below ∙ tell.told c below
    | inr behind ↦
        let j = c - place in
        let short : j < 64 = omega arith in
        let at : c ≡ place + j = omega arith in
        let nowhere : has_bit left j ≡ false = ap (λ n. has_bit n j) zero_is ∙ has_bit-zero j in
        ap (contains changes) at
        ∙ (same_of_differ (contains changes (place + j)) (has_bit word j) (sym (is.bits j short) ∙ nowhere) ∙ sym (ap m at ∙ bits j short))
  ];
}
