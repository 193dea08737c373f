-- Walks over runs whose values are mapped as the walk meets them.
use Rattle.std.proofs.Common.{◌≡◌, ℕ, zero, suc, ◌+◌, ◌<◌, ◌-◌, ◌≤◌, Bool, true, false, Option, List, [], ◌∷◌, length, take, drop, get_or, refl, sym, ap, subst, ◌∙◌, inl, inr, arith}
use Rattle.std.proofs.lemmas.Bool.{cases_lt}
use Rattle.std.proofs.lemmas.List.{get_or-drop, get_or_read, length-drop, take_all}
use Rattle.std.specs.Iterator.{Drains}
use Rattle.cp_trie.specs.Mapped.{TakesEach, TakesEachValue, IsFunctionOnEach, IsFunctionOnValues, KeepsMapping, AnswersWith, IsPassingFront, TakesRun, MappedStep, AreMappedRunsFrom}
use Rattle.cp_trie.specs.declared.ranges.CodePointMapRange.{CodePointMapRange}
use Rattle.cp_trie.proofs.CoverLemmas.{IsCover, Spells}

-- an answer at a run is one at its place
pub answers_here : {T U : Type 0} (post : T → U → Type 0) (test : U → Bool) (b : Bool) (rs : List (CodePointMapRange T)) (i : ℕ) (r : CodePointMapRange T) (u : U) → i < length rs → r ≡ get_or rs i r → post r.value u → test u ≡ b → (d : CodePointMapRange T) → AnswersWith post test b (get_or rs i d).value
answers_here {T} post test b rs i r u within read answers passes d =
    let P : CodePointMapRange T → Type 0 = λ x. AnswersWith post test b x.value in
    subst P (get_or_read rs i r within read d) (u, answers, passes)

-- what holds of the answers at the runs before one holds with its own
pub more_answers : {T U : Type 0} (post : T → U → Type 0) (test : U → Bool) (b : Bool) (rs : List (CodePointMapRange T)) (i : ℕ) (r : CodePointMapRange T) (u : U) → ((k : ℕ) (d : CodePointMapRange T) → k < i → AnswersWith post test b (get_or rs k d).value) → i < length rs → r ≡ get_or rs i r → post r.value u → test u ≡ b → (k : ℕ) (d : CodePointMapRange T) → k < i + 1 → AnswersWith post test b (get_or rs k d).value
more_answers {T} post test b rs i r u before within read answers passes k d h =
    elim (cases_lt k i) as (λ _. AnswersWith post test b (get_or rs k d).value) [
      | inl below ↦ before k d below
      | inr at_least ↦ let same : k ≡ i = omega arith in rw same (answers_here post test b rs i r u within read answers passes d)
    ]

-- a mapping that may be called on the value of each run may be called on those behind some of them
pub TakesEach-drop : {T : Type 0} (pre : T → Type 0) (rs : List (CodePointMapRange T)) (n : ℕ) → TakesEach pre rs → TakesEach pre (drop n rs)
TakesEach-drop {T} pre rs n takes k d h =
    let within : n + k < length rs = omega (arith, length-drop n rs) in
    let P : CodePointMapRange T → Type 0 = λ x. pre x.value in
    subst P (sym (get_or-drop n rs k d)) (takes (n + k) d within)

pub TakesEach-tail : {T : Type 0} (pre : T → Type 0) (r : CodePointMapRange T) (rs rest : List (CodePointMapRange T)) → rs ≡ r ∷ rest → TakesEach pre rs → TakesEach pre rest
TakesEach-tail {T} pre r rs rest split takes k d h =
    let P : List (CodePointMapRange T) → Type 0 = λ xs. TakesEach pre xs in
    (subst P split takes) (suc k) d (omega arith)

pub TakesEach-first : {T : Type 0} (pre : T → Type 0) (r : CodePointMapRange T) (rs rest : List (CodePointMapRange T)) → rs ≡ r ∷ rest → TakesEach pre rs → pre r.value
TakesEach-first {T} pre r rs rest split takes =
    let P : List (CodePointMapRange T) → Type 0 = λ xs. TakesEach pre xs in
    (subst P split takes) 0 r (omega arith)

-- what a part of a list from an index on is
pub part-from : {X : Type 0} (rs : List X) (n : ℕ) → take (length rs - n) (drop n rs) ≡ drop n rs
part-from rs n = take_all (length rs - n) (drop n rs) (omega (arith, length-drop n rs))

-- a step that takes the first run with so many behind it that pass, up to the end of the last of them
pub TakesRun-from : {T U : Type 0} (eq : U → U → Bool) (post : T → U → Type 0) (r : CodePointMapRange T) (rs rest : List (CodePointMapRange T)) (last : CodePointMapRange T) (u : U) (n : ℕ) → rs ≡ r ∷ rest → post r.value u → IsPassingFront post (eq u) rest n → last ≡ get_or rs n last → TakesRun eq post rs (record { range = record { start = r.range.start; end = (get_or rs n last).range.end }; value = u }) (take (length rest - n) (drop n rest))
TakesRun-from eq post r rs rest last u n split answers passes read =
    let here = rw split at read in
    rw split (refl, answers, n, passes, ap (λ x. x.range.end) (sym here ∙ get_or_read (r ∷ rest) n last (omega (arith, passes.0)) here r), part-from rest n)

-- what a mapping keeps at the value of each run it keeps at those behind some of them
IsFunctionOnEach-drop : {T U : Type 0} (post : T → U → Type 0) (rs : List (CodePointMapRange T)) (n : ℕ) → IsFunctionOnEach post rs → IsFunctionOnEach post (drop n rs)
IsFunctionOnEach-drop {T} {U} post rs n one k d u w h =
    let within : n + k < length rs = omega (arith, length-drop n rs) in
    let P : CodePointMapRange T → Type 0 = λ x. post x.value u → post x.value w → u ≡ w in
    subst P (sym (get_or-drop n rs k d)) (one (n + k) d u w within)

IsFunctionOnEach-tail : {T U : Type 0} (post : T → U → Type 0) (r : CodePointMapRange T) (rs rest : List (CodePointMapRange T)) → rs ≡ r ∷ rest → IsFunctionOnEach post rs → IsFunctionOnEach post rest
IsFunctionOnEach-tail {T} {U} post r rs rest split one k d u w h =
    let P : List (CodePointMapRange T) → Type 0 = λ xs. IsFunctionOnEach post xs in
    (subst P split one) (suc k) d u w (omega arith)

pub KeepsMapping-tail : {T U : Type 0} (pre : T → Type 0) (post : T → U → Type 0) (r : CodePointMapRange T) (rs rest : List (CodePointMapRange T)) → rs ≡ r ∷ rest → KeepsMapping pre post rs → KeepsMapping pre post rest
KeepsMapping-tail pre post r rs rest split keeps = (TakesEach-tail pre r rs rest split keeps.0, IsFunctionOnEach-tail post r rs rest split keeps.1)

pub KeepsMapping-drop : {T U : Type 0} (pre : T → Type 0) (post : T → U → Type 0) (rs : List (CodePointMapRange T)) (n : ℕ) → KeepsMapping pre post rs → KeepsMapping pre post (drop n rs)
KeepsMapping-drop pre post rs n keeps = (TakesEach-drop pre rs n keeps.0, IsFunctionOnEach-drop post rs n keeps.1)

-- the value of a run is that of a code point
record IsHeld {T : Type 0} (at : ℕ → T) (v : T) : Type 0 where
  c : ℕ
  small : c ≤ 0x10_FFFF
  is : v ≡ at c

IsHeld-run : {T : Type 0} (at : ℕ → T) (n : ℕ) (rs : List (CodePointMapRange T)) (k : ℕ) (d : CodePointMapRange T) → IsCover n rs → Spells at rs → k < length rs → IsHeld at (get_or rs k d).value
IsHeld-run at n [] k d cover spells h = absurd (omega arith)
IsHeld-run at n (r ∷ rs) zero d cover spells h =
    record { c = r.range.start; small = omega arith; is = sym (spells.0 r.range.start (omega arith) (omega arith)) }
IsHeld-run at n (r ∷ rs) (suc k) d cover spells h = IsHeld-run at (r.range.end + 1) rs k d cover.3 spells.1 (omega arith)

-- a mapping that may be called on the value of each code point may be called on that of each run
pub TakesEach-from_values : {T : Type 0} (pre : T → Type 0) (at : ℕ → T) (rs : List (CodePointMapRange T)) → IsCover 0 rs → Spells at rs → TakesEachValue pre at → TakesEach pre rs
TakesEach-from_values pre at rs cover spells callable k d h =
    let held = IsHeld-run at 0 rs k d cover spells h in subst pre (sym held.is) (callable held.c held.small)

-- one that answers by a function at the value of each code point does so at that of each run
IsFunctionOnEach-from_values : {T U : Type 0} (post : T → U → Type 0) (at : ℕ → T) (rs : List (CodePointMapRange T)) → IsCover 0 rs → Spells at rs → IsFunctionOnValues post at → IsFunctionOnEach post rs
IsFunctionOnEach-from_values {T} {U} post at rs cover spells one k d u w h =
    let held = IsHeld-run at 0 rs k d cover spells h in
    let P : T → Type 0 = λ v. post v u → post v w → u ≡ w in
    subst P (sym held.is) (one held.c u w held.small)

pub KeepsMapping-from_values : {T U : Type 0} (pre : T → Type 0) (post : T → U → Type 0) (at : ℕ → T) (rs : List (CodePointMapRange T)) → IsCover 0 rs → Spells at rs → TakesEachValue pre at → IsFunctionOnValues post at → KeepsMapping pre post rs
KeepsMapping-from_values pre post at rs cover spells callable one = (TakesEach-from_values pre at rs cover spells callable, IsFunctionOnEach-from_values post at rs cover spells one)

-- What a step takes, where the first run has an answer that passes the test: all numbers up to the end of the last run that passes
-- have one, the number behind has one that doesn't pass, and the runs that are left cover what is behind.
record TakesFront {T U : Type 0} (post : T → U → Type 0) (test : U → Bool) (at : ℕ → T) (n end : ℕ) (rest : List (CodePointMapRange T)) : Type 0 where
  low : n ≤ end
  high : end ≤ 0x10_FFFF
  inside : (c : ℕ) → n ≤ c → c ≤ end → AnswersWith post test true (at c)
  behind : end < 0x10_FFFF → AnswersWith post test false (at (end + 1))
  cover : IsCover (end + 1) rest
  spells : Spells at rest

TakesFront-from : {T U : Type 0} (post : T → U → Type 0) (test : U → Bool) (at : ℕ → T) (m : ℕ) (x : CodePointMapRange T) (xs : List (CodePointMapRange T)) (n : ℕ) (d : CodePointMapRange T) → IsCover m (x ∷ xs) → Spells at (x ∷ xs) → AnswersWith post test true x.value → n ≤ length xs → ((k : ℕ) (e : CodePointMapRange T) → k < n → AnswersWith post test true (get_or xs k e).value) → ((e : CodePointMapRange T) → n < length xs → AnswersWith post test false (get_or xs n e).value) → TakesFront post test at m (get_or (x ∷ xs) n d).range.end (drop n xs)
TakesFront-from {T} {U} post test at m x [] zero d cover spells here within passes stops =
    record {
      low = cover.1;
      high = cover.2;
      inside = λ c low high. let P : T → Type 0 = λ v. AnswersWith post test true v in subst P (sym (spells.0 c (omega arith) high)) here;
      behind = λ h. absurd (omega arith);
      cover = cover.3;
      spells = tt;
    }
TakesFront-from post test at m x [] (suc n) d cover spells here within passes stops = absurd (omega arith)
TakesFront-from {T} {U} post test at m x (y ∷ ys) zero d cover spells here within passes stops =
    record {
      low = cover.1;
      high = cover.2;
      inside = λ c low high. let P : T → Type 0 = λ v. AnswersWith post test true v in subst P (sym (spells.0 c (omega arith) high)) here;
      behind = λ h. let P : T → Type 0 = λ v. AnswersWith post test false v in subst P (sym (spells.1.0 (x.range.end + 1) (omega arith) (omega arith))) (stops y (omega arith));
      cover = cover.3;
      spells = spells.1;
    }
TakesFront-from {T} {U} post test at m x (y ∷ ys) (suc n) d cover spells here within passes stops =
    let more = TakesFront-from post test at (x.range.end + 1) y ys n d cover.3 spells.1 (passes 0 y (omega arith)) (omega arith) (λ k e h. passes (suc k) e (omega arith)) (λ e h. stops e (omega arith)) in
    record {
      low = omega (arith, more.low, cover.1);
      high = more.high;
      inside = λ c low high. elim (cases_lt x.range.end c) as (λ _. AnswersWith post test true (at c)) [
        | inl lt ↦ more.inside c (omega arith) high
        | inr le ↦ let P : T → Type 0 = λ v. AnswersWith post test true v in subst P (sym (spells.0 c (omega arith) le)) here
      ];
      behind = more.behind;
      cover = more.cover;
      spells = more.spells;
    }

-- what one step takes: it begins at the number, with an answer of it
record TakesFirst {T U : Type 0} (eq : U → U → Bool) (post : T → U → Type 0) (at : ℕ → T) (n : ℕ) (run : CodePointMapRange U) (rest : List (CodePointMapRange T)) : Type 0 where
  starts : run.range.start ≡ n
  value : post (at n) run.value
  front : TakesFront post (eq run.value) at n run.range.end rest

TakesFirst-from_step : {T U : Type 0} (eq : U → U → Bool) → ((u : U) → eq u u ≡ true) → (post : T → U → Type 0) (at : ℕ → T) (n : ℕ) (rs : List (CodePointMapRange T)) (run : CodePointMapRange U) (rest : List (CodePointMapRange T)) → IsCover n rs → Spells at rs → TakesRun eq post rs run rest → TakesFirst eq post at n run rest
TakesFirst-from_step eq reflexive post at n [] run rest cover spells step = absurd step
TakesFirst-from_step {T} {U} eq reflexive post at n (r ∷ rs) run rest cover spells step =
    let P : T → Type 0 = λ v. post v run.value in
    let taken = TakesFront-from post (eq run.value) at n r rs step.2 r cover spells (run.value, step.1, reflexive run.value) step.3.0 step.3.1 step.3.2 in
    let Q : ℕ → Type 0 = λ e. TakesFront post (eq run.value) at n e (drop step.2 rs) in
    let R : List (CodePointMapRange T) → Type 0 = λ xs. TakesFront post (eq run.value) at n run.range.end xs in
    record {
      starts = step.0 ∙ cover.0;
      value = subst P (sym (spells.0 n (omega arith) (omega arith))) step.1;
      front = subst R (sym step.5) (subst Q (sym step.4) taken);
    }

-- the steps of a walk that keeps its mapping
abbrev pub walk_steps : {S M T U : Type 0} → (U → U → Bool) → (M → T → U → Type 0) → (S → List (CodePointMapRange T)) → (S → M) → S → Option (CodePointMapRange U) → S → Type 0
walk_steps eq post left callee s r t = MappedStep eq (post (callee s)) (left s) r (left t) × (callee t ≡ callee s)

-- what a walk gives before it ends are the maximal runs of the mapped values
pub walk_gives : {S M T U : Type 0} (eq : U → U → Bool) → ((u : U) → eq u u ≡ true) → (post : M → T → U → Type 0) (left : S → List (CodePointMapRange T)) (callee : S → M) (m : M) (at : ℕ → T) (n : ℕ) (s : S) (ys : List (CodePointMapRange U)) → callee s ≡ m → IsCover n (left s) → Spells at (left s) → Drains (walk_steps eq post left callee) s ys → AreMappedRunsFrom eq (post m) at n ys
walk_gives {S} {M} {T} {U} eq reflexive post left callee m at n s [] callee_is cover spells drains =
    let P : S → Type 0 = λ t. left t ≡ [] in
    let none : left s ≡ [] = subst P (sym drains.1.1) drains.1.2.0.0 in
    let Q : List (CodePointMapRange T) → Type 0 = λ xs. IsCover n xs in
    subst Q none cover
walk_gives {S} {M} {T} {U} eq reflexive post left callee m at n s (y ∷ ys) callee_is cover spells drains =
    let t = drains.1.1.0 in
    let step = drains.1.1.1 in
    let P : M → Type 0 = λ q. TakesRun eq (post q) (left s) y (left t) in
    let first = TakesFirst-from_step eq reflexive (post m) at n (left s) y (left t) cover spells (subst P callee_is step.0) in
    let front = first.front in (
      first.starts,
      front.low,
      front.high,
      first.value,
      front.inside,
      front.behind,
      walk_gives eq reflexive post left callee m at (y.range.end + 1) t ys (step.1 ∙ callee_is) front.cover front.spells (drains.0, (drains.1.0, drains.1.1.2, drains.1.2)),
    )
