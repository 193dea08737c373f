-- Strings with numbers.
use Rattle.std.proofs.Common.{◌≡◌, ◌≢◌, ◌<◌, ◌≤◌, ◌||◌, ℕ, zero, suc, true, false, ◌==◌, Option, Some, OnOk, OnErr, Result, Ok, Err, List, [], ◌∷◌, ◌++◌, ◌-◌, length, map, take, get_or, refl, sym, subst, ap, ap₂, ◌∙◌, arith, nat_cmp, inl, inr, append_assoc}
use Rattle.std.specs.Prelude.{cond, ◌↔◌}
use Rattle.std.proofs.Math.Bool.{or-true, or-false}
use Rattle.std.proofs.Math.Seq.{take-append_seam}
use Rattle.std.proofs.lemmas.Bool.{cases_Bool, cases_lt, cond-true, cond-false, false_from_ne_true, or_cases}
use Rattle.std.proofs.lemmas.Bool.Decides.{eqb_tells}
use Rattle.std.proofs.lemmas.List.{append-nil, length-append, length-map, map-append, get_or-map}
use Rattle.std.proofs.lemmas.List.Elements.{All-append, All-cons, All-nil}
use Rattle.std.proofs.lemmas.List.Folds.{list_any-append}
use Rattle.std.proofs.lemmas.Map.Text.{btree_map_updates_text}
use Rattle.std.proofs.lemmas.Option.{same_Some, slice_get_within, slice_get-get_or}
use Rattle.std.proofs.lemmas.Slice.Eq.{bytes_eq-Decides}
use Rattle.std.specs.BTreeMap.{BTreeMap, get_by_text, UpdatesBy}
use Rattle.std.specs.Cmp.Lexicographic.{slice_cmp}
use Rattle.std.specs.declared.string.String.{String}
use Rattle.std.specs.Global.{Global}
use Rattle.std.specs.List.{list_any, slice_get}
use Rattle.std.specs.Result.{is_err}
use Rattle.std.specs.Str.{bytes_eq, chars}
use Rattle.std.specs.String.{string_bytes, string_cmp}
use Rattle.cp_strset.specs.StringList.{holds}
use Rattle.cp_strset_terms.specs.Numbers.{AreNumbersOf, KeepsNumbers, Grows, AreNumbered, AreIndexed, StandOnce}
use Rattle.cp_strset_terms.specs.NumberSets.{has_number}
use Rattle.cp_strset_terms.specs.Places.{IsAt}
use Rattle.cp_strset_terms.proofs.KeptLemmas.{same_place}

-- a string stands where it stood in a list that goes on
pub at_front : (xs ys : List (List ℕ)) (i : ℕ) (s : List ℕ) → IsAt xs i s → IsAt (xs ++ ys) i s
at_front [] ys i s h = cc
at_front (x ∷ xs) ys zero s h = h
at_front (x ∷ xs) ys (suc i) s h = at_front xs ys i s h

-- and so does one in front of its end
pub at_before : (xs ys : List (List ℕ)) (i : ℕ) (s : List ℕ) → IsAt (xs ++ ys) i s → i < length xs → IsAt xs i s
at_before [] ys i s h within = absurd (omega arith)
at_before (x ∷ xs) ys zero s h within = h
at_before (x ∷ xs) ys (suc i) s h within = at_before xs ys i s h (omega arith)

at_last : (xs : List (List ℕ)) (t : List ℕ) → IsAt (xs ++ t ∷ []) (length xs) t
at_last [] t = refl
at_last (x ∷ xs) t = at_last xs t

at_last_is : (xs : List (List ℕ)) (t s : List ℕ) (i : ℕ) → IsAt (xs ++ t ∷ []) i s → length xs ≤ i → (i ≡ length xs) × (t ≡ s)
at_last_is [] t s zero h behind = (refl, same_Some t s h)
at_last_is [] t s (suc i) h behind = cc
at_last_is (x ∷ xs) t s zero h behind = absurd (omega arith)
at_last_is (x ∷ xs) t s (suc i) h behind = let last = at_last_is xs t s i h (omega arith) in (ap suc last.0, last.1)

-- a string of a list stands at some place
pub held_at : (xs : List (List ℕ)) (bytes : List ℕ) → holds xs bytes ≡ true → (i : ℕ) × IsAt xs i bytes
held_at [] bytes h = cc
held_at (x ∷ xs) bytes h = elim (cases_Bool (bytes_eq x bytes)) [
  | inl same ↦ (0, ap Some ((bytes_eq-Decides x bytes).0 same))
  | inr other ↦ (let behind = held_at xs bytes (sym (ap (λ b. b || holds xs bytes) other) ∙ h) in (suc behind.0, behind.1))
]

-- a string that stands at a place is one of the list
pub at_held : (xs : List (List ℕ)) (i : ℕ) (bytes : List ℕ) → IsAt xs i bytes → holds xs bytes ≡ true
at_held [] i bytes h = cc
at_held (x ∷ xs) zero bytes h = ap (λ b. b || holds xs bytes) ((bytes_eq-Decides x bytes).1 (same_Some x bytes h))
at_held (x ∷ xs) (suc i) bytes h = ap (λ b. bytes_eq x bytes || b) (at_held xs i bytes h) ∙ or-true (bytes_eq x bytes)

-- a string that is found by its bytes stands once
pub stand_once : (all : List (List ℕ)) (indices : BTreeMap (String Global) ℕ) → AreIndexed all indices → StandOnce all
stand_once all indices h i j s at there = same_Some i j (sym ((h.found s i).1 at) ∙ (h.found s j).1 there)

-- one string more is found too
pub indexed_more : (all : List (List ℕ)) (text : List ℕ) (old new : BTreeMap (String Global) ℕ) → AreIndexed all old → ((number : ℕ) → IsAt all number text → ⊥) →
    length (chars text) ≢ 1 → UpdatesBy string_cmp (λ k. slice_cmp nat_cmp text (string_bytes k)) old new (Some (length all)) →
    AreIndexed (all ++ text ∷ []) new
indexed_more all text old new h absent one updates = record {
  found = λ bytes number. (found bytes number, stands bytes number);
  none_of_one = All-append (λ s. length (chars s) ≢ 1) all (text ∷ []) h.none_of_one (All-cons (λ s. length (chars s) ≢ 1) text [] one (All-nil (λ s. length (chars s) ≢ 1)));
}
  where
    after : (bytes : List ℕ) → get_by_text new bytes ≡ cond (bytes_eq text bytes) (Some (length all)) (get_by_text old bytes)
    after bytes = btree_map_updates_text text old new (Some (length all)) updates bytes

    found : (bytes : List ℕ) (number : ℕ) → get_by_text new bytes ≡ Some number → IsAt (all ++ text ∷ []) number bytes
    found bytes number is = elim (cases_Bool (bytes_eq text bytes)) [
      | inl same ↦ (
          let last : length all ≡ number = same_Some (length all) number (sym (cond-true _ _ _ same) ∙ (sym (after bytes) ∙ is)) in
          subst (λ n. IsAt (all ++ text ∷ []) n bytes) last (at_last all text ∙ ap Some ((bytes_eq-Decides text bytes).0 same)))
      | inr other ↦ at_front all (text ∷ []) number bytes ((h.found bytes number).0 (sym (cond-false _ _ _ other) ∙ (sym (after bytes) ∙ is)))
    ]

    stands : (bytes : List ℕ) (number : ℕ) → IsAt (all ++ text ∷ []) number bytes → get_by_text new bytes ≡ Some number
    stands bytes number at = elim (cases_lt number (length all)) [
      | inl before ↦ (
          let here = at_before all (text ∷ []) number bytes at before in
          let other : bytes_eq text bytes ≡ false = false_from_ne_true (bytes_eq text bytes) (λ same. absent number (here ∙ ap Some (sym ((bytes_eq-Decides text bytes).0 same)))) in
          after bytes ∙ (cond-false _ _ _ other ∙ (h.found bytes number).1 here))
      | inr behind ↦ (
          let last = at_last_is all text bytes number at (omega arith) in
          after bytes ∙ (cond-true _ _ _ ((bytes_eq-Decides text bytes).1 last.1) ∙ ap Some (sym last.0)))
    ]

-- where a list goes on and each of its strings stands once, numbers stay those of their strings
pub keeps_numbers : (old more new : List (List ℕ)) → new ≡ old ++ more → StandOnce new → KeepsNumbers old new
keeps_numbers old more new is once strings numbers h = record {
  known = λ bytes held. ap (λ l. holds l bytes) is ∙ (list_any-append (λ s. bytes_eq s bytes) old more ∙ ap (λ b. b || holds more bytes) (h.known bytes held));
  told = told;
  within = λ number member. (let below = h.within number member in omega (arith, below, ap length is, length-append old more));
}
  where
    told : (number : ℕ) (bytes : List ℕ) → IsAt new number bytes → has_number numbers number ≡ holds strings bytes
    told number bytes at = elim (cases_lt number (length old)) [
      | inl before ↦ h.told number bytes (at_before old more number bytes (subst (λ l. IsAt l number bytes) is at) before)
      | inr behind ↦ (
          let none : has_number numbers number ≡ false = false_from_ne_true (has_number numbers number) (λ member. (let below = h.within number member in absurd (omega arith))) in
          let lacks : holds strings bytes ≡ false = false_from_ne_true (holds strings bytes) (λ held.
          let place = held_at old bytes (h.known bytes held) in
          let below = slice_get_within old place.0 bytes place.1 in
          let same : place.0 ≡ number = once place.0 number bytes (subst (λ l. IsAt l place.0 bytes) (sym is) (at_front old more place.0 bytes place.1)) at in
          absurd (omega arith)) in
          none ∙ sym lacks)
    ]

head_same : {X : Type 0} (x y : X) (xs ys : List X) → (x ∷ xs) ≡ (y ∷ ys) → x ≡ y
head_same x y xs ys e = cc

tail_same : {X : Type 0} (x y : X) (xs ys : List X) → (x ∷ xs) ≡ (y ∷ ys) → xs ≡ ys
tail_same x y xs ys e = cc

-- the first number is that of the first string, and so on
number_at : (all : List (List ℕ)) (n : ℕ) (numbers : List ℕ) (s : List ℕ) (strings : List (List ℕ)) → AreNumbered all (n ∷ numbers) (s ∷ strings) → IsAt all n s
number_at all n numbers s strings h = head_same (slice_get all n) (Some s) (map (λ number. slice_get all number) numbers) (map (λ t. Some t) strings) h

numbers_behind : (all : List (List ℕ)) (n : ℕ) (numbers : List ℕ) (s : List ℕ) (strings : List (List ℕ)) → AreNumbered all (n ∷ numbers) (s ∷ strings) → AreNumbered all numbers strings
numbers_behind all n numbers s strings h = tail_same (slice_get all n) (Some s) (map (λ number. slice_get all number) numbers) (map (λ t. Some t) strings) h

numbered_front : (all more : List (List ℕ)) (numbers : List ℕ) (strings : List (List ℕ)) → AreNumbered all numbers strings → AreNumbered (all ++ more) numbers strings
numbered_front all more [] [] h = refl
numbered_front all more [] (s ∷ strings) h = cc
numbered_front all more (n ∷ numbers) [] h = cc
numbered_front all more (n ∷ numbers) (s ∷ strings) h =
    ap₂ ◌∷◌ (at_front all more n s (number_at all n numbers s strings h)) (numbered_front all more numbers strings (numbers_behind all n numbers s strings h))

-- one number more
pub numbered_more : (old new : List (List ℕ)) (numbers : List ℕ) (strings : List (List ℕ)) (n : ℕ) (s : List ℕ) → Grows (s ∷ []) old new → AreNumbered old numbers strings → IsAt new n s →
    AreNumbered new (numbers ++ n ∷ []) (strings ++ s ∷ [])
numbered_more old new numbers strings n s grown h at =
    let front : AreNumbered new numbers strings = subst (λ l. AreNumbered l numbers strings) (sym grown.is) (numbered_front old grown.more numbers strings h) in
    map-append (λ number. slice_get new number) numbers (n ∷ [])
    ∙ (ap₂ (λ (a : List (Option (List ℕ))) (b : Option (List ℕ)). a ++ b ∷ []) front at
    ∙ sym (map-append (λ (t : List ℕ). Some t) strings (s ∷ [])))

told_by : (all : List (List ℕ)) (numbers : List ℕ) (strings : List (List ℕ)) → StandOnce all → AreNumbered all numbers strings →
    (number : ℕ) (bytes : List ℕ) → IsAt all number bytes → list_any (λ n. n == number) numbers ≡ holds strings bytes
told_by all [] [] once h number bytes at = refl
told_by all [] (s ∷ strings) once h number bytes at = cc
told_by all (n ∷ numbers) [] once h number bytes at = cc
told_by all (n ∷ numbers) (s ∷ strings) once h number bytes at =
    let here = number_at all n numbers s strings h in
    ap₂ ◌||◌ (same_place all n number s bytes (λ k there. once k n s there here) here at ∙ or-false (bytes_eq s bytes))
    (told_by all numbers strings once (numbers_behind all n numbers s strings h) number bytes at)

known_by : (all : List (List ℕ)) (numbers : List ℕ) (strings : List (List ℕ)) → AreNumbered all numbers strings → (bytes : List ℕ) → holds strings bytes ≡ true → holds all bytes ≡ true
known_by all [] [] h bytes held = cc
known_by all [] (s ∷ strings) h bytes held = cc
known_by all (n ∷ numbers) [] h bytes held = cc
known_by all (n ∷ numbers) (s ∷ strings) h bytes held = elim (cases_Bool (bytes_eq s bytes)) [
  | inl same ↦ at_held all n bytes (number_at all n numbers s strings h ∙ ap Some ((bytes_eq-Decides s bytes).0 same))
  | inr other ↦ known_by all numbers strings (numbers_behind all n numbers s strings h) bytes (sym (ap (λ b. b || holds strings bytes) other) ∙ held)
]

within_by : (all : List (List ℕ)) (numbers : List ℕ) (strings : List (List ℕ)) → AreNumbered all numbers strings → (number : ℕ) → list_any (λ n. n == number) numbers ≡ true → number < length all
within_by all [] [] h number member = cc
within_by all [] (s ∷ strings) h number member = cc
within_by all (n ∷ numbers) [] h number member = cc
within_by all (n ∷ numbers) (s ∷ strings) h number member = elim (eqb_tells n number) [
  | inl equal ↦ (let within = slice_get_within all n s (number_at all n numbers s strings h) in let same = equal.1 in omega arith)
  | inr apart ↦ within_by all numbers strings (numbers_behind all n numbers s strings h) number (sym (ap (λ b. b || list_any (λ k. k == number) numbers) apart.0) ∙ member)
]

-- the set of the numbers of strings has their numbers
pub numbers_are : (all : List (List ℕ)) (numbers : List ℕ) (strings set : List (List ℕ)) → StandOnce all → AreNumbered all numbers strings →
    ((number : ℕ) → has_number set number ≡ list_any (λ n. n == number) numbers) → AreNumbersOf all strings set
numbers_are all numbers strings set once h is = record {
  known = known_by all numbers strings h;
  told = λ number bytes at. is number ∙ told_by all numbers strings once h number bytes at;
  within = λ number member. within_by all numbers strings h number (sym (is number) ∙ member);
}

-- a string more, by the copies of it that are kept
pub added : (texts pushed : List (String Global)) (copy key : String Global) (text : List ℕ) (old new : BTreeMap (String Global) ℕ) (number : ℕ) → AreIndexed (map string_bytes texts) old →
    ((n : ℕ) → IsAt (map string_bytes texts) n text → ⊥) → length (chars text) ≢ 1 → pushed ≡ texts ++ copy ∷ [] →
    string_bytes copy ≡ text → string_bytes key ≡ text → number ≡ length texts → UpdatesBy string_cmp (λ k. slice_cmp nat_cmp (string_bytes key) (string_bytes k)) old new (Some number) →
    (map string_bytes pushed ≡ map string_bytes texts ++ text ∷ []) × AreIndexed (map string_bytes pushed) new × IsAt (map string_bytes pushed) number text
added texts pushed copy key text old new number h absent one is copied keyed last updates =
    let all = map string_bytes texts in
    let more : map string_bytes pushed ≡ all ++ text ∷ [] = ap (map string_bytes) is ∙ (map-append string_bytes texts (copy ∷ []) ∙ ap (λ s. all ++ s ∷ []) copied) in
    let numbered : number ≡ length all = last ∙ sym (length-map texts string_bytes) in
    let updated : UpdatesBy string_cmp (λ k. slice_cmp nat_cmp text (string_bytes k)) old new (Some (length all)) =
    subst (λ n. UpdatesBy string_cmp (λ k. slice_cmp nat_cmp text (string_bytes k)) old new (Some n)) numbered
    (subst (λ t. UpdatesBy string_cmp (λ k. slice_cmp nat_cmp t (string_bytes k)) old new (Some number)) keyed updates) in (
      more,
      subst (λ l. AreIndexed l new) (sym more) (indexed_more all text old new h absent one updated),
      subst (λ l. IsAt l number text) (sym more) (subst (λ n. IsAt (all ++ text ∷ []) n text) (sym numbered) (at_last all text)),
    )

-- where there is no error, all is well
pub without_error : {T E : Type 0} (r : Result T E) (P : Type 0) → is_err r ≡ false → OnOk r P → P
without_error (Ok x) P none h = h
without_error (Err e) P none h = cc

-- what is the same has grown by nothing
pub grows_same : (strings old new : List (List ℕ)) → new ≡ old → Grows strings old new
grows_same strings old new is = record {
  more = [];
  is = is ∙ sym (append-nil old);
  theirs = λ bytes h. cc;
}

-- what has grown by one of the strings more
grows_more : (strings old between new : List (List ℕ)) (i : ℕ) (s : List ℕ) → IsAt strings i s → Grows strings old between → Grows (s ∷ []) between new → Grows strings old new
grows_more strings old between new i s at before last = record {
  more = before.more ++ last.more;
  is = last.is ∙ (ap (λ all. all ++ last.more) before.is ∙ append_assoc old before.more last.more);
  theirs = λ bytes h. elim (or_cases (holds before.more bytes) (holds last.more bytes) (sym (list_any-append (λ x. bytes_eq x bytes) before.more last.more) ∙ h)) [
    | inl theirs ↦ before.theirs bytes theirs
    | inr is_last ↦
        let one : bytes_eq s bytes ≡ true = elim (or_cases (bytes_eq s bytes) false (last.theirs bytes is_last)) [
          | inl same ↦ same
          | inr none ↦ cc
        ] in
        subst (λ text. holds strings text ≡ true) ((bytes_eq-Decides s bytes).0 one) (at_held strings i s at)
  ];
}

-- the same of strings in a list
pub grows_at : (strings : List (String Global)) (old between new : List (List ℕ)) (i : ℕ) (text : List ℕ) (d : String Global) → i < length strings → text ≡ string_bytes (get_or strings i d) →
    Grows (map string_bytes strings) old between → Grows (text ∷ []) between new → Grows (map string_bytes strings) old new
grows_at strings old between new i text d within is before last =
    let all = map string_bytes strings in
    let at : slice_get all i ≡ Some (get_or all i (string_bytes d)) = slice_get-get_or all i (string_bytes d) (omega (arith, length-map strings string_bytes, within)) in
    grows_more all old between new i text (at ∙ ap Some (get_or-map string_bytes strings i d (string_bytes d) within ∙ sym is)) before last

-- and keeps its numbers
pub keeps_same : (old new : List (List ℕ)) → new ≡ old → KeepsNumbers old new
keeps_same old new is = λ strings numbers are. subst (λ all. AreNumbersOf all strings numbers) (sym is) are

-- what holds on an error holds where there is one
pub with_error : {T E : Type 0} (r : Result T E) (P : Type 0) → is_err r ≡ true → OnErr r P → P
with_error (Ok x) P some h = cc
with_error (Err e) P some h = h

-- what is put down and taken back leaves the list as it was
pub popped_pushed : {X : Type 0} → (old pushed popped : List X) (x : X) (n : ℕ) → n ≡ length pushed → pushed ≡ old ++ x ∷ [] → popped ≡ take (n - 1) pushed → popped ≡ old
popped_pushed old pushed popped x n sized is taken =
    let one : n - 1 ≡ length old = omega (arith, sized, ap length is, length-append old (x ∷ [])) in
    taken ∙ (ap (λ k. take k pushed) one ∙ (ap (take (length old)) is ∙ take-append_seam old (x ∷ [])))

-- what is found depends on the entries alone
pub indexed_same : (all : List (List ℕ)) (old new : BTreeMap (String Global) ℕ) → new.entries ≡ old.entries → AreIndexed all old → AreIndexed all new
indexed_same all old new is indexed = record {
  found = λ bytes number.
      let same : get_by_text new bytes ≡ get_by_text old bytes = cc in
      subst (λ found. (found ≡ Some number) ↔ IsAt all number bytes) (sym same) (indexed.found bytes number);
  none_of_one = indexed.none_of_one;
}
