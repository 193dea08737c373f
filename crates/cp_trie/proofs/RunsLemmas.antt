-- Joining neighbours of equal value keeps the values and leaves the maximal runs, of which a map has one list.
use Rattle.std.proofs.Common.{◌≡◌, ℕ, ◌+◌, ◌%◌, ◌<◌, ◌≤◌, Bool, true, false, cond, not, ◌||◌, ◌==◌, Some, ◌⊎◌, List, [], ◌∷◌, ◌++◌, length, get_or, drop, refl, sym, ap, ap₂, ◌∙◌, append_assoc, inl, inr, arith}
use Rattle.std.proofs.lemmas.Bool.Decides.{nat_tests}
use Rattle.std.proofs.lemmas.Bool.{cases_lt}
use Rattle.std.proofs.lemmas.List.{drop_all}
use Rattle.cp_invlist.specs.Ranges.{in_range}
use Rattle.cp_invlist.specs.declared.ranges.CodePointRange.{CodePointRange}
use Rattle.std.specs.Prelude.{IsTrue, ◌&&◌, nat_eq, nat_lt, None}
use Rattle.cp_trie.specs.Faults.{is_in_order, fault_from, first_fault}
use Rattle.cp_trie.specs.Joined.{up_to, joined_from, joined}
use Rattle.cp_trie.specs.Map.{CodePointMap, value_at}
use Rattle.cp_trie.specs.Runs.{value_in, AreRunsFrom}
use Rattle.cp_trie.specs.declared.error.TrieError.TheVariants.{Gap, Order}
use Rattle.cp_trie.specs.declared.ranges.CodePointMapRange.{CodePointMapRange}
use Rattle.cp_trie.proofs.ConversionLemmas.{left_from}
use Rattle.cp_trie.proofs.CoverLemmas.{IsCover, Spells, Spells-value_in, IsCover-from_no_fault, no_fault-from_IsCover}

-- a number lies in two ranges that touch, taken as one, exactly where it lies in one of them
in_range-up_to : {V : Type 0} (r s : CodePointMapRange V) (c : ℕ) → r.range.start ≤ r.range.end → s.range.start ≡ r.range.end + 1 → s.range.start ≤ s.range.end → in_range (up_to r s).range c ≡ (in_range r.range c || in_range s.range c)
in_range-up_to r s c a b d = grind (arith, nat_tests)

if_either : {V : Type 0} (a b : Bool) (v w x : V) → v ≡ w → cond (a || b) v x ≡ cond a v (cond b w x)
if_either true b v w x h = refl
if_either false true v w x h = h
if_either false false v w x h = refl

-- two runs of one value that touch spell what they spell as one
value_in-up_to : {V : Type 0} (r s : CodePointMapRange V) (ss : List (CodePointMapRange V)) (e : V) (c : ℕ) → r.range.start ≤ r.range.end → s.range.start ≡ r.range.end + 1 → s.range.start ≤ s.range.end → r.value ≡ s.value → value_in (up_to r s ∷ ss) e c ≡ value_in (r ∷ s ∷ ss) e c
value_in-up_to r s ss e c a b d h =
    ap (λ t. cond t r.value (value_in ss e c)) (in_range-up_to r s c a b d)
    ∙ if_either (in_range r.range c) (in_range s.range c) r.value s.value (value_in ss e c) h

-- the choice that joining makes at a second run
value_in-choice : {V : Type 0} (b : Bool) (r s : CodePointMapRange V) (ss one two : List (CodePointMapRange V)) (e : V) (c : ℕ) → r.range.start ≤ r.range.end → s.range.start ≡ r.range.end + 1 → s.range.start ≤ s.range.end → (b ≡ true → r.value ≡ s.value) → value_in one e c ≡ value_in (up_to r s ∷ ss) e c → value_in two e c ≡ value_in (s ∷ ss) e c → value_in (cond b one (r ∷ two)) e c ≡ value_in (r ∷ s ∷ ss) e c
value_in-choice true r s ss one two e c x y z same first second = first ∙ value_in-up_to r s ss e c x y z (same refl)
value_in-choice false r s ss one two e c x y z same first second = ap (λ v. cond (in_range r.range c) r.value v) second

-- joined runs spell what the runs spell
pub value_in-joined_from : {V : Type 0} (eq : V → V → Bool) → ((x y : V) → eq x y ≡ true → x ≡ y) → (n : ℕ) (r : CodePointMapRange V) (ss : List (CodePointMapRange V)) (e : V) (c : ℕ) → IsCover n (r ∷ ss) → value_in (joined_from eq r ss) e c ≡ value_in (r ∷ ss) e c
value_in-joined_from eq exact n r [] e c cover = refl
value_in-joined_from eq exact n r (s ∷ ss) e c cover =
    value_in-choice (eq r.value s.value) r s ss (joined_from eq (up_to r s) ss) (joined_from eq s ss) e c (omega arith) cover.3.0 (omega arith) (exact r.value s.value)
    (value_in-joined_from eq exact n (up_to r s) ss e c (cover.0, omega arith, cover.3.2, cover.3.3))
    (value_in-joined_from eq exact (r.range.end + 1) s ss e c cover.3)

-- the values of the numbers from n to the end are equal to that of n
abbrev pub AllEqual : {V : Type 0} → (V → V → Bool) → (ℕ → V) → ℕ → ℕ → Type 0
AllEqual eq at n end = (c : ℕ) → n ≤ c → c ≤ end → eq (at n) (at c) ≡ true

-- the numbers of a second run whose value is equal go on so
AllEqual-more : {V : Type 0} (eq : V → V → Bool) (at : ℕ → V) (n : ℕ) (r s : CodePointMapRange V) → r.value ≡ at n → s.range.start ≡ r.range.end + 1 → ((c : ℕ) → s.range.start ≤ c → c ≤ s.range.end → at c ≡ s.value) → eq r.value s.value ≡ true → AllEqual eq at n r.range.end → AllEqual eq at n s.range.end
AllEqual-more eq at n r s value starts spells same all c low high =
    elim (cases_lt r.range.end c) as (λ _. eq (at n) (at c) ≡ true) [ inl h ↦ ap₂ eq (sym value) (spells c (omega arith) high) ∙ same | inr h ↦ all c low h ]

-- the choice that joining makes at a second run
runs-choice : {V : Type 0} (eq : V → V → Bool) (at : ℕ → V) (n : ℕ) (r : CodePointMapRange V) (b : Bool) (one two : List (CodePointMapRange V)) → r.range.start ≡ n → n ≤ r.range.end → r.range.end ≤ 0x10_FFFF → r.value ≡ at n → AllEqual eq at n r.range.end → (b ≡ true → AreRunsFrom eq at n one) → (b ≡ false → eq (at n) (at (r.range.end + 1)) ≡ false) → AreRunsFrom eq at (r.range.end + 1) two → AreRunsFrom eq at n (cond b one (r ∷ two))
runs-choice eq at n r true one two starts low high value all first breaks second = first refl
runs-choice eq at n r false one two starts low high value all first breaks second = (starts, low, high, value, all, λ _. breaks refl, second)

-- joining a run, whose numbers have values equal to its own, with runs that a map spells leaves the maximal runs of the map
pub runs-joined_from : {V : Type 0} (eq : V → V → Bool) → ((x : V) → eq x x ≡ true) → (at : ℕ → V) (n : ℕ) (r : CodePointMapRange V) (ss : List (CodePointMapRange V)) → IsCover n (r ∷ ss) → Spells at ss → r.value ≡ at n → AllEqual eq at n r.range.end → AreRunsFrom eq at n (joined_from eq r ss)
runs-joined_from eq reflexive at n r [] cover spells value all =
    (cover.0, cover.1, cover.2, value, all, λ h. absurd (omega arith), cover.3)
runs-joined_from eq reflexive at n r (s ∷ ss) cover spells value all =
    let at_s : at (r.range.end + 1) ≡ s.value = spells.0 (r.range.end + 1) (omega arith) (omega arith) in
    runs-choice eq at n r (eq r.value s.value) (joined_from eq (up_to r s) ss) (joined_from eq s ss) cover.0 cover.1 cover.2 value all
    (λ same. runs-joined_from eq reflexive at n (up_to r s) ss (cover.0, omega arith, cover.3.2, cover.3.3) spells.1 value (AllEqual-more eq at n r s value cover.3.0 spells.0 same all))
    (λ other. ap₂ eq (sym value) at_s ∙ other)
    (runs-joined_from eq reflexive at (r.range.end + 1) s ss cover.3 spells.1 (sym at_s) (λ c low high. ap₂ eq at_s (spells.0 c (omega arith) high) ∙ reflexive s.value))

-- two ends of a first run are the same
ends_alike : {V : Type 0} (eq : V → V → Bool) (at : ℕ → V) (n a b : ℕ) → n ≤ a → n ≤ b → a ≤ 0x10_FFFF → b ≤ 0x10_FFFF → AllEqual eq at n a → (a < 0x10_FFFF → eq (at n) (at (a + 1)) ≡ false) → AllEqual eq at n b → (b < 0x10_FFFF → eq (at n) (at (b + 1)) ≡ false) → a ≡ b
ends_alike eq at n a b la lb ha hb all_a break_a all_b break_b =
    elim (cases_lt a b) as (λ _. a ≡ b) [
      | inl h ↦ let t : true ≡ false = sym (all_b (a + 1) (omega arith) (omega arith)) ∙ break_a (omega arith) in cc
      | inr h ↦ elim (cases_lt b a) as (λ _. a ≡ b) [
        | inl k ↦ let t : true ≡ false = sym (all_a (b + 1) (omega arith) (omega arith)) ∙ break_b (omega arith) in cc
        | inr k ↦ omega arith
      ]
    ]

same_run : {V : Type 0} (r s : CodePointMapRange V) → r.range.start ≡ s.range.start → r.range.end ≡ s.range.end → r.value ≡ s.value → r ≡ s
same_run {V} r s a b v =
    let range : ℕ → ℕ → CodePointRange = λ x y. record { start = x; end = y } in
    let run : CodePointRange → V → CodePointMapRange V = λ x y. record { range = x; value = y } in
    ap₂ run (ap₂ range a b) v

-- a map has one list of maximal runs
pub runs_unique : {V : Type 0} (eq : V → V → Bool) (at : ℕ → V) (n : ℕ) (rs ss : List (CodePointMapRange V)) → AreRunsFrom eq at n rs → AreRunsFrom eq at n ss → rs ≡ ss
runs_unique eq at n [] [] x y = refl
runs_unique eq at n [] (s ∷ ss) x y = absurd (omega arith)
runs_unique eq at n (r ∷ rs) [] x y = absurd (omega arith)
runs_unique eq at n (r ∷ rs) (s ∷ ss) x y =
    let ends = ends_alike eq at n r.range.end s.range.end x.1 y.1 x.2 y.2 x.4 x.5 y.4 y.5 in
    let tail : AreRunsFrom eq at (r.range.end + 1) ss = rw ends y.6 in
    ap₂ (λ a b. a ∷ b) (same_run r s (x.0 ∙ sym y.0) ends (x.3 ∙ sym y.3)) (runs_unique eq at (r.range.end + 1) rs ss x.6 tail)

-- the lists of runs that have no fault, joined: they spell the same values, and are the maximal runs of what they spell
value_in-joined : {V : Type 0} (eq : V → V → Bool) → ((x y : V) → eq x y ≡ true → x ≡ y) → (n : ℕ) (rs : List (CodePointMapRange V)) (e : V) (c : ℕ) → IsCover n rs → value_in (joined eq rs) e c ≡ value_in rs e c
value_in-joined eq exact n [] e c cover = refl
value_in-joined eq exact n (r ∷ rs) e c cover = value_in-joined_from eq exact n r rs e c cover

-- so a map of them has the values that the runs spell
pub value_at-joined : {V : Type 0} (eq : V → V → Bool) → ((x y : V) → eq x y ≡ true → x ≡ y) → (m : CodePointMap V) (made rs : List (CodePointMapRange V)) (e : V) (c : ℕ) → m ≡ record { runs = made; error_value = e } → made ≡ joined eq rs → IsCover 0 rs → value_at m c ≡ value_in rs e c
value_at-joined {V} eq exact m made rs e c same all cover =
    ap (λ x. value_at x c) same ∙ (ap (λ (l : List (CodePointMapRange V)). value_in l e c) all ∙ value_in-joined eq exact 0 rs e c cover)

-- joining runs leaves the maximal runs of a map that has the value of each run at its numbers
pub runs-joined : {V : Type 0} (eq : V → V → Bool) → ((x : V) → eq x x ≡ true) → (at : ℕ → V) (n : ℕ) (rs : List (CodePointMapRange V)) → IsCover n rs → Spells at rs → AreRunsFrom eq at n (joined eq rs)
runs-joined eq reflexive at n [] cover spells = cover
runs-joined eq reflexive at n (r ∷ rs) cover spells =
    let at_n : at n ≡ r.value = spells.0 n (omega arith) (omega arith) in
    runs-joined_from eq reflexive at n r rs cover spells.1 (sym at_n) (λ c low high. ap₂ eq at_n (spells.0 c (omega arith) high) ∙ reflexive r.value)

-- the joined runs of a cover are the maximal runs of what they spell
pub runs-of_joined : {V : Type 0} (eq : V → V → Bool) → ((x : V) → eq x x ≡ true) → ((x y : V) → eq x y ≡ true → x ≡ y) → (rs : List (CodePointMapRange V)) (e : V) → IsCover 0 rs → AreRunsFrom eq (value_in (joined eq rs) e) 0 (joined eq rs)
runs-of_joined eq reflexive exact rs e cover =
    let at = value_in (joined eq rs) e in
    runs-joined eq reflexive at 0 rs cover (Spells-value_in 0 rs e at (λ c _. value_in-joined eq exact 0 rs e c cover) cover)

IsCover-joined_from : {V : Type 0} (eq : V → V → Bool) (n : ℕ) (r : CodePointMapRange V) (ss : List (CodePointMapRange V)) → IsCover n (r ∷ ss) → IsCover n (joined_from eq r ss)
IsCover-joined_from eq n r [] cover = cover
IsCover-joined_from eq n r (s ∷ ss) cover =
    elim (eq r.value s.value) as (λ b. IsCover n (cond b (joined_from eq (up_to r s) ss) (r ∷ joined_from eq s ss)))
    [ true ↦ IsCover-joined_from eq n (up_to r s) ss (cover.0, omega arith, cover.3.2, cover.3.3) | false ↦ (cover.0, cover.1, cover.2, IsCover-joined_from eq (r.range.end + 1) s ss cover.3) ]

-- joining neighbours leaves runs that cover
IsCover-joined : {V : Type 0} (eq : V → V → Bool) (n : ℕ) (rs : List (CodePointMapRange V)) → IsCover n rs → IsCover n (joined eq rs)
IsCover-joined eq n [] cover = cover
IsCover-joined eq n (r ∷ rs) cover = IsCover-joined_from eq n r rs cover

-- where a run is apart from the next, and joining changes nothing from that one on, it changes nothing
joined_from-apart : {V : Type 0} (eq : V → V → Bool) (r s : CodePointMapRange V) (ss : List (CodePointMapRange V)) → eq r.value s.value ≡ false → joined_from eq s ss ≡ s ∷ ss → joined_from eq r (s ∷ ss) ≡ r ∷ s ∷ ss
joined_from-apart eq r s ss apart same =
    ap (λ b. cond b (joined_from eq (up_to r s) ss) (r ∷ joined_from eq s ss)) apart ∙ ap (λ l. r ∷ l) same

-- and joining runs with no fault leaves no fault
pub no_fault-joined : {V : Type 0} (eq : V → V → Bool) (rs : List (CodePointMapRange V)) → first_fault rs ≡ None → first_fault (joined eq rs) ≡ None
no_fault-joined eq rs h = no_fault-from_IsCover 0 0 (joined eq rs) (IsCover-joined eq 0 rs (IsCover-from_no_fault 0 0 rs h))

-- where a test and that a last run ends at 10FFFF hold, runs cover of which the test says so if the last one does
pub IsCover-from_test : {V : Type 0} (test : Bool) (last : CodePointMapRange V) (left rs : List (CodePointMapRange V)) → left ≡ [] → (IsTrue test → last.range.start ≤ last.range.end) → (IsTrue test → IsCover last.range.start (last ∷ left) → IsCover 0 rs) → IsTrue (test && nat_eq last.range.end 0x10_FFFF) → IsCover 0 rs
IsCover-from_test false last left rs none order covers both = absurd (let f : false ≡ true = both in cc)
IsCover-from_test true last left rs none order covers both =
    let end : last.range.end ≡ 0x10_FFFF = grind (arith, nat_tests, both) in
    covers refl (rw none (refl, order refl, omega arith, omega arith))

-- and joining changes nothing in runs that end with a last one, of which a test says so, where it changes nothing from that one on
pub joined-from_test : {V : Type 0} (eq : V → V → Bool) (test : Bool) (last : CodePointMapRange V) (left rs : List (CodePointMapRange V)) → left ≡ [] → (IsTrue test → joined_from eq last left ≡ last ∷ left → joined eq rs ≡ rs) → IsTrue (test && nat_eq last.range.end 0x10_FFFF) → joined eq rs ≡ rs
joined-from_test eq false last left rs none same both = absurd (let f : false ≡ true = both in cc)
joined-from_test eq true last left rs none same both = same refl (rw none refl)

-- four tests that hold together
pub all_four : (a b c d : Bool) → IsTrue (((a && b) && c) && d) → (a ≡ true) × (b ≡ true) × (c ≡ true) × (d ≡ true)
all_four true true true true h = (refl, refl, refl, refl)
all_four true true true false h = cc
all_four true true false d h = cc
all_four true false c d h = cc
all_four false b c d h = cc

-- where a run touches the one before it and goes further, that one and those from this one on cover if these do
pub IsCover-before : {V : Type 0} (r s : CodePointMapRange V) (rs : List (CodePointMapRange V)) (i : ℕ) → i < length rs → s ≡ get_or rs i s → nat_eq s.range.start ((r.range.end + 1) % 0x1_0000_0000) ≡ true → nat_lt r.range.end s.range.end ≡ true → r.range.start ≤ r.range.end → IsCover s.range.start (s ∷ drop (i + 1) rs) → IsCover r.range.start (r ∷ drop i rs)
IsCover-before r s rs i within read touches further order cover =
    let past : r.range.end < s.range.end = grind (arith, nat_tests, further) in
    let starts : s.range.start ≡ (r.range.end + 1) % 0x1_0000_0000 = grind (arith, nat_tests, touches) in
    let high : s.range.end ≤ 0x10_FFFF = cover.2 in
    rw (left_from rs i s within read) (refl, order, omega arith, (omega arith, omega arith, high, cover.3))

-- it is in order
pub in_order-next : {V : Type 0} (r s : CodePointMapRange V) → nat_eq s.range.start ((r.range.end + 1) % 0x1_0000_0000) ≡ true → nat_lt r.range.end s.range.end ≡ true → s.range.start ≤ s.range.end
in_order-next r s touches further =
    let past : r.range.end < s.range.end = grind (arith, nat_tests, further) in
    let starts : s.range.start ≡ (r.range.end + 1) % 0x1_0000_0000 = grind (arith, nat_tests, touches) in
    omega arith

differ : (b ne : Bool) → ne ≡ not b → ne ≡ true → b ≡ false
differ true ne is holds = cc
differ false ne is holds = refl

-- and where its value is another, joining changes nothing from the one before it on if it changes nothing from this one on
pub joined_from-before : {V : Type 0} (eq : V → V → Bool) (r s : CodePointMapRange V) (rs : List (CodePointMapRange V)) (i : ℕ) (ne : Bool) → i < length rs → s ≡ get_or rs i s → ne ≡ not (eq r.value s.value) → ne ≡ true → joined_from eq s (drop (i + 1) rs) ≡ s ∷ drop (i + 1) rs → joined_from eq r (drop i rs) ≡ r ∷ drop i rs
joined_from-before eq r s rs i ne within read is holds same =
    rw (left_from rs i s within read) (joined_from-apart eq r s (drop (i + 1) rs) (differ (eq r.value s.value) ne is holds) same)

-- a run that is pending takes the next one, which has an equal value, and what they all make stays
pub joined_from-equal : {V : Type 0} (eq : V → V → Bool) (done all rs : List (CodePointMapRange V)) (i : ℕ) (r s : CodePointMapRange V) → i < length rs → s ≡ get_or rs i s → true ≡ eq r.value s.value → done ++ joined_from eq r (drop i rs) ≡ all → done ++ joined_from eq (up_to r s) (drop (i + 1) rs) ≡ all
joined_from-equal eq done all rs i r s within read same h =
    ap (λ b. done ++ cond b (joined_from eq (up_to r s) (drop (i + 1) rs)) (r ∷ joined_from eq s (drop (i + 1) rs))) same
    ∙ (ap (λ l. done ++ joined_from eq r l) (sym (left_from rs i s within read)) ∙ h)

-- it is done where the next one, which is then pending, has another value
pub joined_from-other : {V : Type 0} (eq : V → V → Bool) (done all rs : List (CodePointMapRange V)) (i : ℕ) (r s : CodePointMapRange V) → i < length rs → s ≡ get_or rs i s → false ≡ eq r.value s.value → done ++ joined_from eq r (drop i rs) ≡ all → (done ++ r ∷ []) ++ joined_from eq s (drop (i + 1) rs) ≡ all
joined_from-other eq done all rs i r s within read other h =
    append_assoc done (r ∷ []) (joined_from eq s (drop (i + 1) rs))
    ∙ (ap (λ b. done ++ cond b (joined_from eq (up_to r s) (drop (i + 1) rs)) (r ∷ joined_from eq s (drop (i + 1) rs))) other
    ∙ (ap (λ l. done ++ joined_from eq r l) (sym (left_from rs i s within read)) ∙ h))

-- and it is the last where none is left
pub joined_from-last : {V : Type 0} (eq : V → V → Bool) (done all rs : List (CodePointMapRange V)) (i : ℕ) (r : CodePointMapRange V) → length rs ≤ i → done ++ joined_from eq r (drop i rs) ≡ all → done ++ r ∷ [] ≡ all
joined_from-last eq done all rs i r none h = ap (λ l. done ++ joined_from eq r l) (sym (drop_all i rs none)) ∙ h

-- a run that starts at the number and is in order leaves the fault to those behind it
pub fault_from-passed : {V : Type 0} (i n : ℕ) (rs : List (CodePointMapRange V)) (r : CodePointMapRange V) → i < length rs → r ≡ get_or rs i r → r.range.start ≡ n → r.range.start ≤ r.range.end → r.range.end ≤ 0x10_FFFF → fault_from (i + 1) (r.range.end + 1) (drop (i + 1) rs) ≡ fault_from i n (drop i rs)
fault_from-passed i n rs r within read starts low high =
    let here : true ≡ (r.range.start == n) = grind (arith, nat_tests) in
    let ordered : true ≡ is_in_order r = grind (arith, nat_tests) in
    ap₂ (λ a b. cond a (cond b (fault_from (i + 1) (r.range.end + 1) (drop (i + 1) rs)) (Some (Order i))) (Some (Gap i))) here ordered
    ∙ ap (λ l. fault_from i n l) (sym (left_from rs i r within read))

-- and one that starts there and is not has the fault
pub fault_from-order : {V : Type 0} (i n : ℕ) (rs : List (CodePointMapRange V)) (r : CodePointMapRange V) → i < length rs → r ≡ get_or rs i r → r.range.start ≡ n → is_in_order r ≡ false → fault_from i n (drop i rs) ≡ Some (Order i)
fault_from-order i n rs r within read starts other =
    let here : (r.range.start == n) ≡ true = grind (arith, nat_tests) in
    ap (λ l. fault_from i n l) (left_from rs i r within read)
    ∙ ap₂ (λ a b. cond a (cond b (fault_from (i + 1) (r.range.end + 1) (drop (i + 1) rs)) (Some (Order i))) (Some (Gap i))) here other

-- a run that ends below its start or above 10FFFF is not
pub out_of_order : {V : Type 0} (r : CodePointMapRange V) → (r.range.end < r.range.start) ⊎ ((r.range.start ≤ r.range.end) × (0x10_FFFF < r.range.end)) → is_in_order r ≡ false
out_of_order r (inl h) = grind (arith, nat_tests)
out_of_order r (inr h) = grind (arith, nat_tests)
