-- Where page tables lead.
use Rattle.std.proofs.Common.{◌≡◌, ℕ, zero, suc, ◌+◌, ◌*◌, ◌-◌, ◌/◌, ◌%◌, ◌<◌, ◌≤◌, Option, Some, None, List, [], ◌∷◌, ◌++◌, length, take, drop, replicate, get_or, refl, sym, ap, subst, ◌∙◌, append_assoc, inl, inr, arith, length-append}
use Rattle.std.specs.Prelude.{IsSome, option_and_then, option_map}
use Rattle.std.specs.List.{slice_get}
use Rattle.std.proofs.lemmas.Bool.{cases_lt}
use Rattle.std.proofs.lemmas.List.{drop_more, length-replicate}
use Rattle.std.proofs.lemmas.Option.{slice_get_past}
use Rattle.cp_trie.specs.Rows.{row_of, AreWhole, rows_of, spelled}
use Rattle.cp_trie.specs.PageTables.{PageTables}
use Rattle.cp_trie.specs.Pages.{values_of, page_of, value_by, PlacesStandFor, StandFor}
use Rattle.cp_trie.specs.declared.pages.Pages.TheVariants.{One}
use Rattle.cp_trie.specs.Runs.{run_at}
use Rattle.cp_trie.specs.declared.ranges.CodePointMapRange.{CodePointMapRange}
use Rattle.cp_trie.specs.declared.rows.Repeated.{Repeated}
use Rattle.cp_trie.proofs.ConversionLemmas.{left_from}
use Rattle.cp_trie.proofs.CoverLemmas.{IsCover}
use Rattle.cp_trie.proofs.SearchLemmas.{run_at-within, run_at-behind}
use Rattle.cp_trie.proofs.RowsLemmas.{length-row_of}

slice_get-front : {X : Type 0} (xs ys : List X) (k : ℕ) → k < length xs → slice_get (xs ++ ys) k ≡ slice_get xs k
slice_get-front [] ys k h = absurd (omega arith)
slice_get-front (x ∷ xs) ys zero h = refl
slice_get-front (x ∷ xs) ys (suc k) h = slice_get-front xs ys k (omega arith)

slice_get-behind : {X : Type 0} (xs ys : List X) (i k : ℕ) → i ≡ length xs + k → slice_get (xs ++ ys) i ≡ slice_get ys k
slice_get-behind [] ys i k h = ap (λ j. slice_get ys j) (let same : i ≡ k = omega arith in same)
slice_get-behind (x ∷ xs) ys zero k h = absurd (omega arith)
slice_get-behind (x ∷ xs) ys (suc i) k h = slice_get-behind xs ys i k (omega arith)

slice_get-take : {X : Type 0} (n : ℕ) (xs : List X) (k : ℕ) → k < n → slice_get (take n xs) k ≡ slice_get xs k
slice_get-take zero xs k h = absurd (omega arith)
slice_get-take (suc n) [] k h = refl
slice_get-take (suc n) (x ∷ xs) zero h = refl
slice_get-take (suc n) (x ∷ xs) (suc k) h = slice_get-take n xs k (omega arith)

slice_get-drop : {X : Type 0} (n : ℕ) (xs : List X) (i k : ℕ) → i ≡ n + k → slice_get (drop n xs) k ≡ slice_get xs i
slice_get-drop zero xs i k h = ap (λ j. slice_get xs j) (let same : k ≡ i = omega arith in same)
slice_get-drop (suc n) [] i k h = refl
slice_get-drop (suc n) (x ∷ xs) zero k h = absurd (omega arith)
slice_get-drop (suc n) (x ∷ xs) (suc i) k h = slice_get-drop n xs i k (omega arith)

slice_get-replicate : {X : Type 0} (n : ℕ) (x : X) (k : ℕ) → k < n → slice_get (replicate n x) k ≡ Some x
slice_get-replicate zero x k h = absurd (omega arith)
slice_get-replicate (suc n) x zero h = refl
slice_get-replicate (suc n) x (suc k) h = slice_get-replicate n x k (omega arith)

-- a value of rows one behind another is the value at that place of the row
slice_get-rows_of : {V : Type 0} (values : List V) (ns : List ℕ) (i q k : ℕ) → AreWhole values ns → i ≡ q * 64 + k → k < 64 → slice_get (rows_of values ns) i ≡ option_and_then (λ n. slice_get values (n * 64 + k)) (slice_get ns q)
slice_get-rows_of values [] i q k whole place h = refl
slice_get-rows_of values (n ∷ ns) i zero k whole place h =
    slice_get-front (row_of values n) (rows_of values ns) i (omega (arith, length-row_of values n whole.0))
    ∙ (slice_get-take 64 (drop (n * 64) values) i (omega arith)
    ∙ slice_get-drop (n * 64) values (n * 64 + k) i (omega arith))
slice_get-rows_of values (n ∷ ns) i (suc q) k whole place h =
    slice_get-behind (row_of values n) (rows_of values ns) i (q * 64 + k) (omega (arith, length-row_of values n whole.0))
    ∙ slice_get-rows_of values ns (q * 64 + k) q k whole.1 refl h

-- the values of runs that cover are as many as the code points that they cover
pub length-values_of : {V : Type 0} (n : ℕ) (rs : List (CodePointMapRange V)) → IsCover n rs → n + length (values_of rs) ≡ 0x11_0000
length-values_of n [] cover = omega arith
length-values_of n (r ∷ rs) cover =
    let rest = length-values_of (r.range.end + 1) rs cover.3 in
    let size : n + (r.range.end - r.range.start + 1) ≡ r.range.end + 1 = omega arith in
    let front = length-replicate (r.range.end - r.range.start + 1) r.value in
    omega (arith, length-append (replicate (r.range.end - r.range.start + 1) r.value) (values_of rs))

IsCover-drop : {V : Type 0} (n : ℕ) (rs : List (CodePointMapRange V)) (i : ℕ) → IsCover n rs → i < length rs → (m : ℕ) × IsCover m (drop i rs)
IsCover-drop n [] i cover h = absurd (omega arith)
IsCover-drop n (r ∷ rs) zero cover h = (n, cover)
IsCover-drop n (r ∷ rs) (suc i) cover h = IsCover-drop (r.range.end + 1) rs i cover.3 (omega arith)

-- where values stand in front of those of the runs from one on, that run has room behind them
pub room_for : {V : Type 0} (front : List V) (rs : List (CodePointMapRange V)) (i : ℕ) (r : CodePointMapRange V) → IsCover 0 rs → i < length rs → r ≡ get_or rs i r → front ++ values_of (drop i rs) ≡ values_of rs → (r.range.start ≤ r.range.end) × (length front + (r.range.end - r.range.start + 1) ≤ 0x11_0000)
room_for {V} front rs i r cover within read all =
    let left = left_from rs i r within read in
    let place = IsCover-drop 0 rs i cover within in
    let P : List (CodePointMapRange V) → Type 0 = λ l. IsCover place.0 l in
    let here = subst P left place.1 in
    let size = r.range.end - r.range.start + 1 in
    let counted : length front + (size + length (values_of (drop (i + 1) rs))) ≡ length (values_of rs) =
    omega (arith, length-append front (values_of (drop i rs)), ap length all, ap (λ (l : List (CodePointMapRange V)). length (values_of l)) left, length-append (replicate size r.value) (values_of (drop (i + 1) rs)), length-replicate size r.value) in
    (omega (arith, here.0, here.1), omega (arith, length-values_of 0 rs cover))

-- where values stand in front of those of the runs from one on, those of that run go to the front
pub values_of-next : {V : Type 0} (front more : List V) (rs : List (CodePointMapRange V)) (i : ℕ) (r : CodePointMapRange V) → i < length rs → r ≡ get_or rs i r → front ++ values_of (drop i rs) ≡ values_of rs → more ≡ front ++ replicate (r.range.end - r.range.start + 1) r.value → more ++ values_of (drop (i + 1) rs) ≡ values_of rs
values_of-next front more rs i r within read all taken =
    ap (λ l. l ++ values_of (drop (i + 1) rs)) taken
    ∙ (append_assoc front (replicate (r.range.end - r.range.start + 1) r.value) (values_of (drop (i + 1) rs))
    ∙ (ap (λ l. front ++ l) (sym (ap values_of (left_from rs i r within read))) ∙ all))

-- where numbers stand in front of those of a list from an index on, those there have room behind them
pub room_for_repeated : (front : List ℕ) (rs : List Repeated) (i : ℕ) (d : Repeated) → i < length rs → front ++ spelled (drop i rs) ≡ spelled rs → length front + (get_or rs i d).count ≤ length (spelled rs)
room_for_repeated front rs i d within all =
    let r = get_or rs i d in
    omega (arith, length-append front (spelled (drop i rs)), ap length all, ap (λ (l : List Repeated). length (spelled l)) (drop_more rs i d within), length-append (replicate r.count r.number) (spelled (drop (i + 1) rs)), length-replicate r.count r.number)

-- and go to the front
pub spelled-next : (front more : List ℕ) (rs : List Repeated) (i : ℕ) (d : Repeated) → i < length rs → front ++ spelled (drop i rs) ≡ spelled rs → more ≡ front ++ replicate (get_or rs i d).count (get_or rs i d).number → more ++ spelled (drop (i + 1) rs) ≡ spelled rs
spelled-next front more rs i d within all taken =
    let r = get_or rs i d in
    ap (λ l. l ++ spelled (drop (i + 1) rs)) taken
    ∙ (append_assoc front (replicate r.count r.number) (spelled (drop (i + 1) rs))
    ∙ (ap (λ l. front ++ l) (sym (ap spelled (drop_more rs i d within))) ∙ all))

-- the value at a code point is that of the run that holds it
slice_get-values_of : {V : Type 0} (n : ℕ) (rs : List (CodePointMapRange V)) (i c : ℕ) → IsCover n rs → c ≡ n + i → c ≤ 0x10_FFFF → slice_get (values_of rs) i ≡ option_map (λ r. r.value) (run_at rs c)
slice_get-values_of n [] i c cover place h = absurd (omega arith)
slice_get-values_of {V} n (r ∷ rs) i c cover place h =
    let size = r.range.end - r.range.start + 1 in
    elim (cases_lt r.range.end c) as (λ _. slice_get (values_of (r ∷ rs)) i ≡ option_map (λ x. x.value) (run_at (r ∷ rs) c)) [
      | inl behind ↦
          slice_get-behind (replicate size r.value) (values_of rs) i (c - (r.range.end + 1)) (omega (arith, length-replicate size r.value))
          ∙ (slice_get-values_of (r.range.end + 1) rs (c - (r.range.end + 1)) c cover.3 (omega arith) h
          ∙ ap (λ (o : Option (CodePointMapRange V)). option_map (λ x. x.value) o) (sym (run_at-behind r rs c behind)))
      | inr within ↦
          slice_get-front (replicate size r.value) (values_of rs) i (omega (arith, length-replicate size r.value))
          ∙ (slice_get-replicate size r.value i (omega arith)
          ∙ ap (λ (o : Option (CodePointMapRange V)). option_map (λ x. x.value) o) (sym (run_at-within r rs c (omega arith) within)))
    ]

-- Where the pages hold the values of runs that cover, the blocks the numbers of the pages, and the outer places the numbers of the
-- blocks, each place stands for the value of the run that holds it.
pub stand_for : {V : Type 0} (pages : List V) (numbers blocks outer : List ℕ) (rs : List (CodePointMapRange V)) → AreWhole pages numbers → AreWhole blocks outer → rows_of pages numbers ≡ values_of rs → rows_of blocks outer ≡ numbers → IsCover 0 rs → PlacesStandFor (record { outer = outer; blocks = blocks; values = pages }) rs
stand_for {V} pages numbers blocks outer rs whole whole_blocks values same cover c h =
    let page_place : c / 64 ≡ c / 4096 * 64 + c / 64 % 64 = omega arith in
    let value_place : c ≡ c / 64 * 64 + c % 64 = omega arith in
    let page : page_of (record { outer = outer; blocks = blocks; values = pages }) c ≡ slice_get numbers (c / 64) =
    sym (slice_get-rows_of blocks outer (c / 64) (c / 4096) (c / 64 % 64) whole_blocks page_place (omega arith)) ∙ ap (λ (l : List ℕ). slice_get l (c / 64)) same in
    ap (λ (o : Option ℕ). option_and_then (λ n. slice_get pages (n * 64 + c % 64)) o) page
    ∙ (sym (slice_get-rows_of pages numbers c (c / 64) (c % 64) whole value_place (omega arith))
    ∙ (ap (λ (l : List V). slice_get l c) values
    ∙ slice_get-values_of 0 rs c c cover (omega arith) h))

within_from_some : {X : Type 0} (xs : List X) (k : ℕ) → IsSome (slice_get xs k) → k < length xs
within_from_some xs k some =
    elim (cases_lt k (length xs)) as (λ _. k < length xs) [
      | inl below ↦ below
      | inr past ↦ absurd (let none = rw (slice_get_past xs k past) at some in cc)
    ]

some_before : {X Y : Type 0} (f : X → Option Y) (o : Option X) → IsSome (option_and_then f o) → IsSome o
some_before f None some = some
some_before f (Some x) some = refl

-- where tables lead from a number to a value, each of the three places is within its table
pub outer_within : {V : Type 0} (t : PageTables V) (c : ℕ) → IsSome (value_by t c) → c / 4096 < length t.outer
outer_within t c leads = within_from_some t.outer (c / 4096) (some_before _ _ (some_before _ (page_of t c) leads))

pub blocks_within : {V : Type 0} (t : PageTables V) (c block : ℕ) → IsSome (value_by t c) → slice_get t.outer (c / 4096) ≡ Some block → block * 64 + c / 64 % 64 < length t.blocks
blocks_within t c block leads first = within_from_some t.blocks (block * 64 + c / 64 % 64) (rw first at (some_before _ (page_of t c) leads))

pub values_within : {V : Type 0} (t : PageTables V) (c block page : ℕ) → IsSome (value_by t c) → slice_get t.outer (c / 4096) ≡ Some block → slice_get t.blocks (block * 64 + c / 64 % 64) ≡ Some page → page * 64 + c % 64 < length t.values
values_within t c block page leads first second = within_from_some t.values (page * 64 + c % 64) (rw (first, second) at leads)

-- three reads give the value that tables lead to
pub value_by-reads : {V : Type 0} (t : PageTables V) (c block page : ℕ) (v : V) → slice_get t.outer (c / 4096) ≡ Some block → slice_get t.blocks (block * 64 + c / 64 % 64) ≡ Some page → slice_get t.values (page * 64 + c % 64) ≡ Some v → value_by t c ≡ Some v
value_by-reads t c block page v first second third = rw (first, second) third

-- the value of one run that covers all is that of each code point
pub one_stands : {V : Type 0} (rs : List (CodePointMapRange V)) (r : CodePointMapRange V) → IsCover 0 rs → length rs < 2 → r ≡ get_or rs 0 r → StandFor (One r.value) rs
one_stands [] r cover short read c small = absurd (omega arith)
one_stands (x ∷ []) r cover short read c small = ap (λ y. Some y.value) read ∙ sym (ap (option_map (λ y. y.value)) (run_at-within x [] c (omega arith) (omega arith)))
one_stands (x ∷ y ∷ rs) r cover short read c small = absurd (omega arith)
