-- Rows of 64 values, and lists that are cut into them.
use Rattle.std.proofs.Common.{◌≡◌, ℕ, zero, suc, ◌+◌, ◌*◌, ◌-◌, ◌%◌, ◌<◌, ◌≤◌, List, [], ◌∷◌, ◌++◌, length, take, drop, replicate, refl, sym, ap, ap₂, ◌∙◌, append_assoc, arith, length-append, length-drop}
use Rattle.std.proofs.lemmas.List.{append-nil, take_all, take-take, take-append-le, drop-append-le, length-take-le, length-replicate, replicate-append-replicate, take-replicate}
use Rattle.std.proofs.Math.Nat.{suc-mul, zero-mul}
use Rattle.std.proofs.Math.Seq.{drop-append_seam, take-append-add, take-append_seam}
use Rattle.std.specs.List.{repeat, slice_range}
use Rattle.cp_trie.specs.Rows.{row_of, AreWhole, rows_of, spelled, Extends, laid, taken, IsCut}
use Rattle.cp_trie.specs.declared.rows.Repeated.{Repeated}
use Rattle.cp_trie.specs.declared.rows.Rows.{Rows}

-- the part of 64 values from where a row begins is the row
pub row_of-range : {V : Type 0} (values : List V) (n : ℕ) → slice_range values (n * 64) (n * 64 + 64) ≡ row_of values n
row_of-range values n =
    let size : n * 64 + 64 - n * 64 ≡ 64 = omega arith in ap (λ k. take k (drop (n * 64) values)) size

-- behind whole rows stands the row whose number is how many they are
pub row_of-last : {V : Type 0} (values row : List V) (n : ℕ) → length values ≡ n * 64 → length row ≡ 64 → row_of (values ++ row) n ≡ row
row_of-last values row n here full =
    ap (λ l. take 64 l) (ap (λ k. drop k (values ++ row)) (sym here) ∙ drop-append_seam values row) ∙ take_all 64 row (omega arith)

-- a whole row stays where the list grows behind it
row_of-append : {V : Type 0} (values more : List V) (n : ℕ) → n * 64 + 64 ≤ length values → row_of (values ++ more) n ≡ row_of values n
row_of-append values more n whole =
    ap (λ l. take 64 l) (drop-append-le (n * 64) values more (omega arith)) ∙ take-append-le 64 (drop (n * 64) values) more (omega (arith, length-drop (n * 64) values))

rows_of-append_values : {V : Type 0} (values more : List V) (ns : List ℕ) → AreWhole values ns → rows_of (values ++ more) ns ≡ rows_of values ns
rows_of-append_values values more [] whole = refl
rows_of-append_values values more (n ∷ ns) whole =
    ap₂ (λ a b. a ++ b) (row_of-append values more n whole.0) (rows_of-append_values values more ns whole.1)

AreWhole-append_values : {V : Type 0} (values more : List V) (ns : List ℕ) → AreWhole values ns → AreWhole (values ++ more) ns
AreWhole-append_values values more [] whole = tt
AreWhole-append_values values more (n ∷ ns) whole =
    (omega (arith, length-append values more, whole.0), AreWhole-append_values values more ns whole.1)

AreWhole-append : {V : Type 0} (values : List V) (ns ms : List ℕ) → AreWhole values ns → AreWhole values ms → AreWhole values (ns ++ ms)
AreWhole-append values [] ms front back = back
AreWhole-append values (n ∷ ns) ms front back = (front.0, AreWhole-append values ns ms front.1 back)

AreWhole-replicate : {V : Type 0} (values : List V) (n m : ℕ) → n * 64 + 64 ≤ length values → AreWhole values (replicate m n)
AreWhole-replicate values n zero whole = tt
AreWhole-replicate values n (suc m) whole = (whole, AreWhole-replicate values n m whole)

rows_of-append : {V : Type 0} (values : List V) (ns ms : List ℕ) → rows_of values (ns ++ ms) ≡ rows_of values ns ++ rows_of values ms
rows_of-append values [] ms = refl
rows_of-append values (n ∷ ns) ms =
    ap (λ l. row_of values n ++ l) (rows_of-append values ns ms) ∙ sym (append_assoc (row_of values n) (rows_of values ns) (rows_of values ms))

rows_of-replicate : {V : Type 0} (values row : List V) (n m : ℕ) → row_of values n ≡ row → rows_of values (replicate m n) ≡ repeat m row
rows_of-replicate values row n zero same = refl
rows_of-replicate values row n (suc m) same = ap₂ (λ a b. a ++ b) same (rows_of-replicate values row n m same)

pub length-row_of : {V : Type 0} (values : List V) (n : ℕ) → n * 64 + 64 ≤ length values → length (row_of values n) ≡ 64
length-row_of values n whole = length-take-le 64 (drop (n * 64) values) (omega (arith, length-drop (n * 64) values))

length-rows_of : {V : Type 0} (values : List V) (ns : List ℕ) → AreWhole values ns → length (rows_of values ns) ≡ 64 * length ns
length-rows_of values [] whole = refl
length-rows_of values (n ∷ ns) whole =
    let row = length-row_of values n whole.0 in
    let rest = length-rows_of values ns whole.1 in
    omega (arith, length-append (row_of values n) (rows_of values ns))

-- so many values so many times
pub repeat-replicate : {V : Type 0} (m k : ℕ) (x : V) → repeat m (replicate k x) ≡ replicate (m * k) x
repeat-replicate zero k x = ap (λ n. replicate n x) (sym (zero-mul k))
repeat-replicate (suc m) k x =
    let size : k + m * k ≡ suc m * k = omega (arith, suc-mul m k) in
    ap (λ l. replicate k x ++ l) (repeat-replicate m k x) ∙ (replicate-append-replicate k (m * k) x ∙ ap (λ n. replicate n x) size)

-- a list once
pub repeat-one : {V : Type 0} (xs : List V) → repeat 1 xs ≡ xs
repeat-one xs = append-nil xs

-- numbers with one more behind them, so many times
spelled-append_one : (rs : List Repeated) (r : Repeated) → spelled (rs ++ r ∷ []) ≡ spelled rs ++ replicate r.count r.number
spelled-append_one [] r = append-nil (replicate r.count r.number)
spelled-append_one (x ∷ xs) r =
    ap (λ l. replicate x.count x.number ++ l) (spelled-append_one xs r) ∙ sym (append_assoc (replicate x.count x.number) (spelled xs) (replicate r.count r.number))

-- the same, where one list is the other with one more behind it
pub spelled-closed : (old new : List Repeated) (r : Repeated) → new ≡ old ++ r ∷ [] → spelled new ≡ spelled old ++ replicate r.count r.number
spelled-closed old new r more = ap spelled more ∙ spelled-append_one old r

-- rows one behind another with a row so many times behind them
pub rows_of-closed : {V : Type 0} (values new row : List V) (ns : List ℕ) (n m : ℕ) → Extends values new → AreWhole values ns → row_of new n ≡ row → rows_of new (ns ++ replicate m n) ≡ rows_of values ns ++ repeat m row
rows_of-closed values new row ns n m extends whole here =
    rows_of-append new ns (replicate m n)
    ∙ ap₂ (λ a b. a ++ b) (ap (λ l. rows_of l ns) extends.behind ∙ rows_of-append_values values extends.more ns whole) (rows_of-replicate new row n m here)

-- they are whole
pub AreWhole-closed : {V : Type 0} (values new : List V) (ns : List ℕ) (n m : ℕ) → Extends values new → AreWhole values ns → n * 64 + 64 ≤ length new → AreWhole new (ns ++ replicate m n)
AreWhole-closed values new ns n m extends whole within =
    AreWhole-append new ns (replicate m n) (rw extends.behind (AreWhole-append_values values extends.more ns whole)) (AreWhole-replicate new n m within)

-- and the shelf has no more rows than numbers
pub few-closed : {V : Type 0} (values new : List V) (ns : List ℕ) (n m : ℕ) → Extends values new → length values ≤ 64 * length ns → 0 < m → length new ≤ 64 * length (ns ++ replicate m n)
few-closed values new ns n m extends few some =
    omega (arith, ap length extends.behind, length-append values extends.more, extends.few, length-append ns (replicate m n), length-replicate m n)

-- how many values are laid
pub length-laid : {V : Type 0} (s : Rows V) → IsCut s → length (laid s) ≡ 64 * length (spelled s.numbers.items)
length-laid s cut = length-rows_of s.shelf.values.items (spelled s.numbers.items) cut.within

-- how many values were taken
pub length-taken : {V : Type 0} (s : Rows V) (n : ℕ) → IsCut s → n ≤ 64 → length (taken s n) ≡ 64 * length (spelled s.numbers.items) + n
length-taken s n cut within =
    omega (arith, length-append (laid s) (take n s.row), length-laid s cut, length-take-le n s.row (omega (arith, cut.places)))

-- where whole rows were taken and none are left, no row is begun
pub laid-whole : {V : Type 0} (s : Rows V) (xs left : List V) (n : ℕ) → IsCut s → n < 64 → taken s n ++ left ≡ xs → left ≡ [] → length xs % 64 ≡ 0 → laid s ≡ xs
laid-whole s xs left n cut begun all none size =
    let whole : taken s n ≡ xs = sym (append-nil (taken s n)) ∙ (ap (λ l. taken s n ++ l) (sym none) ∙ all) in
    let empty : n ≡ 0 = omega (arith, length-taken s n cut (omega arith), ap length whole) in
    sym (append-nil (laid s)) ∙ (ap (λ i. laid s ++ take i s.row) (sym empty) ∙ whole)

-- pieces of one value, taken one behind another, are one piece
pub replicate-pieces : {V : Type 0} (xs one two last : List V) (x : V) (i j k n : ℕ) → one ≡ xs ++ replicate i x → two ≡ one ++ replicate j x → last ≡ replicate k x → i + j + k ≡ n → two ++ last ≡ xs ++ replicate n x
replicate-pieces xs one two last x i j k n first second third size =
    ap₂ (λ a b. a ++ b) second third
    ∙ (append_assoc one (replicate j x) (replicate k x)
    ∙ (ap₂ (λ a b. a ++ b) first (replicate-append-replicate j k x)
    ∙ (append_assoc xs (replicate i x) (replicate (j + k) x)
    ∙ ap (λ l. xs ++ l) (replicate-append-replicate i (j + k) x ∙ ap (λ m. replicate m x) (let sum : i + (j + k) ≡ n = omega arith in sum)))))

-- rows of a value are its copies behind what was laid
pub laid-rows : {V : Type 0} (old new row : List V) (m k : ℕ) (x : V) → new ≡ old ++ repeat m (take 64 row) → take k row ≡ replicate 64 x → k ≡ 64 → new ≡ old ++ replicate (m * 64) x
laid-rows old new row m k x closed filled size =
    closed ∙ ap (λ l. old ++ l) (ap (λ l. repeat m l) (ap (λ i. take i row) (sym size) ∙ filled) ∙ repeat-replicate m 64 x)

-- a row that was begun, and completed with copies of a value
pub laid-completed : {V : Type 0} (old new begun row : List V) (n k i m : ℕ) (x : V) → new ≡ old ++ repeat 1 (take 64 row) → take i row ≡ take n begun ++ replicate k x → i ≡ 64 → k ≡ m → new ≡ (old ++ take n begun) ++ replicate m x
laid-completed old new begun row n k i m x closed filled size count =
    closed
    ∙ (ap (λ l. old ++ l) (repeat-one (take 64 row) ∙ (ap (λ j. take j row) (sym size) ∙ (filled ∙ ap (λ j. take n begun ++ replicate j x) count)))
    ∙ sym (append_assoc old (take n begun) (replicate m x)))

-- the front of a list where a part was put in the place of another
pub take-patched : {V : Type 0} (xs part more : List V) (i k : ℕ) → i ≤ length xs → length part ≡ k → take (i + k) (take i xs ++ (part ++ more)) ≡ take i xs ++ part
take-patched xs part more i k within size =
    ap (λ j. take (j + k) (take i xs ++ (part ++ more))) (sym (length-take-le i xs within))
    ∙ (take-append-add (take i xs) (part ++ more) k
    ∙ ap (λ l. take i xs ++ l) (ap (λ j. take j (part ++ more)) (sym size) ∙ take-append_seam part more))

-- the front of a list that was written in front of others
pub take-written : {V : Type 0} (xs more : List V) (k n : ℕ) → k ≤ n → k ≤ length xs → take k (take n (xs ++ more)) ≡ take k xs
take-written xs more k n fits within = take-take k n (xs ++ more) fits ∙ take-append-le k xs more within

-- a list whose front was written is as long as before
pub length-written : {V : Type 0} (new old : List V) (n : ℕ) → n ≡ length old → length new ≤ length old → length (take n (new ++ drop (length new) old)) ≡ length old
length-written new old n whole fits = length-take-le n (new ++ drop (length new) old) (omega (arith, length-append new (drop (length new) old), length-drop (length new) old)) ∙ whole

-- a second fill that begins where the first ends
pub take-filled_on : {V : Type 0} (xs ys zs : List V) (i n j m k : ℕ) (x : V) → take (i + n) ys ≡ take i xs ++ replicate n x → take (j + m) zs ≡ take j ys ++ replicate m x → j ≡ i + n → n + m ≡ k → take (i + k) zs ≡ take i xs ++ replicate k x
take-filled_on xs ys zs i n j m k x first second seam sum =
    ap (λ l. take l zs) (let size : i + k ≡ j + m = omega arith in size)
    ∙ (second
    ∙ (ap (λ l. l ++ replicate m x) (ap (λ l. take l ys) seam ∙ first)
    ∙ (append_assoc (take i xs) (replicate n x) (replicate m x)
    ∙ ap (λ l. take i xs ++ l) (replicate-append-replicate n m x ∙ ap (λ l. replicate l x) sum))))

-- the front of a list that was filled behind a place with copies of a value
pub take-filled : {V : Type 0} (xs ys : List V) (i k n : ℕ) (x : V) → take (i + n) ys ≡ take i xs ++ replicate n x → i ≤ length xs → k ≤ n → take (i + k) ys ≡ take i xs ++ replicate k x
take-filled xs ys i k n x filled within few =
    sym (take-take (i + k) (i + n) ys (omega arith))
    ∙ (ap (λ l. take (i + k) l) filled
    ∙ (ap (λ j. take (j + k) (take i xs ++ replicate n x)) (sym (length-take-le i xs within))
    ∙ (take-append-add (take i xs) (replicate n x) k ∙ ap (λ l. take i xs ++ l) (take-replicate k n x few))))
