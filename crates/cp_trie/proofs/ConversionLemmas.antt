-- The runs whose values all convert, and the values that they spell.
use Rattle.std.proofs.Common.{◌≡◌, ℕ, ◌+◌, ◌<◌, ◌≤◌, Bool, true, false, cond, Option, Some, None, List, [], ◌∷◌, ◌++◌, length, get_or, drop, refl, sym, ap, ap₂, ◌∙◌, append_assoc, arith}
use Rattle.std.specs.Prelude.{is_some}
use Rattle.std.proofs.lemmas.List.{drop_more, drop_all, append-nil}
use Rattle.cp_invlist.specs.Ranges.{in_range}
use Rattle.cp_trie.specs.Conversion.{refused_from}
use Rattle.cp_trie.specs.ConvertedRuns.{with_run, runs_by, PassesEach}
use Rattle.cp_trie.specs.Runs.{value_in}
use Rattle.cp_trie.specs.declared.ranges.CodePointMapRange.{CodePointMapRange}
use Rattle.cp_trie.proofs.CoverLemmas.{IsCover}

-- a value that is not refused converts
passed : {W : Type 0} (o : Option W) (x : Option ℕ) (i : ℕ) → cond (is_some o) x (Some i) ≡ None → (w : W) × (o ≡ Some w) × (x ≡ None)
passed None x i h = cc
passed (Some w) x i h = (w, refl, h)

choice_converted : {V W : Type 0} (convert : V → Option W) (b : Bool) (v v' : V) (w w' : W) → convert v ≡ Some w → convert v' ≡ Some w' → convert (cond b v v') ≡ Some (cond b w w')
choice_converted convert true v v' w w' h h' = h
choice_converted convert false v v' w w' h h' = h'

-- where all values convert, each value of the converted runs is that of the runs, converted
pub value_in-runs_by : {V W : Type 0} (convert : V → Option W) (e : V) (e' : W) (i : ℕ) (rs : List (CodePointMapRange V)) (c : ℕ) → convert e ≡ Some e' → refused_from convert e i rs ≡ None → convert (value_in rs e c) ≡ Some (value_in (runs_by convert rs) e' c)
value_in-runs_by convert e e' i [] c error none = error
value_in-runs_by convert e e' i (r ∷ rs) c error none =
    let p = passed (convert r.value) (refused_from convert e (i + 1) rs) i none in
    rw p.1 (choice_converted convert (in_range r.range c) r.value (value_in rs e c) p.0 (value_in (runs_by convert rs) e' c) p.1 (value_in-runs_by convert e e' (i + 1) rs c error p.2))

-- runs that cover cover after conversion too
pub IsCover-runs_by : {V W : Type 0} (convert : V → Option W) (e : V) (i n : ℕ) (rs : List (CodePointMapRange V)) → refused_from convert e i rs ≡ None → IsCover n rs → IsCover n (runs_by convert rs)
IsCover-runs_by convert e i n [] none cover = cover
IsCover-runs_by convert e i n (r ∷ rs) none cover =
    let p = passed (convert r.value) (refused_from convert e (i + 1) rs) i none in
    rw p.1 (cover.0, cover.1, cover.2, IsCover-runs_by convert e (i + 1) (r.range.end + 1) rs p.2 cover.3)

-- what is left from an index on begins with the run read there
pub left_from : {V : Type 0} (rs : List (CodePointMapRange V)) (i : ℕ) (r : CodePointMapRange V) → i < length rs → r ≡ get_or rs i r → drop i rs ≡ r ∷ drop (i + 1) rs
left_from rs i r within read = drop_more rs i r within ∙ ap (λ x. x ∷ drop (i + 1) rs) (sym read)

-- a run whose value does not convert is refused
pub refused_from-here : {V W : Type 0} (convert : V → Option W) (e : V) (rs : List (CodePointMapRange V)) (i : ℕ) (r : CodePointMapRange V) → i < length rs → r ≡ get_or rs i r → convert r.value ≡ None → refused_from convert e i (drop i rs) ≡ Some i
refused_from-here convert e rs i r within read none = ap (λ l. refused_from convert e i l) (left_from rs i r within read) ∙ rw none refl

-- one whose value converts leaves the refusal to those behind it
pub refused_from-passed : {V W : Type 0} (convert : V → Option W) (e : V) (rs : List (CodePointMapRange V)) (i : ℕ) (r : CodePointMapRange V) (w : W) → i < length rs → r ≡ get_or rs i r → Some w ≡ convert r.value → refused_from convert e (i + 1) (drop (i + 1) rs) ≡ refused_from convert e i (drop i rs)
refused_from-passed convert e rs i r w within read some =
    ap (λ o. cond (is_some o) (refused_from convert e (i + 1) (drop (i + 1) rs)) (Some i)) some ∙ ap (λ l. refused_from convert e i l) (sym (left_from rs i r within read))

-- and it is converted behind those that are done
pub runs_by-next : {V W : Type 0} (convert : V → Option W) (rs : List (CodePointMapRange V)) (done all : List (CodePointMapRange W)) (i : ℕ) (r : CodePointMapRange V) (w : W) → i < length rs → r ≡ get_or rs i r → Some w ≡ convert r.value → done ++ runs_by convert (drop i rs) ≡ all → (done ++ record { range = r.range; value = w } ∷ []) ++ runs_by convert (drop (i + 1) rs) ≡ all
runs_by-next convert rs done all i r w within read some h =
    append_assoc done (record { range = r.range; value = w } ∷ []) (runs_by convert (drop (i + 1) rs))
    ∙ (ap (λ o. done ++ with_run r.range o (runs_by convert (drop (i + 1) rs))) some
    ∙ (ap (λ l. done ++ runs_by convert l) (sym (left_from rs i r within read)) ∙ h))

-- behind all runs the error value alone is left
pub refused_from-behind : {V W : Type 0} (convert : V → Option W) (e : V) (rs : List (CodePointMapRange V)) (i : ℕ) → length rs ≡ i → refused_from convert e i (drop i rs) ≡ refused_from convert e (length rs) []
refused_from-behind convert e rs i size = ap₂ (λ n l. refused_from convert e n l) (sym size) (drop_all i rs (omega arith))

-- where each run passes, an error value that does not convert is refused behind them
pub refused_from-error : {V W : Type 0} (convert : V → Option W) (e : V) (rs : List (CodePointMapRange V)) → PassesEach convert rs → convert e ≡ None → refused_from convert e 0 rs ≡ Some (length rs)
refused_from-error convert e rs passes none = passes e ∙ rw none refl

-- and where it converts nothing is refused
pub refused_from-none : {V W : Type 0} (convert : V → Option W) (e : V) (w : W) (rs : List (CodePointMapRange V)) → PassesEach convert rs → convert e ≡ Some w → refused_from convert e 0 rs ≡ None
refused_from-none convert e w rs passes some = passes e ∙ rw some refl

-- once all runs are done they are the converted runs
pub runs_by-all_done : {V W : Type 0} (convert : V → Option W) (rs : List (CodePointMapRange V)) (done : List (CodePointMapRange W)) (i : ℕ) → length rs ≤ i → done ++ runs_by convert (drop i rs) ≡ runs_by convert rs → done ≡ runs_by convert rs
runs_by-all_done convert rs done i all h =
    sym (append-nil done) ∙ (ap (λ l. done ++ runs_by convert l) (sym (drop_all i rs all)) ∙ h)
