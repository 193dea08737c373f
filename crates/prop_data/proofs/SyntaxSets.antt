-- The sets of a table text without a fault.
use mathlib.Core.Logic.{◌⊎◌}
use Rattle.std.specs.Option.{option_or}
use Rattle.std.proofs.Common.{◌≡◌, ℕ, ◌+◌, ◌≤◌, Bool, true, false, ◌&&◌, nat_eq, nat_le, List, [], ◌∷◌, Option, Some, None, option_map, cond, refl, ap, ◌∙◌, inl, inr, subst, arith}
use Rattle.std.proofs.lemmas.Bool.{both_ways, or_from, cases_Bool, eq-eqb}
use Rattle.std.proofs.lemmas.Bool.Decides.{nat_tests}
use Rattle.std.specs.List.{list_any}
use Rattle.prop_data.specs.declared.error.TableErrorKind.TheVariants.{TooLarge, RangeOrder, SyntaxAscii, AfterEnd}
use Rattle.prop_data.specs.Forbidden.{is_forbidden, IsAllowed, AreAllowed}
use Rattle.prop_data.specs.Headers.{Table, set_table, table_of}
use Rattle.prop_data.specs.Line.{Row, Line, blank, header, row, closing, other}
use Rattle.prop_data.specs.LineFault.{Above, above, unless, overlaps, forbidden}
use Rattle.prop_data.specs.LinesAbove.{Section, is_closed, sections, begins_with, with_row, table_of_row, found, set_at, tables_of_sections, tables_of_lines}
use Rattle.prop_data.specs.Laws.{SetsAreAllowed}
use Rattle.prop_data.specs.Numbers.{range}
use Rattle.prop_data.specs.Rows.{members, holds}
use Rattle.prop_data.specs.Tables.{Tables}
use Rattle.prop_data.specs.Tests.{set_row, tests, first_failing, ends_past_all, is_disordered, is_after_end, fault_of_line}
use Rattle.prop_data.specs.TableText.{at_line, first_fault, laid_on, lines_by_field}
use Rattle.prop_data.proofs.RowLemmas.{apart-within}

-- what the nearest section says of a set is allowed, and what those behind it say
says_allowed : (k : ℕ) (first second : Option (ℕ → Bool)) → ((m : ℕ → Bool) → first ≡ Some m → IsAllowed k m) → ((m : ℕ → Bool) → second ≡ Some m → IsAllowed k m) →
    (m : ℕ → Bool) → option_or first second ≡ Some m → IsAllowed k m
says_allowed k None second now before m h = before m h
says_allowed k (Some x) second now before m h = now m h

-- a set of this number has these members
of_number : (t k : ℕ) (b : Bool) (rows m : ℕ → Bool) → nat_eq t k ≡ b → IsAllowed t rows → cond b (Some rows) None ≡ Some m → IsAllowed k m
of_number t k true rows m same allowed h =
    let is : rows ≡ m = cc in
    let here : t ≡ k = grind (arith, nat_tests) in
    subst (λ n. IsAllowed n m) here (subst (λ s. IsAllowed t s) is allowed)
of_number t k false rows m same allowed h = cc

-- the rows of a set hold nothing forbidden; rows of another table say nothing of sets
abbrev RowsAllowed : Table → List Row → Type 0
RowsAllowed t rows = (k : ℕ) (m : ℕ → Bool) → set_at k t rows ≡ Some m → IsAllowed k m

set_rows : (t : ℕ) (rows : List Row) → IsAllowed t (members rows) → RowsAllowed (set_table t) rows
set_rows t rows allowed k m h = of_number t k (nat_eq t k) (members rows) m refl allowed h

without_rows : (t : Table) → RowsAllowed t []
without_rows (set_table t) = set_rows t [] (λ c f. refl)
without_rows _ = λ k m h. cc

begun_allowed : (o : Option Table) (ss : List Section) → AreAllowed (tables_of_sections ss) → AreAllowed (tables_of_sections (begins_with o ss))
begun_allowed None ss before = before
begun_allowed (Some t) ss before = λ k. says_allowed k (set_at k t []) (found (set_at k) ss) (without_rows t k) (before k)

no_first : {A : Type 0} (b : Bool) (x : A) (o : Option A) → cond b (Some x) o ≡ None → (b ≡ false) × (o ≡ None)
no_first true x o h = cc
no_first false x o h = (refl, h)

no_either : {A : Type 0} (x y : Option A) → option_or x y ≡ None → (x ≡ None) × (y ≡ None)
no_either None y h = (refl, h)
no_either (Some x) y h = cc

no_mapped : {A B : Type 0} (f : A → B) (o : Option A) → option_map f o ≡ None → o ≡ None
no_mapped f None h = refl
no_mapped f (Some x) h = cc

inside : (start end c : ℕ) → (nat_le start c && nat_le c end) ≡ true → (start ≤ c) × (c ≤ end)
inside start end c h = (grind (arith, nat_tests), grind (arith, nat_tests))

third : {A : Type 0} (a b d : Bool) (x y z : A) (o : Option A) → cond a (Some x) (cond b (Some y) (cond d (Some z) o)) ≡ None → d ≡ false
third a b d x y z o h = (no_first d z o (no_first b y _ (no_first a x _ h).1).1).0

-- a range that passes its tests holds nothing forbidden
range_allowed : (seen : Above) (t : ℕ) (r : Option (ℕ × ℕ)) → first_failing seen (set_row t r) tests ≡ None → (c : ℕ) → is_forbidden t c ≡ true → holds r c ≡ false
range_allowed seen t None h c f = refl
range_allowed seen t (Some (start, end)) h c f =
    let out = third (ends_past_all (Some (start, end))) (is_disordered seen.last (Some (start, end))) (list_any (overlaps (start, end)) (forbidden t)) TooLarge RangeOrder SyntaxAscii
    (cond (is_after_end seen (set_row t (Some (start, end)))) (Some AfterEnd) None) h in
    by (cases_Bool (nat_le start c && nat_le c end)) out
  where
    by : ((nat_le start c && nat_le c end) ≡ true) ⊎ ((nat_le start c && nat_le c end) ≡ false) → list_any (overlaps (start, end)) (forbidden t) ≡ false → (nat_le start c && nat_le c end) ≡ false
    by (inr off) apart = off
    by (inl held) apart =
        let within = inside start end c held in
        absurd (both_ways _ (apart-within start end c (forbidden t) apart within.0 within.1) f)

-- so does a row of a set
row_allowed : (closed : Bool) (t : ℕ) (last : Option ℕ) (tables : Tables) (r : Row) → fault_of_line (record { closed = closed; table = Some (set_table t); last = last; tables = tables }) (row r) ≡ None →
    (c : ℕ) → is_forbidden t c ≡ true → holds (range r.0) c ≡ false
row_allowed true t last tables (first, None) h = cc
row_allowed true t last tables (first, Some second) h = cc
row_allowed false t last tables (first, Some second) h = cc
row_allowed false t last tables (first, None) h = range_allowed (record { closed = false; table = Some (set_table t); last = last; tables = tables }) t (range first) h

-- the rows of the nearest section are allowed, where it is a set
nearest_allowed : (t : ℕ) (rows : List Row) (ss : List Section) → AreAllowed (tables_of_sections ((set_table t, rows) ∷ ss)) → IsAllowed t (members rows)
nearest_allowed t rows ss before = before t (members rows) (ap (λ b. option_or (cond b (Some (members rows)) None) (found (set_at t) ss)) (eq-eqb t t refl))

-- a set with a row more
set_grows : (t : ℕ) (r : Row) (rows : List Row) (ss : List Section) → AreAllowed (tables_of_sections ((set_table t, rows) ∷ ss)) → ((c : ℕ) → is_forbidden t c ≡ true → holds (range r.0) c ≡ false) →
    AreAllowed (tables_of_sections ((set_table t, r ∷ rows) ∷ ss))
set_grows t r rows ss before fine = λ k m h. by k m (nat_eq t k) refl h
  where
    by : (k : ℕ) (m : ℕ → Bool) (b : Bool) → nat_eq t k ≡ b → option_or (cond b (Some (members (r ∷ rows))) None) (found (set_at k) ss) ≡ Some m → IsAllowed k m
    by k m true same h = of_number t k true (members (r ∷ rows)) m same (λ c f. or_from (members rows c) _ (nearest_allowed t rows ss before c f) (fine c f)) h
    by k m false apart h = before k m (ap (λ b. option_or (cond b (Some (members rows)) None) (found (set_at k) ss)) apart ∙ h)

-- a row without a fault
row_grows : (closed : Bool) (t : Table) (last : Option ℕ) (tables : Tables) (r : Row) (rows : List Row) (ss : List Section) →
    fault_of_line (record { closed = closed; table = Some t; last = last; tables = tables }) (row r) ≡ None → AreAllowed (tables_of_sections ((t, rows) ∷ ss)) → AreAllowed (tables_of_sections ((t, r ∷ rows) ∷ ss))
row_grows closed (set_table t) last tables r rows ss fine before = set_grows t r rows ss before (row_allowed closed t last tables r fine)
row_grows closed _ last tables r rows ss fine before = λ k m h. before k m h

row_joins : (closed : Bool) (last : Option ℕ) (tables : Tables) (r : Row) (ss : List Section) →
    fault_of_line (record { closed = closed; table = unless closed (table_of_row ss); last = last; tables = tables }) (row r) ≡ None → AreAllowed (tables_of_sections ss) → AreAllowed (tables_of_sections (with_row r ss))
row_joins true last tables r ss fine before = cc
row_joins false last tables r [] fine before = before
row_joins false last tables r ((t, rows) ∷ ss) fine before = row_grows false t last tables r rows ss fine before

-- a line without a fault
line_joins : (ls : List Line) (l : Line) → fault_of_line (above ls) l ≡ None → AreAllowed (tables_of_lines ls) → AreAllowed (tables_of_lines (l ∷ ls))
line_joins ls blank fine before = before
line_joins ls closing fine before = before
line_joins ls other fine before = before
line_joins ls (header h) fine before = begun_allowed (table_of h) (sections ls) before
line_joins ls (row r) fine before = row_joins (is_closed ls) (above ls).last (tables_of_lines ls) r (sections ls) fine before

lines_join : (ls : List Line) (n : ℕ) (more : List Line) → first_fault ls n more ≡ None → AreAllowed (tables_of_lines ls) → AreAllowed (tables_of_lines (laid_on ls more))
lines_join ls n [] fine before = before
lines_join ls n (l ∷ more) fine before =
    let p = no_either (option_map (at_line n) (fault_of_line (above ls) l)) (first_fault (l ∷ ls) (n + 1) more) fine in
    lines_join (l ∷ ls) (n + 1) more p.1 (line_joins ls l (no_mapped (at_line n) (fault_of_line (above ls) l) p.0) before)

pub sets_are_allowed : SetsAreAllowed
sets_are_allowed = λ lines fine. lines_join [] 1 (lines_by_field lines) fine (λ k m h. cc)
