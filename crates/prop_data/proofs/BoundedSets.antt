-- Each set of a table text ends.
use Rattle.std.specs.Option.{option_or}
use Rattle.std.proofs.Common.{◌≡◌, ℕ, ◌+◌, ◌≤◌, Bool, true, false, cond, nat_eq, List, [], ◌∷◌, Option, Some, None, refl, subst, arith}
use Rattle.std.proofs.lemmas.Bool.Decides.{nat_tests}
use Rattle.std.proofs.lemmas.Bool.{or_from}
use Rattle.prop_data.specs.Headers.{Table, set_table}
use Rattle.prop_data.specs.Laws.{SetsAreBounded}
use Rattle.prop_data.specs.Line.{Row}
use Rattle.prop_data.specs.LinesAbove.{Section, found, set_at, sections}
use Rattle.prop_data.specs.Numbers.{range}
use Rattle.prop_data.specs.Rows.{members, holds}
use Rattle.prop_data.specs.TableText.{laid_on, lines_by_field}

abbrev Ends : (ℕ → Bool) → Type 0
Ends m = (bound : ℕ) × ((c : ℕ) → bound ≤ c → m c ≡ false)

range_ends : (r : Option (ℕ × ℕ)) → Ends (holds r)
range_ends None = (0, λ c h. refl)
range_ends (Some (start, end)) = (end + 1, λ c h. grind (arith, nat_tests, h))

members_end : (rows : List Row) → Ends (members rows)
members_end [] = (0, λ c h. refl)
members_end (r ∷ rows) =
    let (first, beyond) = members_end rows in
    let (second, further) = range_ends (range r.0) in
    (first + second, λ c h. or_from (members rows c) (holds (range r.0) c) (beyond c (omega (arith, h))) (further c (omega (arith, h))))

-- every set that the option is
abbrev AllEnd : Option (ℕ → Bool) → Type 0
AllEnd o = (m : ℕ → Bool) → o ≡ Some m → Ends m

of_number : (b : Bool) (rows : List Row) → AllEnd (cond b (Some (members rows)) None)
of_number true rows m h = subst Ends (let e : members rows ≡ m = cc in e) (members_end rows)
of_number false rows m h = absurd (let g = h in cc)

set_ends : (t : ℕ) (table : Table) (rows : List Row) → AllEnd (set_at t table rows)
set_ends t (set_table n) rows = of_number (nat_eq n t) rows
set_ends t _ rows = λ m h. absurd (let g = h in cc)

first_ends : (a b : Option (ℕ → Bool)) → AllEnd a → AllEnd b → AllEnd (option_or a b)
first_ends None b h k = k
first_ends (Some x) b h k = h

found_ends : (t : ℕ) (ss : List Section) → AllEnd (found (set_at t) ss)
found_ends t [] = λ m h. absurd (let g = h in cc)
found_ends t (s ∷ ss) = first_ends (set_at t s.0 s.1) (found (set_at t) ss) (set_ends t s.0 s.1) (found_ends t ss)

pub sets_are_bounded : SetsAreBounded
sets_are_bounded = λ lines t m h. found_ends t (sections (laid_on [] (lines_by_field lines))) m h
