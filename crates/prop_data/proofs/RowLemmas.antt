-- Rows without a fault.
use Rattle.std.proofs.Common.{◌≡◌, ℕ, ◌≤◌, Bool, true, false, ◌&&◌, ◌||◌, nat_le, nat_lt, List, [], ◌∷◌, Option, Some, None, unwrap_or, cond, inl, inr, refl, sym, ap, ◌∙◌, arith}
use mathlib.Core.Logic.{◌⊎◌}
use Rattle.std.specs.Prelude.{Result, Ok, Err, OnOk, OnErr}
use Rattle.std.specs.Option.{option_or}
use Rattle.std.proofs.lemmas.Bool.{both_ways, or_from, cases_Bool}
use Rattle.std.proofs.lemmas.Bool.Decides.{nat_tests}
use Rattle.std.specs.List.{list_any}
use Rattle.cp_invlist.specs.Ranges.{in_range, in_code_points}
use Rattle.prop_data.specs.declared.error.TableErrorKind.TheVariants.{ValueOutOfType, SyntaxAscii, ExtensionOrder}
use Rattle.prop_data.specs.Rows.{holds}
use Rattle.prop_data.specs.MapBuilder.{next_of}
use Rattle.prop_data.specs.Accepted.{AreAccepted}
use Rattle.prop_data.specs.Forbidden.{is_forbidden, IsAllowed}
use Rattle.prop_data.specs.LineFault.{overlaps, forbidden, is_not_above, order_fault, range_fault, syntax_fault, value_fault, accepts_value, set_row_fault, map_row_fault}

-- a range that passes its tests
pub record InOrder (last : Option ℕ) (r : ℕ × ℕ) : Type 0 where
  pub ordered : r.0 ≤ r.1
  pub within : r.1 ≤ 0x10_FFFF
  pub behind : next_of last ≤ r.0

behind_last : (last : Option ℕ) (start : ℕ) → is_not_above last start ≡ false → next_of last ≤ start
behind_last None start h = omega arith
behind_last (Some last) start h = grind (arith, nat_tests)

pub range_fault-none : (last : Option ℕ) (r : ℕ × ℕ) → range_fault last r ≡ None → InOrder last r
unfolding range_fault
range_fault-none last (start, end) h = record {
  ordered = grind (arith, nat_tests);
  within = grind (arith, nat_tests);
  behind = behind_last last start (grind (arith, nat_tests));
}

-- up to the last code point a range adds what it holds
pub in_code_points-holds : (start end c : ℕ) → end ≤ 0x10_FFFF → in_code_points (record { start = start; end = end }) c ≡ holds (Some (start, end)) c
in_code_points-holds start end c within = grind (arith, nat_tests)

pub set_row_fault-none : (t : ℕ) (last : Option ℕ) (r : ℕ × ℕ) (spelled : Option (ℕ × ℕ)) → Some r ≡ spelled → range_fault last r ≡ None → syntax_fault t r ≡ None → set_row_fault t last spelled ≡ None
set_row_fault-none t last r spelled is range syntax = ap (set_row_fault t last) (sym is) ∙ (ap (λ o. option_or o (syntax_fault t r)) range ∙ syntax)

pub map_row_fault-none : (t : ℕ) (last : Option ℕ) (r : ℕ × ℕ) (spelled : Option (ℕ × ℕ)) (n : ℕ) (number : Option ℕ) → Some r ≡ spelled → Some n ≡ number → range_fault last r ≡ None → value_fault t n ≡ None →
    map_row_fault t last spelled number ≡ None
map_row_fault-none t last r spelled n number is number_is range value =
    ap (λ s. map_row_fault t last s number) (sym is) ∙ (ap (map_row_fault t last (Some r)) (sym number_is) ∙ (ap (λ o. option_or o (value_fault t n)) range ∙ value))

-- a number that the property takes
pub accepted-some : (t n v : ℕ) → Some v ≡ cond (accepts_value t n) (Some n) None → (v ≡ n) × (value_fault t n ≡ None)
unfolding value_fault
accepted-some t n v h = by_test (accepts_value t n) h
  where
    by_test : (b : Bool) → Some v ≡ cond b (Some n) None → (v ≡ n) × (cond b None (Some ValueOutOfType) ≡ None)
    by_test true h = (cc, refl)
    by_test false h = cc

-- an accepted number is one that the table takes
pub accepted-takes : (t n v : ℕ) → Some v ≡ cond (accepts_value t n) (Some n) None → accepts_value t v ≡ true
accepted-takes t n v h = by_test (accepts_value t n) refl h
  where
    by_test : (b : Bool) → accepts_value t n ≡ b → Some v ≡ cond b (Some n) None → accepts_value t v ≡ true
    by_test true takes h = let same : v ≡ n = cc in ap (accepts_value t) same ∙ takes
    by_test false takes h = cc

-- what follows from both outcomes holds
pub either_way : {V E A B P : Type 0} (result : Result V E) → (A → P) → (B → P) → OnOk result A → OnErr result B → P
either_way (Ok v) first second ok err = first ok
either_way (Err e) first second ok err = second err

-- a table that takes a value and the values of a map takes those of the map with the value given to a range
pub AreAccepted-grown : (t value : ℕ) (inside : ℕ → Bool) (old new : ℕ → ℕ) → accepts_value t value ≡ true → AreAccepted t old → ((c : ℕ) → new c ≡ cond (inside c) value (old c)) → AreAccepted t new
AreAccepted-grown t value inside old new takes others grown c = by_test (inside c) (grown c)
  where
    by_test : (b : Bool) → new c ≡ cond b value (old c) → accepts_value t (new c) ≡ true
    by_test true h = ap (accepts_value t) h ∙ takes
    by_test false h = ap (accepts_value t) h ∙ others c

-- a table that takes the values of a map takes those of a map with the same values
pub AreAccepted-same : (t : ℕ) (old new : ℕ → ℕ) → AreAccepted t old → ((c : ℕ) → new c ≡ old c) → AreAccepted t new
AreAccepted-same t old new others same c = ap (accepts_value t) (same c) ∙ others c

-- a value is given to the numbers of a range up to the last code point
pub values-grown : (r : ℕ × ℕ) (spelled : Option (ℕ × ℕ)) (v n : ℕ) (number : Option ℕ) (past new old c : ℕ) → Some r ≡ spelled → Some n ≡ number → v ≡ n → r.1 ≤ 0x10_FFFF →
    new ≡ cond (in_range (record { start = r.0; end = r.1 }) c) v old →
    cond (nat_lt 0x10_FFFF c) past new ≡ cond (holds spelled c) (unwrap_or number 0) (cond (nat_lt 0x10_FFFF c) past old)
values-grown (start, end) spelled v n number past new old c is number_is same within new_is =
    ap (cond (nat_lt 0x10_FFFF c) past) (new_is ∙ ap (λ w. cond (in_range (record { start = start; end = end }) c) w old) same)
    ∙ (by_test (nat_lt 0x10_FFFF c) refl
    ∙ (ap (λ s. cond (holds s c) n (cond (nat_lt 0x10_FFFF c) past old)) is ∙ ap (λ s. cond (holds spelled c) (unwrap_or s 0) (cond (nat_lt 0x10_FFFF c) past old)) number_is))
  where
    by_test : (b : Bool) → nat_lt 0x10_FFFF c ≡ b → cond b past (cond (nat_le start c && nat_le c end) n old) ≡ cond (nat_le start c && nat_le c end) n (cond b past old)
    by_test true far = (let off : (nat_le start c && nat_le c end) ≡ false = grind (arith, nat_tests, far) in rw off refl)
    by_test false near = refl

-- a code point of a range that overlaps none of these lies in none
pub apart-within : (first last c : ℕ) (ss : List (ℕ × ℕ)) → list_any (overlaps (first, last)) ss ≡ false → first ≤ c → c ≤ last → list_any (overlaps (c, c)) ss ≡ false
apart-within first last c [] h below above = refl
apart-within first last c ((a, b) ∷ ss) h below above =
    let rest = apart-within first last c ss (grind (arith, nat_tests)) below above in
    grind (arith, nat_tests, rest)

no_syntax : (b : Bool) → cond b (Some SyntaxAscii) None ≡ None → b ≡ false
no_syntax true h = cc
no_syntax false h = refl

-- a set that holds nothing forbidden holds none with the range of a row that passes its tests
pub allowed-grown : (t start end : ℕ) (old new : ℕ → Bool) → IsAllowed t old → syntax_fault t (start, end) ≡ None → ((c : ℕ) → new c ≡ (old c || in_code_points (record { start = start; end = end }) c)) → IsAllowed t new
unfolding syntax_fault
allowed-grown t start end old new allowed fine grown = λ c forbidden_here. grown c ∙ or_from (old c) _ (allowed c forbidden_here) (outside c forbidden_here)
  where
    outside : (c : ℕ) → is_forbidden t c ≡ true → in_code_points (record { start = start; end = end }) c ≡ false
    outside c forbidden_here = by (cases_Bool (in_code_points (record { start = start; end = end }) c))
      where
        by : (in_code_points (record { start = start; end = end }) c ≡ true) ⊎ (in_code_points (record { start = start; end = end }) c ≡ false) → in_code_points (record { start = start; end = end }) c ≡ false
        by (inr off) = off
        by (inl inside) =
            let below : start ≤ c = grind (arith, nat_tests) in
            let above : c ≤ end = grind (arith, nat_tests) in
            absurd (both_ways _ (apart-within start end c (forbidden t) (no_syntax _ fine) below above) forbidden_here)

-- a script above the one before it
pub order_fault-none : (last : Option ℕ) (v n : ℕ) → v ≡ n → is_not_above last v ≡ false → order_fault last n ≡ None
unfolding order_fault
order_fault-none last v n same above = ap (λ (b : Bool). cond b (Some ExtensionOrder) None) (ap (is_not_above last) (sym same) ∙ above)
