-- A number of at most six digits while some of them are still to come.
use Rattle.std.proofs.Common.{◌≡◌, ◌<◌, ◌≤◌, ℕ, ◌+◌, ◌*◌, ◌-◌, ◌∷◌, inl, inr, arith}
use Rattle.std.specs.Char.{digit_value}
use Rattle.std.proofs.lemmas.Bool.{lt-ltb, le-ltb, ne_eqb}
use mathlib.Core.Logic.{◌⊎◌}
use Rattle.uset_grammar.specs.Text.{Text}
use Rattle.uset_grammar.specs.Outcome.{got}
use Rattle.uset_grammar.specs.Escape.{is_hex, is_above}
use Rattle.uset_grammar.specs.EscapeParts.{further_digits_in}

-- how great it is while so many are to come
abbrev pub BelowFor : ℕ → ℕ → Type 0
BelowFor left number =
    ((left ≡ 5) × (number < 0x10)) ⊎ (((left ≡ 4) × (number < 0x100)) ⊎ (((left ≡ 3) × (number < 0x1000))
    ⊎ (((left ≡ 2) × (number < 0x10000)) ⊎ ((left ≡ 1) × (number < 0x100000)))))

pub below_next : (left n d : ℕ) → d < 16 → (left ≡ 1 → ⊥) → BelowFor left n → BelowFor (left - 1) (n * 16 + d)
below_next left n d h more (inl b) = inr (inl (omega arith, omega arith))
below_next left n d h more (inr (inl b)) = inr (inr (inl (omega arith, omega arith)))
below_next left n d h more (inr (inr (inl b))) = inr (inr (inr (inl (omega arith, omega arith))))
below_next left n d h more (inr (inr (inr (inl b)))) = inr (inr (inr (inr (omega arith, omega arith))))
below_next left n d h more (inr (inr (inr (inr b)))) = absurd (more b.0)

-- a digit that is not the last
pub next_digit : (left n c : ℕ) (t : Text) → digit_value c < 16 → (left ≡ 1 → ⊥) →
    further_digits_in left n (c ∷ t) ≡ further_digits_in (left - 1) (n * 16 + digit_value c) t
unfolding is_hex
next_digit left n c t h more = rw (lt-ltb _ _ h, ne_eqb _ _ more)

pub last_digit : (n c : ℕ) (t : Text) → digit_value c < 16 → n * 16 + digit_value c ≤ 0x10FFFF →
    further_digits_in 1 n (c ∷ t) ≡ got (n * 16 + digit_value c) t
unfolding is_hex is_above
last_digit n c t h few = rw (lt-ltb _ _ h, le-ltb _ _ few)

pub no_digit : (left n c : ℕ) (t : Text) → (digit_value c < 16 → ⊥) → further_digits_in left n (c ∷ t) ≡ got n (c ∷ t)
unfolding is_hex
no_digit left n c t h = let above : 16 ≤ digit_value c = omega arith in rw (le-ltb _ _ above)
