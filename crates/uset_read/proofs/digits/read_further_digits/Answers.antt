use Rattle.std.proofs.Common.{rules, arith, refl, ◌∙◌}
use Rattle.uset_read.proofs.DigitBounds.{below_next, next_digit, last_digit, no_digit}
use Rattle.uset_read.proofs.digits.read_further_digits.Goals as goal

pub returns-in_default-clause-parts : goal.returns-in_default-clause-parts
returns-in_default-clause-parts c = rw (c.loop-c.invariant.4, c.in_ok-c.ensures.parts, no_digit _ _ _ _ c.in_default.ensures.value) refl

pub returns-then-left-eq1-clause-parts : goal.returns-then-left-eq1-clause-parts
returns-then-left-eq1-clause-parts c =
    let few = rw c.in-Some.ensures.value.1 at c.if-number-gt1114111.false in
    rw (c.loop-c.invariant.4, c.in_ok-c.ensures.parts, c.if-left-eq1.true, last_digit _ _ _ c.in-Some.ensures.value.0 few, ← c.in-Some.ensures.value.1) refl

pub loop-c-preserved : goal.loop-c-preserved
loop-c-preserved c = (
  search rules,
  omega (arith, c.in_ok-c.ensures.shorter),
  omega (arith, c.in_ok-c.ensures.fewer),
  rw c.in-Some.ensures.value.1 (below_next _ _ _ c.in-Some.ensures.value.0 c.if-left-eq1.false c.loop-c.invariant.3),
  c.loop-c.invariant.4 ∙ rw (c.in_ok-c.ensures.parts, c.in-Some.ensures.value.1) (next_digit _ _ _ _ c.in-Some.ensures.value.0 c.if-left-eq1.false),
)
