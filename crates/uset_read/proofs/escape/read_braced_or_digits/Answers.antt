use Rattle.uset_read.proofs.escape.read_braced_or_digits.Goals as goal

pub returns-then-c-eq123-clause-parts : goal.returns-then-c-eq123-clause-parts
returns-then-c-eq123-clause-parts c = rw (c.in_ok-c.ensures.parts, c.if-c-eq123.true) c.read_braced.ensures.parts
