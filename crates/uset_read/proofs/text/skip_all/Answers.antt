use Rattle.std.proofs.Common.{◌++◌, encode_utf8, sym, ap, ◌∙◌, append_assoc, rules, arith}
use Rattle.uset_read.proofs.text.skip_all.Goals as goal

pub loop-c-preserved : goal.loop-c-preserved
loop-c-preserved c =
    let front = c.loop-c.invariant.2 in (
      search rules,
      search rules,
      (front.0 ++ encode_utf8 c.in-Some.c, front.1 ∙ (ap (λ z. front.0 ++ z) c.in-Some.ensures.bytes ∙ sym (append_assoc front.0 (encode_utf8 c.in-Some.c) c.in-Some.behind.now))),
      omega (arith, c.in-Some.ensures.shorter),
      omega (arith, c.in-Some.ensures.fewer),
    )
