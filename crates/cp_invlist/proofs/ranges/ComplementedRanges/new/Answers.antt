use Rattle.std.proofs.Common.{arith}
use Rattle.cp_invlist.proofs.GapsLemmas.{gaps-behind_none, gaps-behind_zero, gaps-maximal, gaps-behind_first}
use Rattle.cp_invlist.proofs.ranges.ComplementedRanges.new.Goals as goal

pub invariant_of-result : goal.invariant_of-result
invariant_of-result c = gaps-behind_none c.args.elements.now c.requires c.in_default.len_below

pub returns-then-first-gt0 : goal.returns-then-first-gt0
returns-then-first-gt0 c = gaps-maximal c.args.elements.now (gaps-behind_zero c.args.elements.now c.requires (λ some. c.if-first-gt0.true))

pub returns : goal.returns
returns c = (gaps-behind_first c.args.elements.now c.requires c.in-len2-up.len_at_least (omega arith)).1
