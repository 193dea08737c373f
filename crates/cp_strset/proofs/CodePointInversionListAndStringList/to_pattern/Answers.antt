use Rattle.std.proofs.Common.{subst, arith}
use Rattle.std.proofs.lemmas.Grind.{common_steps}
use Rattle.cp_invlist.specs.InversionList.{contains}
use Rattle.cp_invlist.specs.Ranges.{AreMaximalRanges}
use Rattle.cp_strset.proofs.Printable.{pattern_printable}
use Rattle.cp_strset.proofs.CodePointInversionListAndStringList.to_pattern.Goals as goal

pub returns-clause-pattern : goal.returns-clause-pattern
returns-clause-pattern c = record {
  ranges = c.iter_ranges.result;
  maximal = subst (λ s. AreMaximalRanges (contains s.code_points) c.iter_ranges.result) c.self.view_is c.iter_ranges.ensures.maximal;
  is = grind (arith, common_steps);
}

pub returns-clause-printable : goal.returns-clause-printable
returns-clause-printable c = pattern_printable c.args.self.now _ (returns-clause-pattern c)
