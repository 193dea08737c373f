use Rattle.std.proofs.Common.{sym, ◌∙◌}
use Rattle.cp_strset.proofs.SoleChar.{sole_of-one, sole_of-more}
use Rattle.cp_strset.proofs.sole_char.Goals as goal

pub returns-in-None : goal.returns-in-None
returns-in-None c =
    sole_of-one c.args.text.now _ _ c.utf8.text (sym c.chars-chars.ensures.rest ∙ c.in_ok-first.ensures.steps.0) c.in-None.ensures.steps.0.0

pub returns-in-Some : goal.returns-in-Some
returns-in-Some c =
    sole_of-more c.args.text.now _ _ _ _ c.utf8.text (sym c.chars-chars.ensures.rest ∙ c.in_ok-first.ensures.steps.0) c.in-Some.ensures.steps.0
