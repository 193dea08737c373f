use Rattle.std.proofs.Common.{refl, ap, ◌∙◌}
use Rattle.uset_steps.specs.Steps.{steps_done}
use Rattle.uset_steps.proofs.StepsLemmas.{done_more, none_named}
use Rattle.uset_steps.proofs.KeptLemmas.{fits_more}
use Rattle.uset_steps.proofs.later.Later.put_off.Goals as goal

pub returns-clause-members : goal.returns-clause-members
returns-clause-members c = λ meant m b.
    let sets = c.args.self.now.sets.items in
    let ss = c.args.self.now.steps.items in
    ap (λ xs. steps_done meant sets xs m b) c.in_ok-push.ensures.items
    ∙ (done_more meant sets ss c.args.step m b ∙ none_named meant sets c.args.step m (steps_done meant sets ss m b) c.requires)

pub returns-clause-names : goal.returns-clause-names
returns-clause-names c = λ sets fits. fits_more sets c.args.self.now _ c.args.step refl refl c.in_ok-push.ensures.items c.requires fits
