use Rattle.std.proofs.Common.{ap, ◌∙◌, map}
use Rattle.std.proofs.lemmas.List.{take_all}
use Rattle.cp_strset_terms.proofs.PushedLemmas.{seen_taken}
use Rattle.cp_strset_terms.proofs.members.references.Goals as goal

pub loop-set-init : goal.loop-set-init
loop-set-init c = ap (map (λ set. set.now)) c.in_ok-references.ensures.items

pub loop-set-preserved : goal.loop-set-preserved
loop-set-preserved c =
    seen_taken (λ set. set.now) c.loop-set.references.items c.push.new.self.items _ c.args.sets.now c.loop-set.set-index c.set-item.result
    c.loop-set-test.true c.in_ok-push.ensures.items c.set-item.is c.loop-set.invariant

pub returns : goal.returns
returns c = c.loop-set.invariant ∙ take_all c.loop-set.set-index c.args.sets.now c.loop-set-test.false
