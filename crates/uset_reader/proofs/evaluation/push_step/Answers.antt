use Rattle.std.proofs.Common.{sym, ◌∙◌}
use Rattle.uset_reader.proofs.EvaluationLemmas.{pushed_plain, pushed_complement}
use Rattle.uset_reader.proofs.evaluation.push_step.Goals as goal

pub returns-in_ok-push-2 : goal.returns-in_ok-push-2
returns-in_ok-push-2 c =
    pushed_complement c.args.found.now c.args.all.now.items c.args.step c.push.new.self.items c.push-then-puts_complement.new.self.items c.in_ok-push.ensures.items c.in_ok-push-2.ensures.items (sym c.puts_complement.ensures ∙ c.if-puts_complement.true)

pub returns-else-puts_complement : goal.returns-else-puts_complement
returns-else-puts_complement c = pushed_plain c.args.found.now c.args.all.now.items c.args.step c.push.new.self.items c.in_ok-push.ensures.items (sym c.puts_complement.ensures ∙ c.if-puts_complement.false)
