use Rattle.std.proofs.Common.{◌≡◌, not, sym, ap, ◌∙◌, subst}
use Rattle.std.proofs.Math.Bool.{beq}
use Rattle.cp_invlist.specs.InversionList.{has_even_length}
use Rattle.cp_terms.specs.Changes.{TellBelow}
use Rattle.cp_terms.proofs.ChangesLemmas.{is_inside-push, tell_push, tell_kept, turns, stays}
use Rattle.cp_terms.proofs.changes.Changes.turn.Goals as goal

-- it was inside where it is to be outside, or the other way round
turned : (c : goal.In_ok-push) → has_even_length c.args.self.now ≡ c.args.inside
turned c = turns (has_even_length c.args.self.now) c.args.inside (ap (λ b. not (beq b c.args.inside)) (sym c.is_inside.ensures) ∙ c.if-is_inside-inside.true)

pub returns-in_ok-push-clause-inside : goal.returns-in_ok-push-clause-inside
returns-in_ok-push-clause-inside c = ap (λ xs. not (has_even_length xs)) c.in_ok-push.ensures ∙ is_inside-push c.args.self.now c.args.place c.args.inside (turned c)

pub returns-in_ok-push-clause-members : goal.returns-in_ok-push-clause-members
returns-in_ok-push-clause-members c = λ m end tell constant.
    subst (TellBelow m end) (sym c.in_ok-push.ensures) (tell_push m c.args.place end c.args.inside c.args.self.now c.requires.before (turned c) tell constant)

-- it is as it is to be
kept : (c : goal.Else-is_inside-inside) → not (has_even_length c.args.self.now) ≡ c.args.inside
kept c = stays (has_even_length c.args.self.now) c.args.inside (ap (λ b. not (beq b c.args.inside)) (sym c.is_inside.ensures) ∙ c.if-is_inside-inside.false)

pub returns-else-is_inside-inside-clause-inside : goal.returns-else-is_inside-inside-clause-inside
returns-else-is_inside-inside-clause-inside c = kept c

pub returns-else-is_inside-inside-clause-members : goal.returns-else-is_inside-inside-clause-members
returns-else-is_inside-inside-clause-members c = λ m end tell constant. tell_kept m c.args.place end c.args.inside c.args.self.now c.requires.before (kept c) tell constant
