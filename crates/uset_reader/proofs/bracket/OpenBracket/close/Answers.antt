use Rattle.std.proofs.Common.{ap, ◌∙◌}
use Rattle.uset_steps.specs.Gathering.{gathering_in, closed}
use Rattle.uset_reader.specs.Named.{sets_of}
use Rattle.uset_reader.proofs.BracketLemmas.{closes}
use Rattle.uset_reader.proofs.bracket.OpenBracket.close.Goals as goal

pub returns : goal.returns
returns c = λ l o s.
    closes l c.args.self o c.add_last.new.self.gathered c.in_ok-close.field-0 _ s c.if-not-branch.false c.in_ok-add_last.ensures.ended
    (λ fits m. c.in_ok-close.ensures (sets_of l) fits m ∙ ap (λ o. closed o.negated m (gathering_in (sets_of l) c.add_last.new.self.gathered m)) c.add_last.ensures.same.opening)
