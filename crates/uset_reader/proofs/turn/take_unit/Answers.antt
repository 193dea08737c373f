use Rattle.std.proofs.Common.{sym, ap, ◌∙◌}
use Rattle.uset_fault.specs.Errors.{kind_told}
use Rattle.uset_reader.specs.Syntaxes.{language_seen}
use Rattle.uset_reader.proofs.TurnLemmas.{takes_stopped, takes_last, takes_unit}
use Rattle.uset_reader.proofs.turn.take_unit.Goals as goal

pub returns-in-Err-clause-takes : goal.returns-in-Err-clause-takes
returns-in-Err-clause-takes c =
    takes_stopped c.turns.ensures.places c.arranging.ensures (language_seen c.args.syntax.now) c.args.cursor c.args.bracket.now c.args.text.now c.fits_several-several.result c.fits_several-several.ensures
    c.in-Err.stop c.stopped.result c.in-Err.ensures.stopped c.stopped.ensures

pub returns-then-is_last_property-clause-takes : goal.returns-then-is_last_property-clause-takes
returns-then-is_last_property-clause-takes c =
    takes_last c.turns.ensures.places c.arranging.ensures (language_seen c.args.syntax.now) c.args.cursor c.args.bracket.now c.args.text.now c.fits_several-several.result c.fits_several-several.ensures
    c.in-Ok.read.0 c.in-Ok.read.1.now c.in-Ok.ensures.read c.into.result (λ i h. sym (c.is_last_property.ensures (language_seen c.args.syntax.now) c.args.bracket.now.gathered i h) ∙ c.if-is_last_property.true) (ap kind_told c.into.ensures.0) c.into.ensures.1

pub returns-clause-takes : goal.returns-clause-takes
returns-clause-takes c =
    takes_unit c.turns.ensures.places c.arranging.ensures (language_seen c.args.syntax.now) c.args.cursor c.args.bracket.now c.args.text.now c.fits_several-several.result c.fits_several-several.ensures
    c.in-Ok.read.0 c.in-Ok.read.1.now c.in-Ok.ensures.read c.take.new.bracket c.take.result (c.turns.ensures.behind (language_seen c.args.syntax.now))
    (λ i h. sym (c.is_last_property.ensures (language_seen c.args.syntax.now) c.args.bracket.now.gathered i h) ∙ c.if-is_last_property.false) c.take.ensures.takes
