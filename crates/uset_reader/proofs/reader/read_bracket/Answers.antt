use Rattle.std.proofs.Common.{◌∙◌, subst, Ok}
use Rattle.uset_read.specs.Cursors.{source_of, left_of}
use Rattle.uset_reader.specs.Syntaxes.{language_seen}
use Rattle.uset_reader.specs.Readings.{IsRefusal}
use Rattle.uset_reader.specs.Turns.{Turns}
use Rattle.uset_reader.specs.declared.turn.Progress.TheVariants.{GoesOn, Done}
use Rattle.uset_reader.proofs.PropertyLemmas.{answered_err}
use Rattle.uset_reader.proofs.ReaderLemmas.{begins, goes_on, is_read, is_refused}
use Rattle.uset_reader.proofs.reader.read_bracket.Goals as goal

pub loop-bracket-init : goal.loop-bracket-init
loop-bracket-init c =
    let s = c.args.syntax.now in
    let start = begins c.turns.ensures.units c.turns.ensures.means c.turns.ensures.last c.turns.ensures.onward s c.args.source.now c.args.opening c.args.inner.now c.in_ok-bracket.bracket c.requires.begins c.in_ok-bracket.ensures in (
      c.at-place.ensures.source ∙ c.new.ensures.source,
      rw (c.at-place.ensures.left, c.new-outer.ensures.items) start,
      c.requires.known,
    )

pub loop-bracket-preserved : goal.loop-bracket-preserved
loop-bracket-preserved c =
    let s = c.args.syntax.now in
    let here = c.loop-bracket.invariant.0 in (
      c.at-place-in-GoesOn.ensures.source ∙ here,
      rw c.at-place-in-GoesOn.ensures.left (goes_on c.turns.ensures.units c.turns.ensures.means c.turns.ensures.last c.turns.ensures.onward s c.args.source.now (left_of c.loop-bracket.place) c.loop-bracket.outer.items c.loop-bracket.bracket
          c.loop-bracket.invariant.1 c.turn.new.outer.items c.turn.new.bracket c.in-GoesOn.rest (subst (λ z. Turns (language_seen s) z (left_of c.loop-bracket.place) c.loop-bracket.outer.items c.loop-bracket.bracket c.turn.new.outer.items c.turn.new.bracket (Ok (GoesOn c.in-GoesOn.rest))) here
          (subst (λ p. Turns (language_seen s) (source_of c.loop-bracket.place) (left_of c.loop-bracket.place) c.loop-bracket.outer.items c.loop-bracket.bracket c.turn.new.outer.items c.turn.new.bracket (Ok p)) c.in-GoesOn.is c.in_ok-progress.ensures.turns))),
      c.in_ok-progress.ensures.same ∙ c.loop-bracket.invariant.2,
    )

pub returns-in-Done-clause-read : goal.returns-in-Done-clause-read
returns-in-Done-clause-read c =
    let s = c.args.syntax.now in
    let here = c.loop-bracket.invariant.0 in
    rw c.into_inner.ensures (is_read c.turns.ensures.units c.turns.ensures.means c.turns.ensures.last c.turns.ensures.onward s c.args.source.now (left_of c.loop-bracket.place) c.loop-bracket.outer.items c.loop-bracket.bracket c.loop-bracket.invariant.1
    c.turn.new.outer.items c.turn.new.bracket c.in-Done.set c.in-Done.rest c.at.result (subst (λ z. Turns (language_seen s) z (left_of c.loop-bracket.place) c.loop-bracket.outer.items c.loop-bracket.bracket c.turn.new.outer.items c.turn.new.bracket (Ok (Done c.in-Done.set c.in-Done.rest))) here
    (subst (λ p. Turns (language_seen s) (source_of c.loop-bracket.place) (left_of c.loop-bracket.place) c.loop-bracket.outer.items c.loop-bracket.bracket c.turn.new.outer.items c.turn.new.bracket (Ok p)) c.in-Done.is c.in_ok-progress.ensures.turns)) (c.at.ensures.source ∙ here) c.at.ensures.left)

pub returns-in_err-progress-clause-refused : goal.returns-in_err-progress-clause-refused
returns-in_err-progress-clause-refused c =
    let s = c.args.syntax.now in
    let here = c.loop-bracket.invariant.0 in
    let error = c.in_err-progress.field-0.0 in
    answered_err c.from_residual-in_err-progress.result error (IsRefusal (language_seen s) c.args.source.now) c.from_residual-in_err-progress.ensures
    (is_refused c.turns.ensures.units c.turns.ensures.means c.turns.ensures.last c.turns.ensures.onward s c.args.source.now (left_of c.loop-bracket.place) c.loop-bracket.outer.items c.loop-bracket.bracket c.loop-bracket.invariant.1
    c.turn.new.outer.items c.turn.new.bracket error (rw here at c.in_err-progress.ensures.turns))
