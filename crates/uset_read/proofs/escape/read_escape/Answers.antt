use Rattle.std.specs.Prelude.{⊤}
use Rattle.std.proofs.Common.{subst}
use Rattle.std.proofs.lemmas.Result.{MatchResult-weaker}
use Rattle.std.specs.Str.{chars}
use Rattle.cp_invlist.specs.InversionList.{contains}
use Rattle.uset_grammar.specs.EscapeSlips.{EscapeOutcome}
use Rattle.uset_grammar.specs.Parts.{TellsOutcome}
use Rattle.uset_read.specs.Spelled.{around_seen, letters_at, EscapeIs, EscapeStops}
use Rattle.uset_read.proofs.FirstCharacter.{begins_with}
use Rattle.uset_read.proofs.Told.{told_stop}
use Rattle.uset_read.proofs.escape.read_escape.Goals as goal

pub returns-clause-read : goal.returns-clause-read
returns-clause-read c =
    MatchResult-weaker c.read_letter.result {P' = λ p. EscapeIs c.args.white_space.now c.args.around c.args.text.now p.0 p.1.now} {Q' = λ _. ⊤} c.read_letter.ensures.parts
    (λ p h apart inner e. subst (TellsOutcome (EscapeOutcome (contains c.args.white_space.now) (around_seen c.args.around) (chars c.args.text.now)) (chars c.args.text.now)) h
    (c.units_by_parts.ensures.escapes (contains c.args.white_space.now) apart (around_seen c.args.around) (chars c.args.text.now) (chars c.in_ok-inner.inner.now)
    (begins_with _ _ inner _ _ c.in_ok-inner.ensures.parts e)))
    (λ _ _. tt)

pub returns-clause-stopped : goal.returns-clause-stopped
returns-clause-stopped c =
    MatchResult-weaker c.read_letter.result {P' = λ _. ⊤} {Q' = EscapeStops c.args.white_space.now c.args.around c.args.text.now} c.read_letter.ensures.parts (λ _ _. tt)
    (λ stop h apart inner e. told_stop (EscapeOutcome (contains c.args.white_space.now) (around_seen c.args.around) (chars c.args.text.now)) (chars c.args.text.now)
    (letters_at c.args.white_space.now c.args.around c.args.text.now c.in_ok-inner.inner.now) stop
    (c.units_by_parts.ensures.escapes (contains c.args.white_space.now) apart (around_seen c.args.around) (chars c.args.text.now) (chars c.in_ok-inner.inner.now)
    (begins_with _ _ inner _ _ c.in_ok-inner.ensures.parts e)) h)
