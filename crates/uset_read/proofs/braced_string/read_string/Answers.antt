use Rattle.std.proofs.Common.{suc, length, [], subst, arith}
use Rattle.std.specs.Str.{chars}
use Rattle.std.specs.String.{string_bytes}
use Rattle.std.proofs.lemmas.Result.{IfOk-weaker, IfErr-weaker}
use Rattle.cp_invlist.specs.InversionList.{contains}
use Rattle.uset_grammar.specs.BracedString.{StringOutcome}
use Rattle.uset_grammar.specs.Parts.{TellsOutcome}
use Rattle.uset_grammar.specs.StringParts.{pieces_in}
use Rattle.uset_read.specs.Pieces.{PiecesAre, PiecesStop, StringIs, StringStops}
use Rattle.uset_read.proofs.FirstCharacter.{begins_with}
use Rattle.uset_read.proofs.Told.{told_stop}
use Rattle.uset_read.proofs.braced_string.read_string.Goals as goal

pub returns-clause-read : goal.returns-clause-read
returns-clause-read c =
    IfOk-weaker c.read_pieces.result (λ p. PiecesAre c.args.white_space.now c.in_ok-inner.inner.now (string_bytes p.0) p.1.now) (λ p. StringIs c.args.white_space.now c.args.text.now (string_bytes p.0) p.1.now)
    (λ p h apart inner e.
    let parts = begins_with (chars c.args.text.now) (chars c.in_ok-inner.inner.now) inner c.in_ok-inner.field-0-0 0x7B c.in_ok-inner.ensures.parts e in
    let few = h.few in (
      h.pieces,
      subst (TellsOutcome (StringOutcome (contains c.args.white_space.now) (chars c.args.text.now)) (chars c.args.text.now)) h.read
          (c.units_by_parts.ensures.strings (contains c.args.white_space.now) apart (suc (length c.in_ok-inner.inner.now)) (chars c.args.text.now) (chars c.in_ok-inner.inner.now) parts (omega (arith, few))),
      h.characters,
    )) c.read_pieces.ensures.read

pub returns-clause-stopped : goal.returns-clause-stopped
returns-clause-stopped c =
    IfErr-weaker c.read_pieces.result (PiecesStop c.args.white_space.now c.in_ok-inner.inner.now) (StringStops c.args.white_space.now c.args.text.now)
    (λ stop h apart inner e.
    let parts = begins_with (chars c.args.text.now) (chars c.in_ok-inner.inner.now) inner c.in_ok-inner.field-0-0 0x7B c.in_ok-inner.ensures.parts e in
    let few = (h apart).1 in
    told_stop (StringOutcome (contains c.args.white_space.now) (chars c.args.text.now)) (chars c.args.text.now)
    (pieces_in (contains c.args.white_space.now) (suc (length c.in_ok-inner.inner.now)) [] (chars c.in_ok-inner.inner.now)) stop
    (c.units_by_parts.ensures.strings (contains c.args.white_space.now) apart (suc (length c.in_ok-inner.inner.now)) (chars c.args.text.now) (chars c.in_ok-inner.inner.now) parts (omega (arith, few)))
    (h apart).0) c.read_pieces.ensures.stopped
