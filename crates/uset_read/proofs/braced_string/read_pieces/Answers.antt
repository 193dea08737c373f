use Rattle.std.proofs.Common.{◌≡◌, true, false, sym, ap, ◌∙◌, rules, arith}
use Rattle.std.specs.String.{string_bytes}
use Rattle.uset_read.specs.Spelled.{spelled_seen}
use Rattle.uset_read.specs.Pieces.{piece_seen}
use Rattle.uset_read.proofs.PiecesRead.{nothing_yet, piece_stops, piece_closes, piece_skips, piece_adds, piece_is_allowed}
use Rattle.uset_read.proofs.braced_string.read_pieces.Goals as goal

pub loop-string-init : goal.loop-string-init
loop-string-init c = (search rules, omega arith, nothing_yet _ _ _ c.utf8.text c.new-string.ensures.bytes)

pub returns-in_err-behind-clause-stopped : goal.returns-in_err-behind-clause-stopped
returns-in_err-behind-clause-stopped c =
    let h = piece_stops c.args.white_space.now c.args.text.now (string_bytes c.loop-string.string) c.loop-string.rest.now c.loop-string.invariant.2 c.in_err-behind.field-0.0 c.in_err-behind.ensures.parts in
    search rules

pub returns-in-Closed-clause-read : goal.returns-in-Closed-clause-read
returns-in-Closed-clause-read c =
    piece_closes c.args.white_space.now c.args.text.now (string_bytes c.loop-string.string) c.loop-string.rest.now c.loop-string.invariant.2 c.in-Closed.behind.now
    (c.in_ok-behind.ensures.parts ∙ ap piece_seen c.in-Closed.is)

pub loop-string-preserved-in-Space : goal.loop-string-preserved-in-Space
loop-string-preserved-in-Space c =
    let shorter = rw c.in-Space.is at c.in_ok-behind.ensures.shorter in (
      search rules,
      omega (arith, shorter, c.loop-string.invariant.1),
      piece_skips c.args.white_space.now c.args.text.now (string_bytes c.loop-string.string) c.loop-string.rest.now c.loop-string.invariant.2 c.in-Space.behind.now shorter
          (c.in_ok-behind.ensures.parts ∙ ap piece_seen c.in-Space.is),
    )

pub returns-then-not-branch-clause-stopped : goal.returns-then-not-branch-clause-stopped
returns-then-not-branch-clause-stopped c = λ apart.
    let refused : c.in_ok-push_spelled-in-Spelled.field-0 ≡ false = search rules in
    absurd (piece_is_allowed c.args.white_space.now c.args.text.now (string_bytes c.loop-string.string) c.loop-string.rest.now c.loop-string.invariant.2 c.units_by_parts.ensures.escapes c.in-Spelled.behind.now
    (spelled_seen c.in-Spelled.spelled) (c.in_ok-behind.ensures.parts ∙ ap piece_seen c.in-Spelled.is) (sym c.in_ok-push_spelled-in-Spelled.ensures.characters ∙ refused) apart)

pub loop-string-preserved-else-not-branch : goal.loop-string-preserved-else-not-branch
loop-string-preserved-else-not-branch c =
    let shorter = rw c.in-Spelled.is at c.in_ok-behind.ensures.shorter in
    let pushed : c.in_ok-push_spelled-in-Spelled.field-0 ≡ true = search rules in (
      search rules,
      omega (arith, shorter, c.loop-string.invariant.1),
      piece_adds c.args.white_space.now c.args.text.now (string_bytes c.loop-string.string) c.loop-string.rest.now c.loop-string.invariant.2 (string_bytes c.push_spelled.new.string) c.in-Spelled.behind.now
          (spelled_seen c.in-Spelled.spelled) shorter (c.in_ok-behind.ensures.parts ∙ ap piece_seen c.in-Spelled.is) (c.in_ok-push_spelled-in-Spelled.ensures.appended pushed),
    )

pub loop-string-preserved : goal.loop-string-preserved
loop-string-preserved c =
    let shorter = rw c.in-Spelled.is at c.in_ok-behind.ensures.shorter in
    let pushed : c.in_ok-push_spelled-in-Spelled.field-0 ≡ true = search rules in (
      search rules,
      omega (arith, shorter, c.loop-string.invariant.1),
      piece_adds c.args.white_space.now c.args.text.now (string_bytes c.loop-string.string) c.loop-string.rest.now c.loop-string.invariant.2 (string_bytes c.push_spelled.new.string) c.in-Spelled.behind.now
          (spelled_seen c.in-Spelled.spelled) shorter (c.in_ok-behind.ensures.parts ∙ ap piece_seen c.in-Spelled.is) (c.in_ok-push_spelled-in-Spelled.ensures.appended pushed),
    )
