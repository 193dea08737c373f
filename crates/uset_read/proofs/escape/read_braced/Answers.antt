use Rattle.std.proofs.Common.{length, ◌∷◌, ap, ◌∙◌, ◌<◌, rules, arith, lt_trans, lt_of_lt_of_le}
use Rattle.std.specs.Str.{chars}
use Rattle.cp_invlist.specs.InversionList.{contains}
use Rattle.uset_read.specs.Spelled.{around_seen, next_seen}
use Rattle.uset_grammar.specs.EscapeParts.{braced_in}
use Rattle.uset_read.proofs.Bounds.{of_rest}
use Rattle.uset_read.proofs.NumbersInBraces.{first_stops, first_goes, next_stops, next_closes, next_goes}
use Rattle.uset_read.proofs.escape.read_braced.Goals as goal

pub returns-in_err-first-clause-parts : goal.returns-in_err-first-clause-parts
returns-in_err-first-clause-parts c =
    let skipped = c.skip_white_space.ensures.skipped in
    let h = first_stops (contains c.args.white_space.now) (around_seen c.args.around) (chars c.args.begin.now) (chars c.args.text.now) _ (rw skipped at c.in_err-first.ensures.parts) in
    search rules

pub loop-more-init : goal.loop-more-init
loop-more-init c =
    let skipped = c.skip_white_space.ensures.skipped in
    let h = first_goes (contains c.args.white_space.now) (around_seen c.args.around) (chars c.args.begin.now) (chars c.args.text.now) _ _ (rw skipped at c.in_ok-first.ensures.parts) in (
      search rules,
      lt_of_lt_of_le c.in_ok-first.ensures.shorter c.skip_white_space.ensures.within,
      omega (arith, c.in_ok-first.ensures.fewer, c.skip_white_space.ensures.no_more),
      (length (chars c.args.text.now), omega (arith, c.in_ok-first.ensures.fewer, c.skip_white_space.ensures.no_more), rw c.new-more.ensures.items h),
    )

pub returns-in_err-behind-clause-parts : goal.returns-in_err-behind-clause-parts
returns-in_err-behind-clause-parts c =
    let at = c.loop-more.invariant.3 in
    let h = next_stops (contains c.args.white_space.now) (around_seen c.args.around) (chars c.args.begin.now) at.0 (c.in_ok-first.first ∷ c.loop-more.more.items) (chars c.loop-more.rest.now)
    (braced_in (contains c.args.white_space.now) (around_seen c.args.around) (chars c.args.begin.now) (chars c.args.text.now)) c.in_err-behind.field-0.0 at.2 at.1 (rw c.deref.ensures.value at c.in_err-behind.ensures.parts) in
    search rules

pub returns-in-Closed-clause-parts : goal.returns-in-Closed-clause-parts
returns-in-Closed-clause-parts c =
    let at = c.loop-more.invariant.3 in
    let parts = rw c.deref.ensures.value at (c.in_ok-behind.ensures.parts ∙ ap next_seen c.in-Closed.is) in
    let h = next_closes (contains c.args.white_space.now) (around_seen c.args.around) (chars c.args.begin.now) at.0 (c.in_ok-first.first ∷ c.loop-more.more.items) (chars c.loop-more.rest.now)
    (chars c.in-Closed.behind.now) (braced_in (contains c.args.white_space.now) (around_seen c.args.around) (chars c.args.begin.now) (chars c.args.text.now)) at.2 at.1 parts in
    rw h c.end_numbers.ensures.parts

pub returns-in-Closed-clause-shorter : goal.returns-in-Closed-clause-shorter
returns-in-Closed-clause-shorter c =
    let shorter = rw c.in-Closed.is at c.in_ok-behind.ensures.shorter in
    of_rest (λ t. length t < length c.args.text.now) _ _ (lt_trans shorter c.loop-more.invariant.1) c.end_numbers.ensures.rest

pub returns-in-Closed-clause-fewer : goal.returns-in-Closed-clause-fewer
returns-in-Closed-clause-fewer c =
    let fewer = rw c.in-Closed.is at c.in_ok-behind.ensures.fewer in
    of_rest (λ t. length (chars t) < length (chars c.args.text.now)) _ _ (lt_trans fewer c.loop-more.invariant.2) c.end_numbers.ensures.rest

pub loop-more-preserved : goal.loop-more-preserved
loop-more-preserved c =
    let at = c.loop-more.invariant.3 in
    let parts = rw c.deref.ensures.value at (c.in_ok-behind.ensures.parts ∙ ap next_seen c.in-Number.is) in
    let shorter = rw c.in-Number.is at c.in_ok-behind.ensures.shorter in
    let fewer = rw c.in-Number.is at c.in_ok-behind.ensures.fewer in
    let h = next_goes (contains c.args.white_space.now) (around_seen c.args.around) (chars c.args.begin.now) at.0 c.in-Number.number (c.in_ok-first.first ∷ c.loop-more.more.items) (chars c.loop-more.rest.now)
    (chars c.in-Number.behind.now) (braced_in (contains c.args.white_space.now) (around_seen c.args.around) (chars c.args.begin.now) (chars c.args.text.now)) at.2 at.1 parts fewer in
    (search rules, lt_trans shorter c.loop-more.invariant.1, lt_trans fewer c.loop-more.invariant.2, (h.0, h.1, rw c.in_ok-push-in-Number.ensures.items h.2))
