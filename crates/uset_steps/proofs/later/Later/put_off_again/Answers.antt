use Rattle.std.proofs.Common.{refl, arith}
use Rattle.std.proofs.lemmas.Option.{slice_get_within}
use Rattle.uset_steps.proofs.KeptLemmas.{gathers, kept_before, none_within}
use Rattle.uset_steps.proofs.later.Later.put_off_again.Goals as goal

pub returns-in_ok-push-clause-gathers : goal.returns-in_ok-push-clause-gathers
returns-in_ok-push-clause-gathers c = λ sets name set fits at stands.
    gathers sets c.args.operation name set c.args.place c.args.self.now c.args.self.now _ fits (kept_before sets name c.args.self.now c.args.place at) stands refl refl refl c.in_ok-push.ensures.items

pub returns-in_ok-push-clause-elsewhere : goal.returns-in_ok-push-clause-elsewhere
returns-in_ok-push-clause-elsewhere c = λ none.
    let sets = c.args.self.now.sets in
    absurd (none_within sets.items c.args.place (omega (arith, c.if-place-len.true, c.len.ensures, sets.ok.0)) none)

pub returns-else-place-len-clause-gathers : goal.returns-else-place-len-clause-gathers
returns-else-place-len-clause-gathers c = λ sets name set fits at stands.
    let all = c.args.self.now.sets in
    let kept = fits.kept name c.args.place at in
    let below = slice_get_within all.items c.args.place kept.0 kept.1 in
    absurd (omega (arith, c.if-place-len.false, c.len.ensures, all.ok.0, below))
