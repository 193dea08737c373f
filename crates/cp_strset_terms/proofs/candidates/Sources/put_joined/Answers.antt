use Rattle.std.proofs.Common.{refl, reverse}
use Rattle.cp_strset_terms.specs.declared.candidates.Source.{Source}
use Rattle.cp_strset_terms.proofs.CandidatesLemmas.{covered_joined, reverse-push}
use Rattle.cp_strset_terms.proofs.candidates.Sources.put_joined.Goals as goal

pub returns : goal.returns
returns c = λ v a b c' stack covered either.
    let joined : Source = record { start = c.args.lower.start; strings = c.saturating_add-strings.result } in
    rw (reverse-push c.push.new.self.items c.args.self.now.stack.items joined c.in_ok-push.ensures.items)
    (covered_joined v c.args.self.now.indices.items c.args.upper c.args.lower joined (reverse c.args.self.now.stack.items) a b c' stack refl covered either)
