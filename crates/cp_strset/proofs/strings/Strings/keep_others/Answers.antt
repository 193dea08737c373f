use Rattle.std.proofs.Common.{ℕ, Bool, List, rules, not, ap, ◌∙◌}
use Rattle.std.proofs.lemmas.Fn.{filter_same}
use Rattle.std.specs.BTreeSet.{contains_text}
use Rattle.cp_strset.proofs.StringsLemmas.{spelled_in, kept_spelled, none_of_one_kept}
use Rattle.cp_strset.proofs.strings.Strings.keep_others.Goals as goal

pub returns : goal.returns
returns c = rw (← c.self.view_is) (λ bytes.
    let test : List ℕ → Bool = λ bytes. not (contains_text c.args.other.now bytes) in
    ap (λ ks. spelled_in ks bytes) (filter_same _ _ _ (λ x b f k. search rules) _ _ c.retain.ensures.filtered) ∙ kept_spelled test c.self.inside.texts.keys bytes)

pub invariant_of-self : goal.invariant_of-self
invariant_of-self c = none_of_one_kept (λ bytes. not (contains_text c.args.other.now bytes)) c.self.inside.texts.keys c.retain.new.self.keys c.self.invariant (rw (← c.self.view_is) at (returns c))
