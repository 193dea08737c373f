use Rattle.std.proofs.Common.{ℕ, Bool, List, rules, ap, ◌∙◌}
use Rattle.std.proofs.lemmas.Fn.{filter_same}
use Rattle.cp_strset.specs.StringSet.{contains_text as in_text_set}
use Rattle.cp_strset.proofs.StringsLemmas.{spelled_in, kept_spelled, none_of_one_kept, and_where, listed_as_text}
use Rattle.cp_strset.proofs.strings.Strings.keep_listed.Goals as goal

pub returns : goal.returns
returns c = rw (← c.self.view_is) (λ bytes.
    let test : List ℕ → Bool = λ bytes. in_text_set c.args.set.now bytes in
    ap (λ ks. spelled_in ks bytes) (filter_same _ _ _ (λ x b f k. search rules) _ _ c.retain.ensures.filtered)
    ∙ (kept_spelled test c.self.inside.texts.keys bytes
    ∙ and_where (spelled_in c.self.inside.texts.keys bytes) _ _ (λ is. ap (λ b. b) (listed_as_text c.args.set.now bytes (c.self.invariant bytes is)))))

pub invariant_of-self : goal.invariant_of-self
invariant_of-self c =
    none_of_one_kept _ c.self.inside.texts.keys c.retain.new.self.keys c.self.invariant (rw (← c.self.view_is) at (returns c))
