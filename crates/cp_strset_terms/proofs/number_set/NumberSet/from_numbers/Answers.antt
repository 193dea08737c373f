use Rattle.std.proofs.Common.{◌==◌, ap, sym, ◌∙◌}
use Rattle.std.proofs.lemmas.List.Sorted.{list_any-IsPermutation}
use Rattle.std.specs.List.{list_any}
use Rattle.cp_strset_terms.specs.NumberSets.{has_number}
use Rattle.cp_strset_terms.proofs.number_set.NumberSet.from_numbers.Goals as goal

pub returns : goal.returns
returns c = λ number.
    ap (λ set. has_number set number) c.new.ensures
    ∙ (c.in_ok-pieces_of.ensures number
    ∙ (ap (list_any (λ n. n == number)) c.deref.ensures.value
    ∙ sym (list_any-IsPermutation (λ n. n == number) c.args.numbers.items c.sort_unstable.new.self.items c.sort_unstable.ensures.permutation)))
