use Rattle.std.proofs.Common.{◌≡◌, ℕ, List, not, ◌&&◌, ◌++◌}
use Rattle.std.specs.BTreeSet.{contains_text}
use Rattle.cp_strset.proofs.StringsLemmas.{spelled_in}
use Rattle.cp_strset.proofs.strings.Strings.remove_each.Given as goal

abbrev pub invariant-loop-text : goal.invariant-loop-text
invariant-loop-text l =
    (l.yielded ++ l.text-iterator ≡ l.fn.other.keys)
    × ((bytes : List ℕ) → contains_text l.self-inside.texts bytes ≡ (contains_text l.fn.self bytes && not (spelled_in l.yielded bytes)))
