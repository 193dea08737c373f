use Rattle.std.proofs.Common.{◌≡◌, ℕ, not, ◌&&◌, List, take}
use Rattle.std.specs.BTreeSet.{contains_text}
use Rattle.cp_strset.proofs.StringsLemmas.{spelled_in}
use Rattle.cp_strset.proofs.strings.Strings.remove_each_listed.Given as goal

abbrev pub invariant-loop-text : goal.invariant-loop-text
invariant-loop-text l =
    (bytes : List ℕ) → contains_text l.self-inside.texts bytes ≡ (contains_text l.fn.self bytes && not (spelled_in (take l.text-index l.strings) bytes))
