use Rattle.std.proofs.Common.{◌≡◌, ℕ, ◌||◌, List, take}
use Rattle.std.specs.BTreeSet.{contains_text}
use Rattle.cp_strset.proofs.StringsLemmas.{spelled_in}
use Rattle.cp_strset.proofs.strings.Strings.insert_each.Given as goal

abbrev pub invariant-loop-text : goal.invariant-loop-text
invariant-loop-text l =
    (bytes : List ℕ) → contains_text l.self bytes ≡ (contains_text l.fn.self bytes || spelled_in (take l.text-index l.strings) bytes)
