use Rattle.std.proofs.Common.{◌≡◌, ℕ, List, ◌++◌, option_map}
use Rattle.std.proofs.lemmas.Iterator.{YieldsList}
use Rattle.std.specs.List.{slice_split}
use Rattle.prop_names.specs.Folding.{is_underscore}
use Rattle.prop_data.specs.Strings.{numbers_of}
use Rattle.prop_data.proofs.string.numbers_of.Given as goal

-- the parts that are left, and the numbers of all
abbrev pub invariant-loop-part : goal.invariant-loop-part
invariant-loop-part l =
    (parts : List (List ℕ)) × YieldsList goal.iterator-loop-part.next_gives (λ x. x.now) l.part-iterator parts
    × (option_map (λ ns. l.numbers.items ++ ns) (numbers_of parts) ≡ numbers_of (slice_split is_underscore l.fn.text))
