use Rattle.std.proofs.Common.{◌≡◌, List, ℕ}
use Rattle.std.specs.Iterator.{AlwaysYields}
use Rattle.std.specs.Str.Iter.{split_steps}
use Rattle.std.specs.Str.Pattern.{FindsChar}
use Rattle.std.specs.String.{string_bytes}
use Rattle.uset_tool.specs.Script.{spaced, characters_of}
use Rattle.uset_tool.proofs.CharacterLemmas.{joined}
use Rattle.uset_tool.proofs.line.characters.Given as goal

abbrev pub invariant-loop-field : goal.invariant-loop-field
invariant-loop-field l =
    (fields : List (List ℕ)) × AlwaysYields (split_steps FindsChar (λ a b. b ≡ a)) (λ x. x.now) l.field-iterator fields
    × (joined (string_bytes l.string) (characters_of fields) ≡ characters_of (spaced l.text))
