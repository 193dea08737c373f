use Rattle.std.proofs.Common.{◌≡◌, ◌++◌, ℕ, List, map, filter}
use Rattle.std.specs.Slice.Iter.{chunks_rest, chunks_size}
use Rattle.std.specs.String.{string_bytes}
use Rattle.cp_strset.specs.StringList.{AreCanonical}
use Rattle.cp_terms.specs.Terms.{value_of}
use Rattle.cp_strset_terms.specs.Leaves.{leaf_holds}
use Rattle.cp_strset_terms.specs.Places.{texts}
use Rattle.cp_strset_terms.proofs.members.kept_texts.Given as goal

abbrev pub invariant-loop-piece : goal.invariant-loop-piece
invariant-loop-piece l =
    (chunks_size l.piece-iterator ≡ 0x11_0000)
    × AreCanonical (texts (chunks_rest l.piece-iterator))
    × (map string_bytes l.strings.items ++ filter (λ (text : List ℕ). value_of (leaf_holds l.leaves text) l.steps) (texts (chunks_rest l.piece-iterator)) ≡
    filter (λ (text : List ℕ). value_of (leaf_holds l.leaves text) l.steps) (texts l.table))
