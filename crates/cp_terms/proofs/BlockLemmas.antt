-- What operations on blocks do to their bits.
use Rattle.std.proofs.Common.{◌≡◌, ℕ, ◌+◌, ◌<◌, Bool, false, List, take, [], ◌∷◌, ◌++◌, length, replicate, sym, ap, ◌∙◌, arith, subst, get_or, set, inl, inr}
use Rattle.std.specs.List.{slice_index}
use Rattle.std.proofs.lemmas.Bool.{cases_lt}
use Rattle.std.proofs.lemmas.List.{get_or-replicate, get_or-set_same, get_or-set_other, length-set, take_all, take_more, take_more_set}
use Rattle.std.proofs.lemmas.Grind.{common_steps}
use Rattle.cp_invlist.specs.WordLaws.{has_bit-zero}
use Rattle.cp_terms.specs.declared.block.Block.{Block}
use Rattle.cp_invlist.specs.Words.{has_bit}
use Rattle.cp_terms.specs.Blocks.{block_has, block_marks}

-- a block on top of others
pub block_marks-push : (i j : ℕ) (blocks : List Block) (block : Block) → block_marks i j (blocks ++ block ∷ []) ≡ block_has block i j ∷ block_marks i j blocks
block_marks-push i j blocks block = grind (arith, common_steps)

-- the block of no members
abbrev pub empty : Block
empty = record { words = replicate 256 0 }

pub empty_has : (i j : ℕ) → i < 256 → block_has empty i j ≡ false
empty_has i j short = ap (λ n. has_bit n j) (get_or-replicate 256 i 0 0 short) ∙ has_bit-zero j

-- The block on top is exchanged for another.
pub record TopSet (i j : ℕ) (blocks : List Block) (k : ℕ) (last new : Block) : Type 0 where
  pub rest : List Bool
  pub was : block_marks i j blocks ≡ block_has last i j ∷ rest
  pub is : block_marks i j (set blocks k new) ≡ block_has new i j ∷ rest

pub top_set : (i j : ℕ) (blocks : List Block) (k : ℕ) (last new : Block) → k + 1 ≡ length blocks → last ≡ get_or blocks k last → TopSet i j blocks k last new
top_set i j blocks k last new whole at = record {
  rest = block_marks i j (take k blocks);
  was = ap (block_marks i j) (sym (take_all (k + 1) blocks (omega arith)) ∙ (take_more blocks k last (omega arith) ∙ ap (λ b. take k blocks ++ b ∷ []) (sym at))) ∙ block_marks-push i j (take k blocks) last;
  is = ap (block_marks i j) (sym (take_all (k + 1) (set blocks k new) (omega (arith, length-set blocks k new))) ∙ take_more_set blocks k new (omega arith)) ∙ block_marks-push i j (take k blocks) new;
}

-- one word more is right
pub words_more : (P : ℕ → ℕ → Type 0) (words : List ℕ) (k word : ℕ) → k < length words → ((i : ℕ) → i < k → P i (slice_index words i)) → P k word → (i : ℕ) → i < k + 1 → P i (slice_index (set words k word) i)
words_more P words k word lt before here i below = elim (cases_lt i k) [
  | inl front ↦ subst (P i) (sym (get_or-set_other words k i word 0 (omega (arith, front)))) (before i front)
  | inr behind ↦
      let same : k ≡ i = omega (arith, behind, below) in
      subst (λ n. P n (slice_index (set words k word) n)) same (subst (P k) (sym (get_or-set_same words k word 0 lt)) here)
]
