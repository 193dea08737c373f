use Rattle.std.proofs.Common.{◌≡◌, ℕ, ◌<◌, List, replicate, ap, ◌∙◌}
use Rattle.std.specs.List.{slice_index}
use Rattle.std.proofs.lemmas.Bool.{OnTrue_from}
use Rattle.std.proofs.lemmas.Bool.Decides.{Decides-eqb}
use Rattle.std.proofs.lemmas.List.{get_or-replicate}
use Rattle.std.proofs.lemmas.Slice.Eq.{slice_eq-Decides}
use Rattle.cp_invlist.specs.Words.{has_bit}
use Rattle.cp_terms.specs.Blocks.{block_has}
use Rattle.cp_terms.proofs.block.Block.is_filled.Goals as goal

pub returns : goal.returns
returns c =
    let decides = slice_eq-Decides Decides-eqb c.args.self.now.words (replicate 256 c.filled.result) c.eq.result c.eq.ensures in
    OnTrue_from c.eq.result ((i j : ℕ) → i < 256 → j < 64 → block_has c.args.self.now i j ≡ c.args.inside) (λ t i j hi hj.
    ap (λ (words : List ℕ). has_bit (slice_index words i) j) (decides.0 t) ∙ (ap (λ n. has_bit n j) (get_or-replicate 256 i c.filled.result 0 hi) ∙ c.filled.ensures j hj))
