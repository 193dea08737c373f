use Rattle.std.proofs.Common.{◌≡◌, ℕ, ◌<◌, ap, ◌∙◌, arith}
use Rattle.std.proofs.lemmas.List.{length-set, get_or-set_other}
use Rattle.cp_invlist.specs.Words.{has_bit}
use Rattle.cp_terms.specs.Terms.{combined}
use Rattle.cp_terms.specs.Blocks.{word_has, block_has}
use Rattle.cp_terms.proofs.BlockLemmas.{words_more}
use Rattle.cp_terms.proofs.block.Block.combine.Goals as goal

pub loop-index-preserved : goal.loop-index-preserved
loop-index-preserved c =
    let words = c.loop-index.self.words in
    let index = c.loop-index.index in
    record {
      sized = length-set words index c.combine_words.result ∙ c.loop-index.invariant.sized;
      words =
          words_more (λ i word. (j : ℕ) → j < 64 → has_bit word j ≡ combined c.args.operation (block_has c.args.self.now i j) (word_has c.args.upper.now i j))
          words index c.combine_words.result (omega (arith, c.loop-index.invariant.sized)) c.loop-index.invariant.words
          (λ j lt. c.combine_words.ensures j lt ∙ ap (λ word. combined c.args.operation (has_bit word j) (word_has c.args.upper.now index j)) (c.loop-index.invariant.others index (omega arith)));
      others = λ i le. get_or-set_other words index i c.combine_words.result 0 (omega (arith, le)) ∙ c.loop-index.invariant.others i (omega (arith, le));
    }

pub returns : goal.returns
returns c = λ i j short. c.loop-index.invariant.words i (omega (arith, short)) j
