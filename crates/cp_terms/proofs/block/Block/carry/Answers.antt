use Rattle.std.proofs.Common.{◌≡◌, ℕ, ◌<◌, refl, sym, ap, ap₂, ◌∙◌, arith, rules}
use Rattle.std.proofs.lemmas.List.{length-set, get_or-set_other}
use Rattle.cp_invlist.specs.InversionList.{differ}
use Rattle.cp_invlist.specs.Words.{has_bit}
use Rattle.cp_terms.proofs.BlockLemmas.{words_more}
use Rattle.cp_terms.proofs.block.Block.carry.Goals as goal

pub loop-index-init : goal.loop-index-init
loop-index-init c = record {
  sized = search rules;
  others = λ i le. refl;
  carried = λ starts m hs hm hn j h. c.filled-turning.ensures j h ∙ sym hs;
  words = λ starts m hs hm hn i lt. absurd (omega (arith, lt));
}

pub loop-index-preserved : goal.loop-index-preserved
loop-index-preserved c =
    let words = c.loop-index.self.words in
    let index = c.loop-index.index in
    let inv = c.loop-index.invariant in
    record {
      sized = length-set words index c.differing.result ∙ inv.sized;
      others = λ i le. get_or-set_other words index i c.differing.result 0 (omega (arith, le)) ∙ inv.others i (omega (arith, le));
      carried = λ starts m hs hm hn j h.
          c.differing-turning.ensures j h
          ∙ (ap₂ differ (inv.carried starts m hs hm hn j h) (c.last_bits.ensures j h ∙ ap (λ word. has_bit word 63) (inv.others index (omega arith)))
          ∙ sym (hn index (omega arith) ∙ hm index 63 (omega arith) (omega arith)));
      words = λ starts m hs hm hn.
          words_more (λ i word. (j : ℕ) → j < 64 → has_bit word j ≡ m i j)
          words index c.differing.result (omega (arith, inv.sized)) (inv.words starts m hs hm hn)
          (λ j h.
          c.differing.ensures j h
          ∙ (ap₂ differ (inv.carried starts m hs hm hn j h) (ap (λ word. has_bit word j) (inv.others index (omega arith)))
          ∙ sym (hm index j (omega arith) h)));
    }

pub returns : goal.returns
returns c = λ starts m hs hm hn i j short. c.loop-index.invariant.words starts m hs hm hn i (omega (arith, short)) j
