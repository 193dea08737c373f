use Rattle.std.proofs.Common.{◌+◌, ◌∙◌, length, length-append, arith, ap, sym, subst}
use Rattle.cp_invlist.specs.Words.{AreWords}
use Rattle.cp_invlist.specs.Windows.{IsWindow}
use Rattle.cp_invlist.proofs.WordLemmas.{words_more}
use Rattle.cp_invlist.proofs.words.all_words.Goals as goal

pub loop-index-preserved : goal.loop-index-preserved
loop-index-preserved c = record {
  window = subst (λ place. IsWindow c.args.set.now place c.word.new.self) (omega arith) c.word.ensures.window;
  ahead = omega (arith, c.word.ensures.ahead);
  sized = ap length c.in_ok-push.ensures.items ∙ length-append c.loop-index.words.items _ ∙ ap (λ n. n + 1) c.loop-index.invariant.sized;
  words = subst (AreWords c.args.set.now) (sym c.in_ok-push.ensures.items) (words_more c.args.set.now c.loop-index.words.items c.word.result c.loop-index.index c.loop-index.invariant.sized c.loop-index.invariant.words c.word.ensures.word);
}
