use Rattle.std.proofs.Common.{◌∷◌, ap, ◌∙◌, reverse}
use Rattle.cp_terms.specs.declared.shorten.Part.TheVariants.{Mixed}
use Rattle.cp_terms.proofs.ShortenLemmas.{reverse-push, put_complement, put_kept}
use Rattle.cp_terms.proofs.shorten.Shortened.put_mixed.Goals as goal
use Rattle.cp_terms.proofs.shorten.Shortened.put_mixed.Goals.{then-at_other+in_ok-push, else-at_other}

pub returns : goal.returns
returns c = λ w b stack fits. elim c.if-at_other.branch [
  | then-at_other+in_ok-push t ↦
      put_complement w c.args.self.now.steps.items c.if-at_other.self.steps.items c.args.start (reverse c.args.self.now.stack.items) (reverse c.push-2.new.self.items) c.args.at_member c.args.at_other b stack
      (ap (λ s. s.steps.items) t.self-is ∙ t.in_ok-push.ensures.items)
      (reverse-push c.push-2.new.self.items c.if-at_other.self.stack.items (Mixed c.args.start) c.in_ok-push-2.ensures.items ∙ ap (λ s. Mixed c.args.start ∷ reverse s.stack.items) t.self-is)
      c.if-at_member-at_other.false t.if-at_other.true fits
  | else-at_other t ↦
      put_kept w c.args.self.now.steps.items c.if-at_other.self.steps.items c.args.start (reverse c.args.self.now.stack.items) (reverse c.push-2.new.self.items) c.args.at_member c.args.at_other b stack
      (ap (λ s. s.steps.items) t.self-is)
      (reverse-push c.push-2.new.self.items c.if-at_other.self.stack.items (Mixed c.args.start) c.in_ok-push-2.ensures.items ∙ ap (λ s. Mixed c.args.start ∷ reverse s.stack.items) t.self-is)
      c.if-at_member-at_other.false t.if-at_other.false fits
]
