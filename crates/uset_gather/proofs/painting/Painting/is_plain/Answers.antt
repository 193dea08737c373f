use Rattle.std.proofs.Common.{◌≡◌, false, length, rules, ap, ◌∙◌}
use Rattle.std.proofs.lemmas.List.{nil_from_length}
use Rattle.std.specs.List.{list_all}
use Rattle.uset_gather.proofs.PaintingLemmas.{plain}
use Rattle.uset_gather.proofs.painting.Painting.is_plain.Goals as goal
use Rattle.uset_gather.proofs.painting.Painting.is_plain.Goals.{then-is_empty, else-is_empty}

pub returns-then-not-self : goal.returns-then-not-self
returns-then-not-self c = elim c.if-is_empty.branch [
  | then-is_empty w ↦
      let none : length c.args.self.now.layers.items ≡ 0 = search rules in
      let straight : c.args.self.now.complemented ≡ false = search rules in
      plain c.args.self.now c.are_members.result (c.are_members.ensures ∙ ap (list_all (λ p. p.member)) c.deref.ensures.value)
      (nil_from_length c.args.self.now.layers.items none) straight
  | else-is_empty w ↦ search rules
]
