use Rattle.std.proofs.Common.{refl, ◌∙◌}
use Rattle.uset_grammar.specs.Arranging.{next}
use Rattle.uset_reader.specs.Named.{sets_of}
use Rattle.uset_reader.specs.Items.{item_seen, awaits_seen, range_steps, own_steps}
use Rattle.uset_reader.proofs.BracketLemmas.{took, refused, not_arranged, becomes_then, means_still}
use Rattle.uset_reader.proofs.bracket.OpenBracket.take.Goals as goal

pub returns-in_default : goal.returns-in_default
returns-in_default c = λ l o i s item.
    let old = c.args.self.now in
    let none = not_arranged (item_seen item.meant c.args.item) (next (awaits_seen old.awaits) (item_seen item.meant c.args.item)) (c.in_default.ensures.arranged item.meant) in
    rw item.is (refused l c.arranging.ensures old old o (item_seen item.meant c.args.item) c.refusal.result none (c.refusal.ensures item.meant) s)

pub returns : goal.returns
returns c = λ l o i s item.
    let old = c.args.self.now in
    let arranged = c.in-Some.arranged in
    let is = item_seen item.meant c.args.item in
    rw item.is (took l c.arranging.ensures old _ o is arranged (next (awaits_seen old.awaits) is) refl (c.in-Some.ensures.arranged item.meant) refl
    (c.gather.ensures.same.opening ∙ c.add_front.ensures.same.opening) (c.gather.ensures.same.before ∙ c.add_front.ensures.same.before)
    (becomes_then l old.gathered c.add_front.new.self.gathered c.gather.new.self.gathered (range_steps arranged.adds) (own_steps arranged.operation is) (c.in_ok-add_front.ensures.becomes.fitting (sets_of l) s.fits) (c.in_ok-gather.ensures.becomes l item.meant (c.in_ok-add_front.ensures.becomes.fitting (sets_of l) s.fits).fits
    (means_still l old.gathered c.add_front.new.self.gathered c.args.item item.meant c.in_ok-add_front.ensures.becomes.places item.same))) s)
