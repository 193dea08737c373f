use Rattle.std.proofs.Common.{ap, ◌∙◌, map}
use Rattle.std.proofs.lemmas.List.{take_all}
use Rattle.cp_strset_terms.specs.NumberSets.{piece_at}
use Rattle.cp_strset_terms.specs.LeafNumbers.{numbers_seen, pieces_seen}
use Rattle.cp_strset_terms.proofs.PushedLemmas.{seen_pushed}
use Rattle.cp_strset_terms.proofs.leaf_numbers.pieces.Goals as goal

pub loop-each-init : goal.loop-each-init
loop-each-init c = ap (map (λ piece. piece.now)) c.in_ok-pieces.ensures.items

pub loop-each-preserved : goal.loop-each-preserved
loop-each-preserved c =
    seen_pushed (λ piece. piece.now) (λ leaf. piece_at (numbers_seen leaf) c.args.index) c.loop-each.pieces.items c.push.new.self.items c.piece.result c.args.numbers.now c.loop-each.each-index c.each-item.result
    c.loop-each-test.true c.in_ok-push.ensures.items (c.piece.ensures ∙ (ap (λ set. piece_at set c.args.index) c.set.ensures ∙ ap (λ leaf. piece_at (numbers_seen leaf) c.args.index) c.each-item.is)) c.loop-each.invariant

pub returns : goal.returns
returns c = c.loop-each.invariant ∙ ap (pieces_seen c.args.index) (take_all c.loop-each.each-index c.args.numbers.now c.loop-each-test.false)
