use Rattle.std.proofs.Common.{refl, ap, ◌∙◌}
use Rattle.std.specs.Prelude.{◌||◌}
use Rattle.uset_grammar.specs.Tree.{in_range}
use Rattle.uset_reader.specs.Named.{sets_of}
use Rattle.uset_reader.proofs.BracketLemmas.{begins}
use Rattle.uset_reader.proofs.bracket.OpenBracket.open.Goals as goal
use Rattle.uset_reader.proofs.bracket.OpenBracket.open.Goals.{then-opening+in_ok-add_range, else-opening}

pub returns : goal.returns
returns c = λ l before at.
    let none = (c.new-gathered.ensures.empty (sets_of l)).has in
    let names = (c.new-gathered.ensures.empty (sets_of l)).fits in
    begins l _ c.args.opening before c.args.before refl refl refl at
    (elim c.if-opening.branch [
      | then-opening+in_ok-add_range w ↦ λ m. rw (w.gathered-is, w.if-opening.true) ((w.in_ok-add_range.ensures.becomes (sets_of l) names).has m ∙ ap (λ b. b || in_range 0x2D 0x2D m) (none m))
      | else-opening w ↦ λ m. rw (w.gathered-is, w.if-opening.false) (none m)
    ])
    (elim c.if-opening.branch [
      | then-opening+in_ok-add_range w ↦ rw w.gathered-is (w.in_ok-add_range.ensures.becomes (sets_of l) names).fits
      | else-opening w ↦ rw w.gathered-is names
    ])
