use Rattle.std.proofs.Common.{rules, refl, ◌∙◌}
use Rattle.uset_steps.specs.declared.numbering.TermSet.TheVariants.{Gathered}
use Rattle.uset_steps.proofs.NumberingLemmas.{still_named, told_before, told_last}
use Rattle.uset_steps.proofs.numbering.Numbering.of_gathered.Goals as goal

pub returns : goal.returns
returns c =
    let before = c.args.self.now.term.sets.items in
    let after = c.push.new.self.items in
    let set = Gathered c.in_ok-set.set in
    record {
      grown = record {
        numbered = λ a name number there. still_named before after set c.in_ok-push.ensures.items number name (a name number there);
        told = λ sets m v h. told_before before after set c.in_ok-push.ensures.items sets m v h;
      };
      steps = refl;
      is = λ a sets m v h. told_last before after set c.in_ok-push.ensures.items sets m v c.len-number.result (search rules) h ∙ c.in_ok-set.ensures m;
    }
