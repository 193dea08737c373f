use Rattle.std.proofs.Common.{rules, refl}
use Rattle.uset_steps.specs.declared.numbering.TermSet.TheVariants.{Named}
use Rattle.uset_steps.proofs.NumberingLemmas.{told_before, told_last, name_numbered}
use Rattle.uset_steps.proofs.numbering.Numbering.of_name.Goals as goal

pub returns : goal.returns
returns c =
    let before = c.args.self.now.term.sets.items in
    let after = c.push.new.self.items in
    let set = Named c.args.name in
    record {
      grown = record {
        numbered = name_numbered c.args.self.now (record { places = c.add.new.self; term = record { sets = c.push.new.self; steps = c.args.self.now.term.steps } }) c.args.name c.len-number.result (search rules) c.in_ok-push.ensures.items (rw c.in_ok-copy.ensures at c.in_ok-add.ensures);
        told = λ sets m v h. told_before before after set c.in_ok-push.ensures.items sets m v h;
      };
      steps = refl;
      is = λ a sets m v h. told_last before after set c.in_ok-push.ensures.items sets m v c.len-number.result (search rules) h;
    }
