use Rattle.std.proofs.Common.{sym, ◌∙◌}
use Rattle.std.proofs.lemmas.Result.{on_ok_weaker}
use Rattle.std.specs.BTreeSet.{contains_text}
use Rattle.std.proofs.Math.Bool.{and-false}
use Rattle.cp_invlist.specs.InversionList.{contains}
use Rattle.uset_gather.proofs.GatheredLemmas.{each_member}
use Rattle.uset_gather.proofs.PaintingLemmas.{lacked_outside}
use Rattle.uset_gather.proofs.gathered.Gathered.try_retain.Goals as goal

pub returns-in-Complement : goal.returns-in-Complement
returns-in-Complement c =
    let old = c.args.self.now in
    let set = c.list-in-Complement.result.now in
    rw (c.in-Complement.is, sym c.list-in-Complement.ensures) (on_ok_weaker c.remove_set.result (λ h.
    each_member _ (λ d. h d ∙ lacked_outside old.code_points d (contains set d))
    (λ bytes. c.new-in-Complement.ensures bytes ∙ sym (and-false (contains_text old.strings bytes)))) c.remove_set.ensures)
