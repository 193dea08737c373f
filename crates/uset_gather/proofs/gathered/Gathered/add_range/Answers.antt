use Rattle.std.proofs.Common.{◌||◌, ap, sym, ◌∙◌}
use Rattle.std.proofs.lemmas.Result.{on_ok_weaker}
use Rattle.std.specs.BTreeSet.{contains_text}
use Rattle.std.proofs.Math.Bool.{or-false}
use Rattle.uset_gather.specs.Painting.{in_painting}
use Rattle.uset_gather.proofs.GatheredLemmas.{each_member, within_code_points}
use Rattle.uset_gather.proofs.gathered.Gathered.add_range.Goals as goal

pub returns-clause-ok : goal.returns-clause-ok
returns-clause-ok c = on_ok_weaker c.add_range.result (λ h. each_member _ (λ d. h d ∙ ap (λ b. in_painting c.args.self.now.code_points d || b) (within_code_points c.args.range.start c.args.range.end d c.requires)) (λ bytes. sym (or-false (contains_text c.args.self.now.strings bytes)))) c.add_range.ensures.ok
