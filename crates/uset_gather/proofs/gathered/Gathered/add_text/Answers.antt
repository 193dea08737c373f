use Rattle.std.proofs.Common.{◌||◌, ap, sym, ◌∙◌}
use Rattle.std.proofs.lemmas.Str.{encodes-chars, IsUtf8-string_bytes}
use Rattle.std.proofs.lemmas.Result.{on_ok_weaker}
use Rattle.std.specs.BTreeSet.{contains_text}
use Rattle.std.specs.Str.{bytes_eq}
use Rattle.std.specs.String.{string_bytes}
use Rattle.std.proofs.Math.Bool.{or-false}
use Rattle.uset_gather.specs.Painting.{in_painting}
use Rattle.uset_gather.proofs.GatheredLemmas.{each_member}
use Rattle.uset_gather.proofs.gathered.Gathered.add_text.Goals as goal

pub returns-clause-ok : goal.returns-clause-ok
returns-clause-ok c =
    let same = encodes-chars (string_bytes c.args.text) (IsUtf8-string_bytes c.args.text) in
    on_ok_weaker c.insert.result (λ h. each_member _ (λ d. sym (or-false (in_painting c.args.self.now.code_points d)))
    (λ bytes. h bytes ∙ ap (λ text. contains_text c.args.self.now.strings bytes || bytes_eq text bytes) (sym same))) c.insert.ensures.ok
