use Rattle.std.proofs.Common.{◌++◌, encode_utf8, sym, ap, ◌∙◌, append_assoc, rules}
use Rattle.std.specs.Str.{chars}
use Rattle.cp_invlist.specs.InversionList.{contains}
use Rattle.uset_read.proofs.NameParts.{cut_before, front_is, name_parts}
use Rattle.uset_read.proofs.name.read_name.Goals as goal

pub range-requires-clause-end_boundary : goal.range-requires-clause-end_boundary
range-requires-clause-end_boundary c =
    let front = c.skip_all-rest.ensures.front in
    cut_before c.args.text.now (encode_utf8 c.in_ok-first.first ++ front.0) c.skip_all-rest.result.now
    (c.in_ok-first.ensures.bytes ∙ (ap (λ z. encode_utf8 c.in_ok-first.first ++ z) front.1 ∙ sym (append_assoc (encode_utf8 c.in_ok-first.first) front.0 c.skip_all-rest.result.now))) c.skip_all-rest.utf8

pub returns-clause-some : goal.returns-clause-some
returns-clause-some c =
    let front = c.skip_all-rest.ensures.front in
    let bytes = c.in_ok-first.ensures.bytes ∙ (ap (λ z. encode_utf8 c.in_ok-first.first ++ z) front.1 ∙ sym (append_assoc (encode_utf8 c.in_ok-first.first) front.0 c.skip_all-rest.result.now)) in
    let name = c.range.ensures.value ∙ front_is c.args.text.now (encode_utf8 c.in_ok-first.first ++ front.0) c.skip_all-rest.result.now bytes in
    name_parts c.cut_by_a_test.ensures (contains c.args.start.now) (contains c.args.continuing.now) c.args.text.now c.range.result.now c.skip_all-rest.result.now c.in_ok-first.first (chars c.in_ok-first.behind.now)
    c.range.utf8 (bytes ∙ ap (λ z. z ++ c.skip_all-rest.result.now) (sym name)) c.in_ok-first.ensures.parts (search rules) c.skip_all-rest.ensures.skipped
