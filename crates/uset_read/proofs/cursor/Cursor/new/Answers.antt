use Rattle.std.proofs.Common.{arith}
use Rattle.std.proofs.lemmas.Str.{encodes-chars}
use Rattle.uset_read.proofs.cursor.Cursor.new.Goals as goal

pub invariant_of-result : goal.invariant_of-result
invariant_of-result c =
    let text = encodes-chars c.args.source.now c.utf8.source in
    record { within = omega arith; source_text = text; rest_text = text }
