use Rattle.std.proofs.Common.{arith}
use Rattle.std.proofs.lemmas.Str.{encodes-chars}
use Rattle.uset_read.proofs.cursor.Cursor.at.Goals as goal

pub invariant_of-result : goal.invariant_of-result
invariant_of-result c = record {
  within = omega (arith, c.requires, c.args.self.now.within);
  source_text = c.args.self.now.source_text;
  rest_text = encodes-chars c.args.rest.now c.utf8.rest;
}
