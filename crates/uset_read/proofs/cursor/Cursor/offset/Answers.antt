use Rattle.std.proofs.Common.{◌≡◌, ◌+◌, length, encode_utf8_all, ap, arith}
use Rattle.std.specs.Str.{chars}
use Rattle.uset_read.proofs.PlaceInBytes.{place_bytes}
use Rattle.uset_read.proofs.cursor.Cursor.offset.Goals as goal

pub returns-clause-place : goal.returns-clause-place
returns-clause-place c = λ before parts.
    let source = ap length c.args.self.now.source_text in
    let rest = ap length c.args.self.now.rest_text in
    let sizes : length (encode_utf8_all before) + length (encode_utf8_all (chars c.args.self.now.rest.now)) ≡ length (encode_utf8_all (chars c.args.self.now.source.now)) = place_bytes (chars c.args.self.now.source.now) before (chars c.args.self.now.rest.now) parts in
    omega arith

pub returns-clause-rest : goal.returns-clause-rest
returns-clause-rest c =
    let rest = ap length c.args.self.now.rest_text in
    omega arith
