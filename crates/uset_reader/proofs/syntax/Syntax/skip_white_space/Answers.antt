use Rattle.std.proofs.Common.{sym}
use Rattle.cp_invlist.specs.InversionList.{contains}
use Rattle.uset_reader.proofs.FirstByte.{none_in_front}
use Rattle.uset_reader.proofs.syntax.Syntax.skip_white_space.Goals as goal

pub returns-in-Some-clause-skipped : goal.returns-in-Some-clause-skipped
returns-in-Some-clause-skipped c =
    none_in_front (contains c.args.self.now.white_space.now) c.args.text.now c.in-Some.first.now c.utf8.text (rw c.as_bytes.ensures.value at c.in-Some.ensures.value)
    (sym c.if-is_ascii_graphic.ensures.value) c.args.self.now.visible
