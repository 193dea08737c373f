use Rattle.std.proofs.Common.{sym}
use Rattle.std.proofs.lemmas.List.{take_more}
use Rattle.std.proofs.lemmas.Str.{encode_ascii}
use Rattle.prop_names.proofs.folding.ascii_text.Goals as goal

pub loop-byte-preserved : goal.loop-byte-preserved
loop-byte-preserved c =
    let name = c.args.name.now in
    let i = c.loop-byte.byte-index in
    let is_ascii = c.requires.ascii i 0 c.loop-byte-test.true in
    rw (c.in_ok-push.ensures.bytes, c.loop-byte.invariant, c.from.ensures, encode_ascii _ is_ascii) (sym (take_more name i 0 c.loop-byte-test.true))
