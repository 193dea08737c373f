use Rattle.std.proofs.Common.{◌∙◌}
use Rattle.uset_reader.proofs.FrontLemmas.{short_by_bytes, long_is_not_short}
use Rattle.uset_reader.proofs.front.is_short.Goals as goal

pub returns-then-first-ne93 : goal.returns-then-first-ne93
returns-then-first-ne93 c =
    c.is_empty.ensures ∙ short_by_bytes c.args.text.now c.in-Some.rest.now c.in-Some.first c.utf8.text c.in-Some.ensures.bytes c.in-Some.ensures.parts c.if-first-ne93.true

pub returns-then-text-gt-MOST_BYTES : goal.returns-then-text-gt-MOST_BYTES
returns-then-text-gt-MOST_BYTES c = long_is_not_short c.args.text.now c.utf8.text c.if-text-gt-MOST_BYTES.true
