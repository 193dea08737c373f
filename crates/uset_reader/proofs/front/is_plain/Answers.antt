use Rattle.std.proofs.Common.{sym, ◌∙◌}
use Rattle.std.proofs.lemmas.Bool.{OnTrue_from}
use Rattle.uset_reader.proofs.FrontLemmas.{plain_front}
use Rattle.uset_reader.proofs.front.is_plain.Goals as goal

pub returns : goal.returns
returns c = OnTrue_from c.is_ascii_graphic.result _ (λ is.
    plain_front c.args.text.now c.in-Some.first.now c.utf8.text (sym (rw c.as_bytes.ensures.value at c.in-Some.ensures.value)) (sym c.is_ascii_graphic.ensures.value ∙ is) c.if-first-eq58.false c.if-first-eq94.false c.if-first-eq45.false)
