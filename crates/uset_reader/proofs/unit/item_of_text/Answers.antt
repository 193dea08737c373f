use Rattle.std.proofs.Common.{sym, ap, ◌∙◌}
use Rattle.std.specs.Str.{chars}
use Rattle.std.specs.String.{string_bytes}
use Rattle.cp_strset.specs.StringList.{sole_of}
use Rattle.uset_reader.proofs.UnitLemmas.{sole_item, string_item}
use Rattle.uset_reader.proofs.unit.item_of_text.Goals as goal

pub returns-in-Some-clause-item : goal.returns-in-Some-clause-item
returns-in-Some-clause-item c = λ l g.
    sole_item l g c.from_char.result (chars (string_bytes c.args.text)) c.in-Some.c (ap (λ bs. sole_of (chars bs)) (sym c.deref.ensures) ∙ sym c.in-Some.ensures) c.from_char.ensures

pub returns-clause-item : goal.returns-clause-item
returns-clause-item c = λ l g. string_item l g c.args.text (ap (λ bs. sole_of (chars bs)) (sym c.deref.ensures) ∙ sym c.in-None.ensures)
