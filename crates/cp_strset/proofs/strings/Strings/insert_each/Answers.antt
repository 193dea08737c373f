use Rattle.std.proofs.Common.{◌||◌, sym, ap, ◌∙◌, arith}
use Rattle.std.proofs.lemmas.List.{take_all}
use Rattle.std.specs.BTreeSet.{contains_text}
use Rattle.std.specs.Str.{chars}
use Rattle.std.specs.String.{string_bytes}
use Rattle.cp_strset.specs.StringList.{sole_of}
use Rattle.std.proofs.Math.Bool.{or-false}
use Rattle.cp_strset.proofs.StringsLemmas.{spelled_in, copied_more, canonical_none, bytes_spelled}
use Rattle.cp_strset.proofs.strings.Strings.insert_each.Goals as goal

pub loop-text-init : goal.loop-text-init
loop-text-init c = λ bytes. sym (or-false (contains_text c.args.self.now bytes))

pub insert-requires : goal.insert-requires
insert-requires c =
    ap (λ bs. sole_of (chars bs)) (c.in_ok-from_str.ensures.ok ∙ c.as_str.ensures.value)
    ∙ ap (λ k. sole_of (chars (string_bytes k))) c.text-item.is
    ∙ canonical_none c.args.strings.now c.loop-text.text-index c.text-item.result c.requires c.loop-text-test.true

pub loop-text-preserved : goal.loop-text-preserved
loop-text-preserved c = λ bytes.
    copied_more _ _ _ c.args.strings.now c.loop-text.text-index c.text-item.result (string_bytes c.in_ok-from_str.field-0) bytes c.loop-text-test.true
    (c.in_ok-from_str.ensures.ok ∙ (c.as_str.ensures.value ∙ ap string_bytes c.text-item.is)) (c.loop-text.invariant bytes) (c.in_ok-insert.ensures.ok bytes)

pub returns : goal.returns
returns c = λ bytes.
    c.loop-text.invariant bytes
    ∙ ap (λ b. contains_text c.args.self.now bytes || b)
    (ap (λ ks. spelled_in ks bytes) (take_all c.loop-text.text-index c.args.strings.now (omega (arith, c.loop-text-test.false))) ∙ sym (bytes_spelled c.args.strings.now bytes))
