use Rattle.std.proofs.Common.{Some, sym, ap, ◌∙◌, arith}
use Rattle.std.proofs.lemmas.List.{take_all}
use Rattle.std.specs.Prelude.{encode_utf8_all}
use Rattle.std.specs.Str.{all_scalars}
use Rattle.prop_data.proofs.SpelledLemmas.{not_all, spelled_more, text_spelled-all, text_spelled-none}
use Rattle.prop_data.proofs.string.text_of.Goals as goal

pub returns-in_default : goal.returns-in_default
returns-in_default c = sym (text_spelled-none c.args.numbers.now (not_all c.args.numbers.now c.loop-number.number-index c.loop-number-test.true c.in_default.ensures.value))

pub loop-number-preserved : goal.loop-number-preserved
loop-number-preserved c =
    spelled_more c.args.numbers.now c.loop-number.number-index c.in-Some.c _ _ c.loop-number-test.true c.in-Some.ensures.value.1 c.in-Some.ensures.value.0 c.loop-number.invariant.0 c.loop-number.invariant.1
    c.in_ok-push.ensures.bytes

pub returns : goal.returns
returns c =
    let all = take_all c.loop-number.number-index c.args.numbers.now (omega (arith, c.loop-number-test.false)) in
    sym (text_spelled-all c.args.numbers.now (sym (ap all_scalars all) ∙ c.loop-number.invariant.0) ∙ ap Some (sym (c.loop-number.invariant.1 ∙ ap encode_utf8_all all)))
