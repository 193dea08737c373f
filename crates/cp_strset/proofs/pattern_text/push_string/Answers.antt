use Rattle.std.proofs.Common.{◌++◌, sym, ◌∙◌, ap, arith, codes}
use Rattle.std.specs.List.{flat_map}
use Rattle.std.specs.Str.{chars}
use Rattle.std.specs.String.{string_bytes}
use Rattle.std.proofs.lemmas.List.{nil_from_length}
use Rattle.std.proofs.lemmas.Str.{chars_past_char, chars-nil, IsUtf8-past_char}
use Rattle.cp_strset.specs.PatternText.{escaped}
use Rattle.cp_strset.proofs.Written.{written_more, written_last}
use Rattle.cp_strset.proofs.pattern_text.push_string.Goals as goal

pub loop-c-preserved : goal.loop-c-preserved
loop-c-preserved c =
    let rest = c.loop-c.c-iterator.rest.now in
    let step = c.in-Some.ensures.steps.0 in
    let h = c.loop-c.invariant in
    record {
      text = IsUtf8-past_char rest c.next.new.self.rest.now c.in-Some.c h.text step;
      written = written_more (string_bytes c.loop-c.text) _ (escaped c.in-Some.c) _ _ c.in_ok-push_escaped.ensures
          (ap (λ cs. string_bytes c.loop-c.text ++ flat_map escaped cs) (sym (chars_past_char rest c.next.new.self.rest.now c.in-Some.c h.text step)) ∙ h.written);
    }

pub returns : goal.returns
returns c =
    let none = ap chars (nil_from_length _ c.in-None.ensures.steps.0.0) ∙ chars-nil in
    written_last (string_bytes c.args.text.now) (flat_map escaped (chars c.args.string.now)) (string_bytes c.loop-c.text) _ _ (codes "{") (codes "}")
    (c.in_ok-push-2.ensures.bytes ∙ ap (λ e. string_bytes c.loop-c.text ++ e) (c.in_ok-push-2.ensures.ascii (omega arith))) (ap (flat_map escaped) none) c.loop-c.invariant.written
