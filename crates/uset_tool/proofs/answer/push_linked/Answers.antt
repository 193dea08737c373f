use Rattle.std.proofs.Common.{sym, ap, ◌∙◌}
use Rattle.std.proofs.lemmas.List.{nil_from_length}
use Rattle.std.proofs.lemmas.Str.{chars_past_char, chars-nil, IsUtf8-past_char}
use Rattle.std.specs.Str.{chars}
use Rattle.uset_tool.proofs.Linked.{linked_first, linked_next, linked_last}
use Rattle.uset_tool.proofs.answer.push_linked.Goals as goal

pub loop-character-init : goal.loop-character-init
loop-character-init c =
    let string = c.args.string.now in
    let rest = c.next.new.self.rest.now in
    let step = sym c.chars-characters.ensures.rest ∙ c.in-Some.ensures.steps.0 in
    rw c.into_iter-character-iterator.ensures.into_iter_gives (record {
      text = IsUtf8-past_char string rest c.in-Some.first c.utf8.string step;
      written = linked_first _ _ _ _ c.in-Some.first (chars_past_char string rest c.in-Some.first c.utf8.string step) c.in_ok-push_code_point.ensures;
    })

pub loop-character-preserved : goal.loop-character-preserved
loop-character-preserved c =
    let left = c.loop-character.character-iterator.rest.now in
    let rest = c.next-in-loop-character.new.self.rest.now in
    let step = c.in-Some-character.ensures.steps.0 in
    let at = c.loop-character.invariant in
    record {
      text = IsUtf8-past_char left rest c.in-Some-character.character at.text step;
      written = linked_next _ _ _ _ _ _ c.in-Some-character.character (chars_past_char left rest c.in-Some-character.character at.text step) c.in_ok-push_str.ensures.bytes
          c.in_ok-push_code_point-2.ensures at.written;
    }

pub returns : goal.returns
returns c = linked_last _ _ _ (ap chars (nil_from_length _ c.in-None.ensures.steps.0.0) ∙ chars-nil) c.loop-character.invariant.written
