use Rattle.std.proofs.Common.{◌≡◌, ap, subst, ◌∙◌, lit<}
use Rattle.std.proofs.lemmas.Iterator.Splits.{YieldsList-from_str_split}
use Rattle.std.proofs.lemmas.Str.{IsUtf8-string_bytes}
use Rattle.std.specs.Str.Iter.{split_steps, split_text, split_has_more, split_pattern}
use Rattle.std.specs.Str.Pattern.{FindsChar}
use Rattle.std.specs.String.{string_bytes}
use Rattle.uset_tool.specs.Script.{spaced, characters_of}
use Rattle.uset_tool.proofs.CharacterLemmas.{joined, joined-begins, field_comes, fields_end, field_read, field_refused, fields_read}
use Rattle.uset_tool.proofs.line.characters.Goals as goal

pub loop-field-init : goal.loop-field-init
loop-field-init c =
    let begins = c.into_iter-field-iterator.ensures.into_iter_gives in
    let split = c.split-field-items.ensures in (
      spaced c.args.text.now,
      (YieldsList-from_str_split 0x20 c.args.text.now (lit< tt) (ap split_text begins ∙ split.text) (ap split_has_more begins ∙ split.has_more) (ap split_pattern begins ∙ split.pattern)).runs,
      joined-begins _ _ c.new-string.ensures.bytes,
    )

pub returns-in_default : goal.returns-in_default
returns-in_default c =
    let next = field_comes (split_steps FindsChar (λ a b. b ≡ a)) c.loop-field.invariant.0 c.loop-field.field-iterator c.next.new.self c.in-Some.field c.loop-field.invariant.1 c.in-Some.ensures.steps in
    field_refused _ c.in-Some.field.now next.0 _ c.in_default.ensures (subst (λ fields. joined (string_bytes c.loop-field.string) (characters_of fields) ≡ characters_of (spaced c.args.text.now)) next.1 c.loop-field.invariant.2)

pub loop-field-preserved : goal.loop-field-preserved
loop-field-preserved c =
    let next = field_comes (split_steps FindsChar (λ a b. b ≡ a)) c.loop-field.invariant.0 c.loop-field.field-iterator c.next.new.self c.in-Some.field c.loop-field.invariant.1 c.in-Some.ensures.steps in (
      next.0,
      next.2,
      field_read (string_bytes c.loop-field.string) (string_bytes c.push.new.self) c.in-Some.field.now next.0 c.in-Some-character_of.c _ (IsUtf8-string_bytes c.loop-field.string) (IsUtf8-string_bytes c.push.new.self) c.in_ok-push.ensures.bytes
          c.in-Some-character_of.ensures (subst (λ fields. joined (string_bytes c.loop-field.string) (characters_of fields) ≡ characters_of (spaced c.args.text.now)) next.1 c.loop-field.invariant.2),
    )

pub returns : goal.returns
returns c =
    let none = fields_end (split_steps FindsChar (λ a b. b ≡ a)) c.loop-field.invariant.0 _ _ c.loop-field.invariant.1 c.in-None.ensures.steps in
    fields_read (string_bytes c.loop-field.string) _ (subst (λ fields. joined (string_bytes c.loop-field.string) (characters_of fields) ≡ characters_of (spaced c.args.text.now)) none c.loop-field.invariant.2)
