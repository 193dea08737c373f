use Rattle.std.proofs.Common.{◌≡◌, ℕ, List, Option, Some, None, false, ◌||◌, length, option_map, refl, sym, ap, ◌∙◌, rules}
use Rattle.cp_invlist.specs.InversionList.{contains}
use Rattle.std.specs.BTreeSet.{contains_text}
use Rattle.std.specs.List.{list_any}
use Rattle.std.specs.String.{string_bytes}
use Rattle.std.proofs.Math.Bool.{or-false}
use Rattle.prop_data.specs.declared.error.TableErrorKind.TheVariants.{TooLarge}
use Rattle.prop_data.specs.Loading.{emoji_read}
use Rattle.prop_data.specs.LineFault.{emoji_string_fault}
use Rattle.prop_data.specs.Strings.{is_surrogate, is_text, spelled_numbers, string_numbers, text_of_numbers, text_spelled}
use Rattle.prop_data.proofs.EmojiLemmas.{string_numbers-spelled, string_fault-large, is_string, string_fault-string, sole_of-string}
use Rattle.prop_data.proofs.load.emoji.OpenEmoji.add_string.Goals as goal

pub returns-in_err-text : goal.returns-in_err-text
returns-in_err-text c =
    let ns = c.in_ok-numbers.numbers.items in
    let spelled : Some ns ≡ spelled_numbers c.args.inner.now = ap (option_map (λ v. v.items)) (sym c.in_ok-numbers.ensures.ok_part) ∙ c.in_ok-spelled_numbers.ensures in
    let apart : list_any is_surrogate ns ≡ false = ap (list_any is_surrogate) (sym c.deref.ensures.value) ∙ (sym c.has_surrogate.ensures ∙ c.if-has_surrogate.false) in
    let numbers_are = string_numbers-spelled c.args.inner.now ns spelled apart in
    let text_is : None ≡ text_spelled c.deref-2.result.now = ap (option_map string_bytes) (sym c.in_err-text.ensures.ok_part) ∙ c.in_ok-text_of.ensures in
    let none : None ≡ text_spelled ns = text_is ∙ ap text_spelled c.deref-2.ensures.value in
    let large : emoji_string_fault (emoji_read c.args.self.now) (string_numbers c.args.inner.now) ≡ Some TooLarge =
    ap (emoji_string_fault (emoji_read c.args.self.now)) numbers_are ∙ string_fault-large (emoji_read c.args.self.now) ns apart none in
    search (rules, large)

pub returns-then-contains : goal.returns-then-contains
returns-then-contains c =
    let ns = c.in_ok-numbers.numbers.items in
    let spelled : Some ns ≡ spelled_numbers c.args.inner.now = ap (option_map (λ v. v.items)) (sym c.in_ok-numbers.ensures.ok_part) ∙ c.in_ok-spelled_numbers.ensures in
    let apart : list_any is_surrogate ns ≡ false = ap (list_any is_surrogate) (sym c.deref.ensures.value) ∙ (sym c.has_surrogate.ensures ∙ c.if-has_surrogate.false) in
    let numbers_are = string_numbers-spelled c.args.inner.now ns spelled apart in
    let text = string_bytes c.in_ok-text.text in
    let text_is : Some text ≡ text_spelled c.deref-2.result.now = ap (option_map string_bytes) (sym c.in_ok-text.ensures.ok_part) ∙ c.in_ok-text_of.ensures in
    let string = is_string ns text apart (text_is ∙ ap text_spelled c.deref-2.ensures.value) (λ one. c.if-len-eq1.false (c.len.ensures ∙ (sym c.deref.ensures.len ∙ (ap length c.deref.ensures.value ∙ one)))) in
    let there : contains_text c.args.self.now.strings text ≡ c.contains.result = ap (contains_text c.args.self.now.strings) (sym c.as_str.ensures.value) ∙ sym c.contains.ensures in
    ap (emoji_string_fault (emoji_read c.args.self.now)) numbers_are ∙ string_fault-string (emoji_read c.args.self.now) ns text _ string (there ∙ c.if-contains.true)

pub insert-requires : goal.insert-requires
insert-requires c =
    let ns = c.in_ok-numbers.numbers.items in
    let apart : list_any is_surrogate ns ≡ false = ap (list_any is_surrogate) (sym c.deref.ensures.value) ∙ (sym c.has_surrogate.ensures ∙ c.if-has_surrogate.false) in
    let text = string_bytes c.in_ok-text.text in
    let text_is : Some text ≡ text_spelled c.deref-2.result.now = ap (option_map string_bytes) (sym c.in_ok-text.ensures.ok_part) ∙ c.in_ok-text_of.ensures in
    let string = is_string ns text apart (text_is ∙ ap text_spelled c.deref-2.ensures.value) (λ one. c.if-len-eq1.false (c.len.ensures ∙ (sym c.deref.ensures.len ∙ (ap length c.deref.ensures.value ∙ one)))) in
    sole_of-string ns text string

pub returns : goal.returns
returns c =
    let ns = c.in_ok-numbers.numbers.items in
    let spelled : Some ns ≡ spelled_numbers c.args.inner.now = ap (option_map (λ v. v.items)) (sym c.in_ok-numbers.ensures.ok_part) ∙ c.in_ok-spelled_numbers.ensures in
    let apart : list_any is_surrogate ns ≡ false = ap (list_any is_surrogate) (sym c.deref.ensures.value) ∙ (sym c.has_surrogate.ensures ∙ c.if-has_surrogate.false) in
    let numbers_are = string_numbers-spelled c.args.inner.now ns spelled apart in
    let text = string_bytes c.in_ok-text.text in
    let text_is : Some text ≡ text_spelled c.deref-2.result.now = ap (option_map string_bytes) (sym c.in_ok-text.ensures.ok_part) ∙ c.in_ok-text_of.ensures in
    let string = is_string ns text apart (text_is ∙ ap text_spelled c.deref-2.ensures.value) (λ one. c.if-len-eq1.false (c.len.ensures ∙ (sym c.deref.ensures.len ∙ (ap length c.deref.ensures.value ∙ one)))) in
    let there : contains_text c.args.self.now.strings text ≡ c.contains.result = ap (contains_text c.args.self.now.strings) (sym c.as_str.ensures.value) ∙ sym c.contains.ensures in
    let text_told : option_map text_of_numbers (string_numbers c.args.inner.now) ≡ Some text = ap (option_map text_of_numbers) numbers_are ∙ ap Some (sym string.text_is) in (
      ap (emoji_string_fault (emoji_read c.args.self.now)) numbers_are ∙ string_fault-string (emoji_read c.args.self.now) ns text _ string (there ∙ c.if-contains.false),
      refl,
      refl,
      λ d. sym (or-false (contains c.args.self.now.builder d)),
      λ bytes.
          c.in_ok-insert.ensures.ok bytes
          ∙ ap (λ (o : Option (List ℕ)). contains_text c.args.self.now.strings bytes || is_text o bytes) (sym text_told),
    )
