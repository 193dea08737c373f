use Rattle.std.proofs.Common.{◌++◌, codes, encode_utf8_all, ap, ◌∙◌, append_assoc}
use Rattle.std.specs.Str.{chars}
use Rattle.uset_fault.specs.Errors.{front_shown, with_arrow, words_told}
use Rattle.uset_fault.proofs.WordsBytes.{shown_in_parts}
use Rattle.uset_fault.proofs.error.ParseError.fmt_with_source.Goals as goal

pub returns : goal.returns
returns c =
    let error = c.args.self.now in
    let source = chars c.args.source.now in
    let front = encode_utf8_all (with_arrow (front_shown error source)) in
    let wrong = encode_utf8_all (words_told error.kind) in
    c.in_ok-push_words.ensures ∙ (ap (λ t. t ++ wrong) (c.in_ok-push_str.ensures.bytes ∙ ap (λ t. t ++ codes "error: ") (c.in_ok-push_front.ensures ∙ ap (λ t. t ++ front) c.new-text.ensures.bytes))
    ∙ (append_assoc front (codes "error: ") wrong ∙ shown_in_parts error source))
