use Rattle.std.proofs.Common.{◌≡◌, ◌++◌, codes, encode_utf8_all, ap, ◌∙◌, append_assoc}
use Rattle.std.specs.String.{string_bytes}
use Rattle.uset_grammar.specs.Shown.{quoted}
use Rattle.uset_fault.proofs.WordsBytes.{unexpected_bytes}
use Rattle.uset_fault.proofs.shown.push_unexpected.Goals as goal

pub returns : goal.returns
returns c =
    let old = string_bytes c.args.text.now in
    let front : string_bytes c.push_str.new.self ≡ old ++ codes "unexpected character '" = c.in_ok-push_str.ensures.bytes in
    let inner : string_bytes c.push_quoted.new.text ≡ string_bytes c.push_str.new.self ++ encode_utf8_all (quoted c.args.c) = c.in_ok-push_quoted.ensures in
    let last : string_bytes c.push_str-2.new.self ≡ string_bytes c.push_quoted.new.text ++ codes "'" = c.in_ok-push_str-2.ensures.bytes in
    last ∙ (ap (λ t. t ++ codes "'") (inner ∙ ap (λ t. t ++ encode_utf8_all (quoted c.args.c)) front)
    ∙ (append_assoc (old ++ codes "unexpected character '") (encode_utf8_all (quoted c.args.c)) (codes "'")
    ∙ (append_assoc old (codes "unexpected character '") (encode_utf8_all (quoted c.args.c) ++ codes "'")
    ∙ ap (λ t. old ++ t) (unexpected_bytes c.args.c))))
