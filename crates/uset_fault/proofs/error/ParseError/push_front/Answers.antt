use Rattle.std.proofs.Common.{◌++◌, [], ◌∷◌, ap, ◌∙◌, append_assoc}
use Rattle.std.specs.Str.{chars}
use Rattle.std.specs.String.{string_bytes}
use Rattle.uset_fault.specs.Errors.{front_shown}
use Rattle.uset_fault.proofs.WordsBytes.{arrowed}
use Rattle.uset_fault.proofs.error.ParseError.push_front.Goals as goal

pub returns-in_ok-push_str-2 : goal.returns-in_ok-push_str-2
returns-in_ok-push_str-2 c =
    let old = string_bytes c.args.text.now in
    let arrow = 226 ∷ 134 ∷ 144 ∷ 32 ∷ [] in
    c.in_ok-push_str-2.ensures.bytes ∙ (ap (λ t. t ++ arrow) c.in_ok-push_str.ensures.bytes
    ∙ (append_assoc old c.in-Some.front.now arrow ∙ ap (λ t. old ++ t) (arrowed (front_shown c.args.self.now (chars c.args.source.now)) c.in-Some.front.now c.in-Some.ensures)))
