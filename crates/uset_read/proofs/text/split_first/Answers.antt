use Rattle.std.proofs.Common.{ℕ, List, ◌++◌, ◌∙◌, sym, ap, encode_utf8, length, arith}
use Rattle.std.proofs.lemmas.Str.{chars_past_char}
use Rattle.uset_read.proofs.text.split_first.Goals as goal

pub returns-clause-bytes : goal.returns-clause-bytes
returns-clause-bytes c =
    sym c.chars-characters.ensures.rest ∙ (c.in_ok-first.ensures.steps.0 ∙ ap (λ (r : List ℕ). encode_utf8 c.in_ok-first.first ++ r) (sym c.as_str.ensures))

pub returns-clause-parts : goal.returns-clause-parts
returns-clause-parts c = chars_past_char c.args.text.now c.as_str.result.now c.in_ok-first.first c.utf8.text (returns-clause-bytes c)

pub returns-clause-fewer : goal.returns-clause-fewer
returns-clause-fewer c = omega (arith, ap length (returns-clause-parts c))
