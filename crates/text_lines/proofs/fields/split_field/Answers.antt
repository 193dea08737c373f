use Rattle.std.proofs.Common.{ℕ, List, take, drop, ap, sym, ◌∙◌, arith}
use Rattle.std.proofs.lemmas.Bool.{eqb-true, eqb-false}
use Rattle.text_lines.specs.Fields.{from_blank}
use Rattle.text_lines.proofs.RunsLemmas.{runs-split}
use Rattle.text_lines.proofs.fields.split_field.Goals as goal

pub returns-then-is_empty : goal.returns-then-is_empty
returns-then-is_empty c =
    let bytes = c.args.bytes.now in
    let text = c.split_at.result.1.now in
    let behind = c.split_at.ensures.back ∙ ap (λ (n : ℕ). drop n bytes) c.blank_len.ensures.count in
    let split = runs-split bytes text _ _ behind (c.split_at-2.ensures.front ∙ ap (λ (n : ℕ). take n text) c.word_len.ensures.count) (c.split_at-2.ensures.back ∙ ap (λ (n : ℕ). drop n text) c.word_len.ensures.count) in
    record { parts = split.1 (eqb-true _ _ (sym c.is_empty.ensures ∙ c.if-is_empty.true)); rest = tt }

pub returns : goal.returns
returns c =
    let bytes = c.args.bytes.now in
    let text = c.split_at.result.1.now in
    let behind = c.split_at.ensures.back ∙ ap (λ (n : ℕ). drop n bytes) c.blank_len.ensures.count in
    let rest = c.split_at-2.ensures.back ∙ ap (λ (n : ℕ). drop n text) c.word_len.ensures.count in
    let split = runs-split bytes text _ _ behind (c.split_at-2.ensures.front ∙ ap (λ (n : ℕ). take n text) c.word_len.ensures.count) rest in
    let some = eqb-false _ _ (sym c.is_empty.ensures ∙ c.if-is_empty.false) in
    record { parts = split.0 (omega (arith, some)); rest = rest ∙ ap (λ (t : List ℕ). from_blank t) behind }
