use Rattle.std.proofs.Common.{◌≡◌, sym, ap, ◌∙◌, rules}
use Rattle.text_lines.specs.Fields.{is_sole}
use Rattle.text_lines.proofs.CutLemmas.{starts, passes, finds, cut_front, cut_rest, cut_boundary}
use Rattle.text_lines.proofs.parts.split_behind.Goals as goal

pub loop-line-init : goal.loop-line-init
loop-line-init c = (c.utf8.text, starts c.args.word.now c.args.text.now)

pub split_at-requires : goal.split_at-requires
split_at-requires c =
    let word = c.args.word.now in
    let has : is_sole word c.in-Some.line.now ≡ _ = ap (is_sole word) (sym c.as_bytes.ensures.value) ∙ (sym c.is_sole.ensures ∙ c.if-is_sole.true) in
    cut_boundary word _ c.in-Some.behind.now
    (finds word _ _ c.in-Some.line.now _ c.loop-line.invariant.1 c.in-Some.ensures.parts c.in-Some.ensures.cut has)
    (search rules)

pub returns-then-is_sole-clause-front : goal.returns-then-is_sole-clause-front
returns-then-is_sole-clause-front c =
    let word = c.args.word.now in
    let has : is_sole word c.in-Some.line.now ≡ _ = ap (is_sole word) (sym c.as_bytes.ensures.value) ∙ (sym c.is_sole.ensures ∙ c.if-is_sole.true) in
    cut_front word _ c.in-Some.behind.now c.split_at.result.0.now
    (finds word _ _ c.in-Some.line.now _ c.loop-line.invariant.1 c.in-Some.ensures.parts c.in-Some.ensures.cut has)
    c.split_at.ensures.front

pub returns-then-is_sole-clause-rest : goal.returns-then-is_sole-clause-rest
returns-then-is_sole-clause-rest c =
    let word = c.args.word.now in
    let has : is_sole word c.in-Some.line.now ≡ _ = ap (is_sole word) (sym c.as_bytes.ensures.value) ∙ (sym c.is_sole.ensures ∙ c.if-is_sole.true) in
    cut_rest word _ c.in-Some.behind.now c.split_at.result.1.now
    (finds word _ _ c.in-Some.line.now _ c.loop-line.invariant.1 c.in-Some.ensures.parts c.in-Some.ensures.cut has)
    c.split_at.ensures.back

pub loop-line-preserved : goal.loop-line-preserved
loop-line-preserved c =
    let word = c.args.word.now in
    let lacks_word : is_sole word c.in-Some.line.now ≡ _ = ap (is_sole word) (sym c.as_bytes.ensures.value) ∙ (sym c.is_sole.ensures ∙ c.if-is_sole.false) in (
      search rules,
      passes word _ _ c.in-Some.line.now _ c.loop-line.invariant.1 c.in-Some.ensures.parts c.in-Some.ensures.cut lacks_word,
    )
