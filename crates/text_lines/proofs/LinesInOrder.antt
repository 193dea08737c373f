-- What an iterator of lines gives is the first of those that were to come.
use Rattle.std.proofs.Common.{◌≡◌, ℕ, ◌<◌, List, [], ◌∷◌, ◌++◌, length, take, drop, sym, ap, subst, ◌∙◌, arith, inl, inr, length-drop, ⊎_elim}
use Rattle.std.proofs.lemmas.Bool.{eqb-true, cases_lt}
use Rattle.std.proofs.lemmas.List.{nil_from_length, take-append-drop, take_all}
use Rattle.std.proofs.lemmas.Str.{encode_ascii}
use Rattle.std.specs.Char.{encode_utf8}
use Rattle.std.proofs.lemmas.Str.Pattern.{NoCharPasses-char}
use Rattle.std.specs.Str.Lines.{lines, IsFirstLine, StripsCarriageReturn, strip_carriage_return}
use Rattle.text_lines.specs.Laws.{LinesComeInOrder}
use Rattle.text_lines.proofs.LinesLemmas.{HasNoEnding, lines-ended_first, lines-last, strip-other, strip-ended}

stripped : (l x : List ℕ) → StripsCarriageReturn l x → strip_carriage_return l ≡ x
stripped l x (inl (e, other)) = strip-other l other ∙ sym e
stripped l x (inr e) = ap strip_carriage_return e ∙ strip-ended x

first_line : (text line rest : List ℕ) → 0 < length text → IsFirstLine text line rest → lines text ≡ line ∷ lines rest
first_line text line rest some h =
    let n = h.0 in
    let plain : HasNoEnding (take n text) = λ k lt. NoCharPasses-char 0x0A (take n text) k h.1 (omega arith) lt in
    ⊎_elim
    (λ within.
    let end = h.2 (omega (arith, length-drop n text)) in
    let behind : drop n text ≡ 0x0A ∷ rest = end.2 ∙ ap (λ bytes. bytes ++ rest) (ap encode_utf8 (eqb-true end.0 0x0A end.1) ∙ encode_ascii 0x0A (omega arith)) in
    ap lines (sym (take-append-drop n text) ∙ ap (λ bytes. take n text ++ bytes) behind)
    ∙ (lines-ended_first (take n text) rest plain ∙ ap (λ l. l ∷ lines rest) (stripped (take n text) line (h.5 within))))
    (λ whole.
    let none : [] ≡ rest = sym (nil_from_length rest (omega (arith, h.3))) in
    let all : HasNoEnding text = subst HasNoEnding (take_all n text whole) plain in
    lines-last text all some ∙ (ap (λ l. l ∷ []) (sym (h.4 (omega (arith, h.3)))) ∙ ap (λ bytes. line ∷ lines bytes) none))
    (cases_lt n (length text))

pub lines_come_in_order : LinesComeInOrder
lines_come_in_order = λ before after line h. first_line before.rest.now line.now after.rest.now h.0.0 h.0.2
