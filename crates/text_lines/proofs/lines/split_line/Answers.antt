use Rattle.std.proofs.Common.{Some, None, [], ◌∷◌, ◌++◌, length, refl, sym, ◌∙◌, inl, inr, append_assoc, append-nil, arith, lit<}
use Rattle.std.proofs.lemmas.Bool.{eqb-false}
use Rattle.std.proofs.lemmas.Str.Pattern.{split_parts, strip_suffix_char}
use Rattle.text_lines.proofs.LinesLemmas.{lines-first, lines-last}
use Rattle.text_lines.proofs.lines.split_line.Goals as goal

pub returns-in-Some-clause-parts : goal.returns-in-Some-clause-parts
returns-in-Some-clause-parts c =
    let parts = split_parts 10 c.args.text.now (Some (c.in-Some.line, c.in-Some.rest)) c.in-Some.ensures.cases (lit< tt) in
    let stripped = strip_suffix_char 13 c.in-Some.line.now c.strip_suffix.result c.strip_suffix.ensures.cases (lit< tt) in
    rw c.unwrap_or.ensures (lines-first _ c.in-Some.line c.in-Some.rest c.strip_suffix.result parts.0 parts.1 stripped)

pub returns-in-None-clause-parts : goal.returns-in-None-clause-parts
returns-in-None-clause-parts c =
    let some = eqb-false (length c.args.text.now) 0 (sym c.is_empty.ensures ∙ c.if-is_empty.false) in
    lines-last c.args.text.now (split_parts 10 c.args.text.now None c.in-None.ensures.cases (lit< tt)) (omega (arith, some))

pub returns-in-Some-clause-cut : goal.returns-in-Some-clause-cut
returns-in-Some-clause-cut c =
    let parts = split_parts 10 c.args.text.now (Some (c.in-Some.line, c.in-Some.rest)) c.in-Some.ensures.cases (lit< tt) in
    record {
      front = c.in-Some.line.now ++ 10 ∷ [];
      joins = parts.0 ∙ sym (append_assoc c.in-Some.line.now (10 ∷ []) c.in-Some.rest.now);
      ends = inr (c.in-Some.line.now, refl);
    }

pub returns-in-None-clause-cut : goal.returns-in-None-clause-cut
returns-in-None-clause-cut c = record { front = c.args.text.now; joins = sym (append-nil c.args.text.now); ends = inl refl }
