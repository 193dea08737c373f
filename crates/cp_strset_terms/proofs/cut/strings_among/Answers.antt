use Rattle.std.proofs.Common.{◌-◌, map, length, sym, ap, ◌∙◌, arith}
use Rattle.std.proofs.lemmas.List.{length-map}
use Rattle.std.proofs.lemmas.Option.{slice_get-map}
use Rattle.std.specs.List.{slice_get}
use Rattle.std.specs.Option.{option_map}
use Rattle.cp_strset_terms.proofs.CutLemmas.{none_below_earlier, none_above_last}
use Rattle.cp_strset_terms.proofs.cut.strings_among.Goals as goal

pub returns-clause-same : goal.returns-clause-same
returns-clause-same c = λ place text here.
    let list = c.args.list.now in
    let texts = map (λ text. text.now) list in
    let first = slice_get-map (λ text. text.now) list 0 ∙ ap (option_map (λ text. text.now)) (sym c.in-Some-Some.ensures.value) in
    let last = ap (λ n. slice_get texts (n - 1)) (length-map list (λ text. text.now)) ∙ (slice_get-map (λ text. text.now) list (length list - 1) ∙ ap (option_map (λ text. text.now)) (sym c.in-Some-Some.ensures'.value)) in
    c.strings_up_to.ensures.same text (none_above_last texts c.requires.list.ascending c.in-Some-Some.last.now.now text place last here)
    ∙ c.strings_from.ensures.same text (none_below_earlier texts c.requires.list.ascending 0 place c.in-Some-Some.first.now.now text first here (omega arith))
