use Rattle.std.proofs.Common.{◌+◌, All, map, sym, subst, ap, ◌∙◌, arith, nat_cmp}
use Rattle.std.proofs.lemmas.List.{take_rest, drop-map, get_or-drop, length-drop}
use Rattle.std.specs.Cmp.Lexicographic.{slice_cmp}
use Rattle.std.specs.Ordering.{is_lt}
use Rattle.std.specs.String.{string_bytes}
use Rattle.cp_strset.specs.StringList.{AreCanonical, holds}
use Rattle.cp_strset_terms.specs.Cut.{IsNotBelow}
use Rattle.cp_strset_terms.proofs.CutLemmas.{holds-drop}
use Rattle.cp_strset_terms.proofs.TableLemmas.{canonical-drop}
use Rattle.cp_strset_terms.proofs.cut.strings_from.Goals as goal

pub returns-clause-canonical : goal.returns-clause-canonical
returns-clause-canonical c =
    let strings = c.args.strings.now in
    let start = c.count_below-start.result in
    subst AreCanonical (drop-map string_bytes start strings ∙ ap (map string_bytes) (sym (take_rest strings start))) (canonical-drop start (map string_bytes strings) c.requires)

pub returns-clause-same : goal.returns-clause-same
returns-clause-same c = λ text fails.
    let strings = c.args.strings.now in
    let start = c.count_below-start.result in
    ap (λ l. holds (map string_bytes l) text) (take_rest strings start)
    ∙ holds-drop (λ s. is_lt (slice_cmp nat_cmp s c.args.first.now)) strings start text c.count_below-start.ensures.below fails

pub returns-clause-behind : goal.returns-clause-behind
returns-clause-behind c =
    let strings = c.args.strings.now in
    let start = c.count_below-start.result in
    subst (All (IsNotBelow c.args.first.now)) (sym (take_rest strings start)) (λ k d within.
    subst (IsNotBelow c.args.first.now) (sym (get_or-drop start strings k d)) (c.count_below-start.ensures.behind (start + k) d (omega arith) (omega (arith, length-drop start strings))))
