use Rattle.std.proofs.Common.{◌≡◌, true≢false, All, Bool, List, ℕ, map, filter, ap, sym, subst, ◌∙◌}
use Rattle.std.proofs.lemmas.Bool.{false_from_ne_true}
use Rattle.std.proofs.lemmas.Result.{IfOk-weaker}
use Rattle.std.specs.List.{flat_map}
use Rattle.std.specs.String.{string_bytes}
use Rattle.cp_strset.specs.StringList.{AreCanonical, holds}
use Rattle.cp_terms.specs.Terms.{value_of}
use Rattle.cp_strset_terms.specs.Leaves.{leaf_holds, strings_of, FitsNumbers}
use Rattle.cp_strset_terms.specs.Steps.{without_complements}
use Rattle.cp_strset_terms.proofs.KeptLemmas.{filter-canonical, holds-filter}
use Rattle.cp_strset_terms.proofs.members.strings_of_term.Goals as goal

pub table_of_term-requires-clause-candidates : goal.table_of_term-requires-clause-candidates
table_of_term-requires-clause-candidates c = subst (All (FitsNumbers c.args.all.now)) (sym c.deref.ensures.value) (c.in_ok-candidates.ensures.fits c.args.all.now c.requires)

pub returns-clause-canonical : goal.returns-clause-canonical
returns-clause-canonical c =
    let test : List ℕ → Bool = λ text. value_of (leaf_holds c.args.leaves.now text) c.deref-4.result.now in
    let table = map (λ text. text.now) c.deref-3.result.now in
    let canonical = subst (λ l. AreCanonical (map (λ text. text.now) l)) (sym c.deref-3.ensures.value) c.in_ok-table.ensures.canonical in
    IfOk-weaker c.kept_texts.result (λ strings. map string_bytes strings.items ≡ filter test table) (λ strings. AreCanonical (map string_bytes strings.items))
    (λ strings is. subst AreCanonical (sym is) (filter-canonical test table canonical)) c.kept_texts.ensures

pub returns-clause-strings : goal.returns-clause-strings
returns-clause-strings c =
    let test : List ℕ → Bool = λ text. value_of (leaf_holds c.args.leaves.now text) c.deref-4.result.now in
    let table = map (λ text. text.now) c.deref-3.result.now in
    let steps = c.deref-4.ensures.value ∙ c.in_ok-steps.ensures in
    let narrowed = c.deref-2.ensures.value ∙ c.in_ok-steps.ensures in
    IfOk-weaker c.kept_texts.result (λ strings. map string_bytes strings.items ≡ filter test table)
    (λ strings. (bytes : List ℕ) → holds (map string_bytes strings.items) bytes ≡ value_of (leaf_holds c.args.leaves.now bytes) (without_complements c.args.steps.now))
    (λ strings is bytes.
    ap (λ l. holds l bytes) is
    ∙ (holds-filter test table bytes (λ absent.
    ap (value_of (leaf_holds c.args.leaves.now bytes)) steps
    ∙ false_from_ne_true (value_of (leaf_holds c.args.leaves.now bytes) (without_complements c.args.steps.now)) (λ held.
    true≢false (sym (c.in_ok-table.ensures.complete bytes (ap (value_of (leaf_holds c.args.leaves.now bytes)) narrowed ∙ held)
    (ap (λ l. holds (flat_map strings_of l) bytes) c.deref.ensures.value ∙ c.in_ok-candidates.ensures.held bytes held))
    ∙ (ap (λ l. holds (map (λ text. text.now) l) bytes) (sym c.deref-3.ensures.value) ∙ absent))))
    ∙ ap (value_of (leaf_holds c.args.leaves.now bytes)) steps))
    c.kept_texts.ensures
