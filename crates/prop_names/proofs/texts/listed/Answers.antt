use Rattle.std.proofs.Common.{◌≡◌, ℕ, ◌==◌, true, false, List, ◌∷◌, [], Option, Some, None, option_map, option_and_then, length, map, refl, ap, sym, ◌∙◌}
use Rattle.std.proofs.lemmas.Option.{slice_get-map, slice_get_past, slice_get_read}
use Rattle.std.proofs.lemmas.Bool.{true≢false}
use Rattle.std.proofs.Math.Dec.{eqb-suc-zero}
use Rattle.std.specs.Prelude.{String, slice_get}
use Rattle.std.specs.Global.{Global}
use Rattle.std.specs.String.{string_bytes}
use Rattle.prop_names.specs.ValueNames.{not_empty, listed_at}
use Rattle.prop_names.proofs.texts.listed.Goals as goal

listed_as : (names : List (String Global)) (index : ℕ) (found : Option (String Global)) → slice_get names index ≡ found →
    listed_at (map string_bytes names) index ≡ option_and_then not_empty (option_map string_bytes found)
listed_as names index found is = ap (option_and_then not_empty) (slice_get-map string_bytes names index ∙ ap (option_map string_bytes) is)

not_empty-empty : (text : List ℕ) → true ≡ (length text == 0) → None ≡ not_empty text
not_empty-empty [] is = refl
not_empty-empty (c ∷ cs) is = absurd (true≢false (is ∙ eqb-suc-zero (length cs)))

not_empty-filled : (text : List ℕ) → false ≡ (length text == 0) → Some text ≡ not_empty text
not_empty-filled [] is = absurd (let f : false ≡ true = is in cc)
not_empty-filled (c ∷ cs) is = refl

pub returns-in_err-get-clause-value : goal.returns-in_err-get-clause-value
returns-in_err-get-clause-value c =
    let past = c.in_err-get.ensures.lookup.3 in
    rw c.from_residual.ensures (sym (listed_as c.args.names.now c.args.index None (slice_get_past c.args.names.now c.args.index past)))

pub returns-then-is_empty-clause-value : goal.returns-then-is_empty-clause-value
returns-then-is_empty-clause-value c =
    let found = c.in_ok-get.ensures.lookup in
    let names = c.args.names.now in
    not_empty-empty _ (rw (sym c.as_str-name.ensures.value) c.if-is_empty.ensures)
    ∙ sym (listed_as names c.args.index _ (slice_get_read names (length names) c.args.index _ refl found.3.0 found.1))

pub returns-else-is_empty-clause-value : goal.returns-else-is_empty-clause-value
returns-else-is_empty-clause-value c =
    let found = c.in_ok-get.ensures.lookup in
    let names = c.args.names.now in
    rw c.as_str-name.ensures.value (not_empty-filled _ (rw (sym c.as_str-name.ensures.value) c.if-is_empty.ensures))
    ∙ sym (listed_as names c.args.index _ (slice_get_read names (length names) c.args.index _ refl found.3.0 found.1))
