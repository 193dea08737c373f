use Rattle.std.proofs.Common.{◌||◌, map, take, arith, sym, ap, ap₂, ◌∙◌}
use Rattle.std.proofs.Math.Bool.{or-false}
use Rattle.std.proofs.lemmas.List.{length-map, take_all}
use Rattle.std.proofs.lemmas.Option.{same_Some, slice_get_within}
use Rattle.std.specs.String.{string_bytes}
use Rattle.cp_invlist.specs.InversionList.{contains}
use Rattle.cp_strset.specs.StringList.{holds}
use Rattle.cp_strset_terms.proofs.KeptLemmas.{holds-more, is_added-place, absent}
use Rattle.cp_strset_terms.proofs.places.places_by_strings.Goals as goal
use Rattle.cp_strset_terms.proofs.places.places_by_strings.Goals.{in-Some+in_ok-add32, in_default}

pub overflow_cast-place : goal.overflow_cast-place
overflow_cast-place c =
    let within = slice_get_within (map (λ text. text.now) c.args.list.now) c.in-Some.place c.as_str.result.now ((c.place_of.ensures c.in-Some.place).0 c.in-Some.is) in
    omega (arith, within, length-map c.args.list.now (λ text. text.now))

pub loop-string-preserved : goal.loop-string-preserved
loop-string-preserved c = λ place text here.
    let list = map (λ text. text.now) c.args.list.now in
    let string = c.as_str.result.now in
    let before = c.loop-string.invariant place text here in
    let more = holds-more c.args.strings.now c.loop-string.string-index c.string-item.result string text c.loop-string-test.true (c.as_str.ensures.value ∙ ap string_bytes c.string-item.is) in
    elim c.match-place_of.branch [
      | in-Some+in_ok-add32 w ↦
          ap (λ set. contains set place) w.places-is
          ∙ (w.in_ok-add32.ensures.ok place
          ∙ (ap₂ ◌||◌ before (is_added-place list w.in-Some.place place string text (λ k at. same_Some k w.in-Some.place (sym ((c.place_of.ensures k).1 at) ∙ w.in-Some.is)) (omega (arith, c.requires.numbered, length-map c.args.list.now (λ text. text.now), slice_get_within list w.in-Some.place string ((c.place_of.ensures w.in-Some.place).0 w.in-Some.is))) ((c.place_of.ensures w.in-Some.place).0 w.in-Some.is) here)
          ∙ sym more))
      | in_default w ↦
          ap (λ set. contains set place) w.places-is
          ∙ (before
          ∙ (sym (or-false (holds (map string_bytes (take c.loop-string.string-index c.args.strings.now)) text))
          ∙ (ap (λ b. holds (map string_bytes (take c.loop-string.string-index c.args.strings.now)) text || b) (sym (absent list place string text (λ k at. w.in_default.not-Some k ((c.place_of.ensures k).1 at)) here))
          ∙ sym more)))
    ]

pub returns : goal.returns
returns c = λ place text here.
    ap (λ set. contains set place) c.build.ensures.list
    ∙ (c.loop-string.invariant place text here
    ∙ ap (λ l. holds (map string_bytes l) text) (take_all c.loop-string.string-index c.args.strings.now c.loop-string-test.false))
