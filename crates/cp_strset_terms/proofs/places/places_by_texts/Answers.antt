use Rattle.std.proofs.Common.{◌≡◌, ◌<◌, ◌≤◌, ◌&&◌, ◌||◌, Bor, ℕ, List, [], map, length, get_or, refl, sym, ap, ◌∙◌, arith}
use Rattle.std.proofs.lemmas.Bool.{lt-ltb}
use Rattle.std.proofs.lemmas.List.{length-map}
use Rattle.std.proofs.lemmas.Option.{slice_get_within}
use Rattle.std.specs.String.{string_bytes}
use Rattle.cp_invlist.specs.InversionList.{contains, is_added}
use Rattle.cp_strset.specs.StringList.{holds}
use Rattle.cp_strset_terms.specs.Places.{texts, IsAt}
use Rattle.cp_strset_terms.proofs.CutLemmas.{none_below_earlier}
use Rattle.cp_strset_terms.proofs.KeptLemmas.{place_added, place_passed}
use Rattle.cp_strset_terms.proofs.PlacesLemmas.{is_at, text_at}
use Rattle.cp_strset_terms.proofs.places.places_by_texts.Goals as goal
use Rattle.cp_strset_terms.proofs.places.places_by_texts.Goals.{then-begins_with+in_ok-add32, else-begins_with}

-- what is left of the strings has the texts from the one at the index on that all have
rest_kept : (c : goal.Joined-begins_with) (place : ℕ) (text : List ℕ) → IsAt (texts c.args.list.now) place text → c.loop-index.index ≤ place →
    holds (map string_bytes c.strings_from-rest.result.now) text ≡ holds (map string_bytes c.args.strings.now) text
rest_kept c place text here from =
    let d : Bor (List ℕ) = record { ref_ptr = (0, 0); now = [] } in
    let list = c.args.list.now in
    let first = (get_or list c.loop-index.index d).now in
    let at = is_at (λ text. text.now) list c.loop-index.index first d c.loop-index-test.true refl in
    c.strings_from-rest.ensures.same text (none_below_earlier (texts list) c.requires.list.ascending c.loop-index.index place first text at here from)
    ∙ c.loop-index.invariant.1 place text here from

pub loop-index-preserved : goal.loop-index-preserved
loop-index-preserved c = (
  c.strings_from-rest.ensures.canonical,
  λ place text here from. rest_kept c place text here (omega arith),
  λ place text here.
      let d : Bor (List ℕ) = record { ref_ptr = (0, 0); now = [] } in
      let list = c.args.list.now in
      let strings = map string_bytes c.args.strings.now in
      let rest = map string_bytes c.strings_from-rest.result.now in
      let at = c.loop-index.index in
      let before = c.loop-index.invariant.2 place text here in
      let within : place < length list = omega (arith, slice_get_within (map (λ text. text.now) list) place text here, length-map list (λ text. text.now)) in
      let tested : place ≡ at → holds strings text ≡ c.begins_with.result =
      λ same. sym (rest_kept c place text here (omega arith)) ∙ (ap (holds rest) (sym (text_at (λ text. text.now) list place text d here) ∙ ap (λ k. (get_or list k d).now) same) ∙ sym c.begins_with.ensures) in
      elim c.if-begins_with.branch [
        | then-begins_with+in_ok-add32 w ↦
            ap (λ set. contains set place) w.places-is
            ∙ (w.in_ok-add32.ensures.ok place
            ∙ (ap (λ b. b || is_added at place) before
            ∙ place_added place at (holds strings text) (omega (arith, within, c.requires.numbered)) (λ same. tested same ∙ w.if-begins_with.true)))
        | else-begins_with w ↦
            ap (λ set. contains set place) w.places-is
            ∙ (before ∙ place_passed place at (holds strings text) (λ same. tested same ∙ w.if-begins_with.false))
      ],
)

pub returns : goal.returns
returns c = λ place text here.
    let within : place < length c.args.list.now = omega (arith, slice_get_within (map (λ text. text.now) c.args.list.now) place text here, length-map c.args.list.now (λ text. text.now)) in
    ap (λ set. contains set place) c.build.ensures.list
    ∙ (c.loop-index.invariant.2 place text here
    ∙ ap (λ b. b && holds (map string_bytes c.args.strings.now) text) (lt-ltb place c.loop-index.index (omega arith)))
