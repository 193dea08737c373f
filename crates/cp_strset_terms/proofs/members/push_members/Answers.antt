use Rattle.std.proofs.Common.{Bor, ℕ, List, [], map, get_or, refl, sym, ap, ◌∙◌}
use Rattle.std.specs.String.{string_bytes}
use Rattle.cp_strset_terms.proofs.KeptLemmas.{kept_more, kept_others}
use Rattle.cp_strset_terms.proofs.PlacesLemmas.{is_at}
use Rattle.cp_strset_terms.proofs.members.push_members.Goals as goal
use Rattle.cp_strset_terms.proofs.members.push_members.Goals.{then-contains32+in_ok-from_str+in_ok-push, else-contains32}

pub loop-place-preserved : goal.loop-place-preserved
loop-place-preserved c = λ test agree.
    let d : Bor (List ℕ) = record { ref_ptr = (0, 0); now = [] } in
    let place = c.loop-place.place in
    let list = c.args.list.now in
    let old = map string_bytes c.args.strings.now.items in
    let before = c.loop-place.invariant test agree in
    let tested = sym (agree place (get_or list place d).now (is_at (λ text. text.now) list place (get_or list place d).now d c.loop-place-test.true refl)) ∙ sym c.contains32.ensures in
    elim c.if-contains32.branch [
      | then-contains32+in_ok-from_str+in_ok-push w ↦
          ap (λ v. map string_bytes v.items) w.strings-is
          ∙ (ap (map string_bytes) w.in_ok-push.ensures.items
          ∙ kept_more test list place d old c.loop-place.strings.items w.in_ok-from_str.field-0 c.loop-place-test.true (tested ∙ w.if-contains32.true) w.in_ok-from_str.ensures.ok before)
      | else-contains32 w ↦
          ap (λ v. map string_bytes v.items) w.strings-is
          ∙ kept_others test list place d old (map string_bytes c.loop-place.strings.items) c.loop-place-test.true (tested ∙ w.if-contains32.false) before
    ]
