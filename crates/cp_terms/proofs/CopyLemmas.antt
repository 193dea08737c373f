-- What changes tell of members where those of a set are copied.
use Rattle.std.proofs.Common.{◌≡◌, ℕ, ◌+◌, ◌<◌, ◌≤◌, ◌%◌, ◌==◌, Bool, true, false, not, List, All, ◌++◌, length, take, drop, refl, sym, ap, ap₂, ◌∙◌, arith, subst, inl, inr}
use Rattle.std.proofs.Math.Bool.{beq}
use Rattle.std.proofs.Math.Seq.{take-append_seam}
use Rattle.std.proofs.lemmas.Bool.{cases_lt}
use Rattle.std.proofs.lemmas.List.{take-append-drop, length-take-le}
use Rattle.std.proofs.lemmas.List.Elements.{All-append, All-take}
use Rattle.cp_invlist.specs.InversionList.{contains, differ, ascends_from, has_even_length}
use Rattle.cp_invlist.specs.ListLaws.{ascends_from-append, ascends_from-raise, contains-below, contains-all_above, contains-append, contains-all_at_most}
use Rattle.cp_invlist.specs.CutLaws.{differ-false, odd_length}
use Rattle.cp_invlist.specs.declared.window.Window.{Window}
use Rattle.cp_invlist.specs.Windows.{IsWindow, AreLeftBefore, is_inside}
use Rattle.cp_terms.specs.Changes.{AreBefore, TellBelow}
use Rattle.cp_terms.proofs.WindowLemmas.{IsAhead}
use Rattle.cp_terms.proofs.ChangesLemmas.{before_later, contains-behind}

-- the elements that are left before the end are not in front of the next one
pub left_ahead : (xs part : List ℕ) (start end : ℕ) (window : Window) → IsWindow xs start window → AreLeftBefore xs window.taken end part → All (λ x. window.next ≤ x) part
left_ahead xs part start end window is left =
    let whole = subst (All (λ x. window.next ≤ x)) left.split is.behind in
    subst (All (λ x. window.next ≤ x)) (take-append_seam part left.others) (All-take (λ x. window.next ≤ x) (length part) (part ++ left.others) whole)

-- so they go on above the place
left_ascends : (xs part : List ℕ) (start end : ℕ) (window : Window) → IsWindow xs start window → AreLeftBefore xs window.taken end part → ascends_from window.next part ≡ true
left_ascends xs part start end window is left = ascends_from-raise 0 window.next part (left_ahead xs part start end window is left) left.ascends

-- and they tell the members there
pub contains-left : (xs part : List ℕ) (start end c : ℕ) (window : Window) → IsWindow xs start window → AreLeftBefore xs window.taken end part → start ≤ c → c < end → contains xs c ≡ differ (is_inside window) (contains part c)
contains-left xs part start end c window is left le lt =
    ap (λ l. contains l c) (sym (take-append-drop window.taken xs))
    ∙ (contains-append (take window.taken xs) (drop window.taken xs) c
    ∙ ap₂ differ
    (contains-all_at_most c (take window.taken xs) (λ k d h. omega (arith, is.before k d h)) ∙ (odd_length (take window.taken xs) ∙ ap (λ n. n % 2 == 1) (length-take-le window.taken xs is.within)))
    (ap (λ l. contains l c) left.split ∙ (contains-append part left.others c ∙ (ap (differ (contains part c)) (contains-all_above c left.others (λ k d h. omega (arith, left.behind k d h))) ∙ differ-false (contains part c)))))

-- the changes that are copied behind others ascend
pub ascends_copied : (xs part changes : List ℕ) (start end : ℕ) (window : Window) → IsAhead xs start window → AreLeftBefore xs window.taken end part → AreBefore (start + 1) changes →
    ascends_from 0 changes ≡ true → ascends_from 0 (changes ++ part) ≡ true
ascends_copied xs part changes start end window is left before ascends =
    ascends_from-append 0 window.next changes part (omega arith) (before_later (start + 1) window.next changes (omega (arith, is.ahead)) before) ascends (left_ascends xs part start end window is.window_there left)

pub before_copied : (xs part changes : List ℕ) (taken start end : ℕ) → start < end → AreLeftBefore xs taken end part → AreBefore (start + 1) changes → AreBefore end (changes ++ part)
before_copied xs part changes taken start end lt left before = All-append (λ x. x < end) changes part (before_later (start + 1) end changes (omega arith) before) left.before

differ_copied : (inside complemented b : Bool) → differ (not (beq inside complemented)) b ≡ differ complemented (differ inside b)
differ_copied true true true = refl
differ_copied true true false = refl
differ_copied true false b = refl
differ_copied false true b = refl
differ_copied false false b = refl

-- the changes of a set are copied on a stretch
pub tell_copied : (m : ℕ → Bool) (xs part changes : List ℕ) (start end : ℕ) (window : Window) (complemented : Bool) → IsAhead xs start window → AreLeftBefore xs window.taken end part →
    AreBefore (start + 1) changes → not (has_even_length changes) ≡ not (beq (is_inside window) complemented) → TellBelow m start changes → ((c : ℕ) → start ≤ c → c < end → m c ≡ differ complemented (contains xs c)) → TellBelow m end (changes ++ part)
tell_copied m xs part changes start end window complemented is left before inside tell made = record {
  told = λ c lt. elim (cases_lt c start) [
    | inl below ↦
        contains-append changes part c
        ∙ (ap (differ (contains changes c)) (contains-below window.next c part (left_ascends xs part start end window is.window_there left) (omega (arith, is.ahead, below))) ∙ (differ-false (contains changes c) ∙ tell.told c below))
    | inr behind ↦
        contains-append changes part c
        ∙ (ap (λ b. differ b (contains part c)) (contains-behind (start + 1) c changes before (omega arith) ∙ inside)
        ∙ (differ_copied (is_inside window) complemented (contains part c)
        ∙ sym (made c behind lt ∙ ap (differ complemented) (contains-left xs part start end c window is.window_there left behind lt))))
  ];
}
