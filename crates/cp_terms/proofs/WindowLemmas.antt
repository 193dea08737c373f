-- What windows say of sets.
use Rattle.std.proofs.Common.{◌≡◌, ℕ, ◌+◌, ◌-◌, ◌/◌, ◌%◌, ◌<◌, ◌≤◌, List, Some, length, take, drop, get_or, Bor, ap, ◌∙◌, arith}
use Rattle.std.specs.List.{slice_get, slice_range}
use Rattle.std.proofs.lemmas.Option.{slice_get-get_or}
use Rattle.std.proofs.lemmas.List.{get_or-drop, get_or-take}
use Rattle.cp_invlist.specs.InversionList.{contains}
use Rattle.cp_invlist.specs.declared.set.CodePointInversionList.{CodePointInversionList}
use Rattle.cp_invlist.specs.CutLaws.{contains-cut}
use Rattle.cp_invlist.specs.Words.{has_bit, AreWords}
use Rattle.cp_terms.specs.Blocks.{IsBlock}
use Rattle.cp_invlist.specs.declared.window.Window.{Window}
use Rattle.cp_invlist.specs.Windows.{IsWindow, is_inside}
use Rattle.cp_invlist.specs.WindowLaws.{window_later}
use Rattle.cp_terms.specs.Windows.{AreWindows}

pub windows_later : (sets : List (Bor CodePointInversionList)) (place later : ℕ) (windows : List Window) → place ≤ later → AreWindows sets place windows → AreWindows sets later windows
windows_later sets place later windows le are i set window at of_it = window_later set.now place later window le (are i set window at of_it)

-- up to the next element the window tells the members
pub window_tells : (xs : List ℕ) (place c : ℕ) (window : Window) → IsWindow xs place window → place ≤ c → c < window.next → contains xs c ≡ is_inside window
window_tells xs place c window is le lt = contains-cut c xs window.taken is.within (record {
  before = λ k d below. omega (arith, is.before k d below);
  behind = λ k d below. omega (arith, is.behind k d below);
})

-- a window that has its next element ahead
pub record IsAhead (xs : List ℕ) (place : ℕ) (window : Window) : Type 0 where
  pub window_there : IsWindow xs place window
  pub ahead : place < window.next

-- the words of an index from a place on make the block there
pub block_of_words : (xs words part chunk : List ℕ) (place : ℕ) → AreWords xs words → part ≡ slice_range words (place / 64) (length words) → length part + place / 64 ≡ length words → chunk ≡ take 256 part → 256 ≤ length part → place % 64 ≡ 0 → IsBlock xs place (record { words = chunk })
block_of_words xs words part chunk place are cut sized front enough aligned i j hi hj =
    let start = place / 64 in
    let word = get_or words (start + i) 0 in
    let at : slice_get words (start + i) ≡ Some word = slice_get-get_or words (start + i) 0 (omega arith) in
    let same : get_or chunk i 0 ≡ word =
    ap (λ (l : List ℕ). get_or l i 0) front
    ∙ (get_or-take 256 part i 0 hi
    ∙ (ap (λ (l : List ℕ). get_or l i 0) cut
    ∙ (get_or-take (length words - start) (drop start words) i 0 (omega arith)
    ∙ get_or-drop start words i 0))) in
    ap (λ n. has_bit n j) same ∙ (are (start + i) word at j hj ∙ ap (contains xs) (omega arith))
