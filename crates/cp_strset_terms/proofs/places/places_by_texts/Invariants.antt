use Rattle.std.proofs.Common.{◌≡◌, ◌≤◌, ◌&&◌, ℕ, List, map, nat_lt}
use Rattle.std.specs.String.{string_bytes}
use Rattle.cp_invlist.specs.InversionList.{contains}
use Rattle.cp_strset.specs.StringList.{AreCanonical, holds}
use Rattle.cp_strset_terms.specs.Places.{IsAt}
use Rattle.cp_strset_terms.proofs.places.places_by_texts.Given as goal

abbrev pub invariant-loop-index : goal.invariant-loop-index
invariant-loop-index l =
    AreCanonical (map string_bytes l.rest)
    × ((place : ℕ) (text : List ℕ) → IsAt (map (λ text. text.now) l.list) place text → l.index ≤ place →
    holds (map string_bytes l.rest) text ≡ holds (map string_bytes l.strings) text)
    × ((place : ℕ) (text : List ℕ) → IsAt (map (λ text. text.now) l.list) place text →
    contains l.places place ≡ (nat_lt place l.index && holds (map string_bytes l.strings) text))
