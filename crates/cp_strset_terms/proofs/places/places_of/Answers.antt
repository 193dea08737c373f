use Rattle.std.proofs.Common.{◌≡◌, ℕ, Result, IfOk, List, map, ◌∙◌}
use Rattle.std.proofs.lemmas.Result.{IfOk-weaker}
use Rattle.std.specs.String.{string_bytes}
use Rattle.cp_invlist.specs.InversionList.{contains}
use Rattle.cp_invlist.specs.declared.error.NoMemory.{NoMemory}
use Rattle.cp_strset.specs.StringList.{holds}
use Rattle.cp_strset_terms.specs.Places.{IsAt}
use Rattle.cp_strset_terms.proofs.places.places_of.Goals as goal

-- the places of the strings that are left are those of all strings
places_kept : (r : Result (List ℕ) NoMemory) (list among strings : List (List ℕ)) → ((place : ℕ) (text : List ℕ) → IsAt list place text → holds among text ≡ holds strings text) →
    IfOk r (λ places. (place : ℕ) (text : List ℕ) → IsAt list place text → contains places place ≡ holds among text) →
    IfOk r (λ places. (place : ℕ) (text : List ℕ) → IsAt list place text → contains places place ≡ holds strings text)
places_kept r list among strings same = IfOk-weaker r
    (λ places. (place : ℕ) (text : List ℕ) → IsAt list place text → contains places place ≡ holds among text)
    (λ places. (place : ℕ) (text : List ℕ) → IsAt list place text → contains places place ≡ holds strings text)
    (λ places are place text here. are place text here ∙ same place text here)

pub returns-then-among-list : goal.returns-then-among-list
returns-then-among-list c = places_kept c.places_by_strings.result (map (λ text. text.now) c.args.list.now)
    (map string_bytes c.strings_among-among.result.now) (map string_bytes c.args.strings.now) c.strings_among-among.ensures.same c.places_by_strings.ensures

pub returns-else-among-list : goal.returns-else-among-list
returns-else-among-list c = places_kept c.places_by_texts.result (map (λ text. text.now) c.args.list.now)
    (map string_bytes c.strings_among-among.result.now) (map string_bytes c.args.strings.now) c.strings_among-among.ensures.same c.places_by_texts.ensures
