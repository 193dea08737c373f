-- The ranges that a set is told by.
use Rattle.std.proofs.Common.{◌≡◌, ℕ, Bool, true, false, ◌||◌, ◌&&◌, not, List, [], ◌∷◌, ◌++◌, refl, sym, ap, ◌∙◌}
use Rattle.std.proofs.Math.Bool.{or-false, or_assoc, or_comm, and-or_distrib_right}
use Rattle.std.proofs.lemmas.List.Folds.{list_any-append}
use Rattle.cp_invlist.specs.InversionList.{contains, is_code_point}
use Rattle.cp_invlist.specs.Ranges.{in_range, in_code_points, in_ranges, is_outside}
use Rattle.cp_invlist.specs.declared.ranges.CodePointRange.{CodePointRange}
use Rattle.uset_gather.specs.declared.run.Run.{Run}
use Rattle.uset_gather.specs.Painting.{in_some, in_run}

-- numbers of the ranges are those of them that are code points
some_parts : (rs : List CodePointRange) (c : ℕ) → in_some rs c ≡ (in_ranges rs c && is_code_point c)
some_parts [] c = refl
some_parts (r ∷ rs) c =
    ap (λ b. in_code_points r c || b) (some_parts rs c) ∙ sym (and-or_distrib_right (in_range r c) (in_ranges rs c) (is_code_point c))

-- ranges that hold members which are code points
spelled : (member : Bool) (rs : List CodePointRange) (c : ℕ) → in_ranges rs c ≡ member → (member && is_code_point c) ≡ member → in_some rs c ≡ member
spelled member rs c held within = some_parts rs c ∙ (ap (λ b. b && is_code_point c) held ∙ within)

-- the ranges of a set hold its members
pub set_spelled : (set : List ℕ) (rs : List CodePointRange) (c : ℕ) → in_ranges rs c ≡ contains set c → (contains set c && is_code_point c) ≡ contains set c → in_some rs c ≡ contains set c
set_spelled set rs c held within = spelled (contains set c) rs c held within

pub within_code : (code b : Bool) → ((code && b) && code) ≡ (code && b)
within_code true true = refl
within_code true false = refl
within_code false b = refl

-- the ranges between those of a set hold the other code points
pub outside_spelled : (set : List ℕ) (rs : List CodePointRange) (c : ℕ) → in_ranges rs c ≡ is_outside set c → in_some rs c ≡ is_outside set c
outside_spelled set rs c held = spelled (is_outside set c) rs c held (within_code (is_code_point c) (not (contains set c)))

-- the ranges with one more
pub spelled_more : (given : List CodePointRange) (r : CodePointRange) (c : ℕ) → in_some (given ++ r ∷ []) c ≡ (in_some given c || in_code_points r c)
spelled_more given r c = list_any-append (λ s. in_code_points s c) given (r ∷ []) ∙ ap (λ b. in_some given c || b) (or-false (in_code_points r c))

-- one more range was joined to what a set had before
pub joined_more : (start old new : Bool) (given : List CodePointRange) (r : CodePointRange) (c : ℕ) → old ≡ (start || in_some given c) →
    new ≡ (old || in_code_points r c) → new ≡ (start || in_some (given ++ r ∷ []) c)
joined_more start old new given r c before_it it =
    it
    ∙ (ap (λ b. b || in_code_points r c) before_it
    ∙ (or_assoc start (in_some given c) (in_code_points r c) ∙ ap (λ b. start || b) (sym (spelled_more given r c))))

-- what was put aside was joined to what had gone to the builder
pub gathered_in_run : (run : Run) (front joined : List ℕ) (c : ℕ) → front ≡ run.builder → contains joined c ≡ (in_some run.aside.items c || contains front c) →
    contains joined c ≡ in_run run c
unfolding in_run
gathered_in_run run front joined c same joined_is =
    joined_is
    ∙ (ap (λ xs. in_some run.aside.items c || contains xs c) same
    ∙ or_comm (in_some run.aside.items c) (contains run.builder c))

-- nothing was put aside
pub none_aside : (run : Run) → run.aside.items ≡ [] → (c : ℕ) → contains run.builder c ≡ in_run run c
unfolding in_run
none_aside run none c = sym (or-false (contains run.builder c)) ∙ ap (λ rs. contains run.builder c || in_some rs c) (sym none)
