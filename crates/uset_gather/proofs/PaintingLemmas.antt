-- Sets of code points in the making, code point by code point.
use Rattle.std.proofs.Common.{◌≡◌, ℕ, Bool, true, false, not, ◌||◌, ◌&&◌, if◌then◌else◌, List, [], ◌∷◌, ◌++◌, refl, sym, ap, ◌∙◌, subst}
use Rattle.std.proofs.Math.Bool.{and-false, and_comm, or-false}
use Rattle.std.specs.Bool.{OnTrue}
use Rattle.std.proofs.lemmas.Bool.{OnTrue_from, and_parts}
use Rattle.std.specs.List.{list_all}
use Rattle.cp_invlist.specs.InversionList.{contains, differ, is_code_point}
use Rattle.cp_invlist.specs.Ranges.{in_range, in_code_points, is_outside}
use Rattle.uset_gather.specs.declared.layers.Layer.{Layer}
use Rattle.cp_invlist.specs.declared.ranges.CodePointRange.{CodePointRange}
use Rattle.uset_gather.specs.declared.painting.PaintedRange.{PaintedRange}
use Rattle.uset_gather.specs.declared.painting.Painting.{Painting}
use Rattle.uset_gather.proofs.RangesLemmas.{within_code}
use Rattle.uset_gather.specs.Painting.{covered, painted, behind, behind_all, IsPutOnto, in_painting}

-- one more range
pub painted_more : (ps : List PaintedRange) (p : PaintedRange) (c : ℕ) (b : Bool) →
    painted (ps ++ p ∷ []) c b ≡ (if in_code_points p.range c then p.member else painted ps c b)
painted_more [] p c b = refl
painted_more (q ∷ ps) p c b = painted_more ps p c (if in_code_points q.range c then q.member else b)

-- how a set is seen, by whether it is complemented, the number is a code point and it was painted
seen : Bool → Bool → Bool → Bool
seen complemented code b = code && differ complemented b

seen_range : (complemented inside code b : Bool) →
    seen complemented code (if inside && code then not complemented else b) ≡ (seen complemented code b || (inside && code))
unfolding seen
seen_range true true true true = refl
seen_range true true true false = refl
seen_range true false true true = refl
seen_range true false true false = refl
seen_range false true true true = refl
seen_range false true true false = refl
seen_range false false true true = refl
seen_range false false true false = refl
seen_range complemented true false b = refl
seen_range complemented false false b = refl

-- the same of a set of code points
seen_set : (complemented inside code b : Bool) → (inside && code) ≡ inside →
    seen complemented code (if inside then not complemented else b) ≡ (seen complemented code b || inside)
seen_set complemented inside code b within =
    subst (λ is. seen complemented code (if is then not complemented else b) ≡ (seen complemented code b || is)) within (seen_range complemented inside code b)

-- the same layers and ranges
pub painting_same : (old new : Painting) → new.complemented ≡ old.complemented → new.layers.items ≡ old.layers.items →
    new.ranges.items ≡ old.ranges.items → (c : ℕ) → in_painting new c ≡ in_painting old c
unfolding in_painting seen
painting_same old new kept below same c = λ i. seen (kept i) (is_code_point c) (painted (same i) c (behind_all (below i) c false))

-- a range was painted as members
pub range_painted : (old new : Painting) (r : CodePointRange) → new.complemented ≡ old.complemented → new.layers.items ≡ old.layers.items →
    new.ranges.items ≡ old.ranges.items ++ record { range = r; member = not old.complemented } ∷ [] →
    (c : ℕ) → in_painting new c ≡ (in_painting old c || in_code_points r c)
unfolding in_painting seen
range_painted old new r kept below more c =
    let b = behind_all old.layers.items c false in
    (λ i. seen (kept i) (is_code_point c) (painted (more i) c (behind_all (below i) c false)))
    ∙ (ap (seen old.complemented (is_code_point c)) (painted_more old.ranges.items (record { range = r; member = not old.complemented }) c b)
    ∙ seen_range old.complemented (in_range r c) (is_code_point c) (painted old.ranges.items c b))

-- the ranges became a layer
pub painting_settled : (old new : Painting) (l : Layer) → new.complemented ≡ old.complemented → new.ranges.items ≡ [] →
    IsPutOnto old.layers.items l new.layers.items → ((c : ℕ) (b : Bool) → behind l c b ≡ painted old.ranges.items c b) →
    (c : ℕ) → in_painting new c ≡ in_painting old c
unfolding in_painting seen
painting_settled old new l kept none put is c =
    (λ i. seen (kept i) (is_code_point c) (painted (none i) c (behind_all new.layers.items c false)))
    ∙ ap (seen old.complemented (is_code_point c)) (put c false ∙ is c (behind_all old.layers.items c false))

-- a set was painted as a layer, as members
pub layer_painted : (old new : Painting) (l : Layer) (set : List ℕ) → new.complemented ≡ old.complemented → old.ranges.items ≡ [] →
    new.ranges.items ≡ [] → IsPutOnto old.layers.items l new.layers.items →
    ((c : ℕ) (b : Bool) → behind l c b ≡ (if contains set c then not old.complemented else b)) →
    (c : ℕ) → (contains set c && is_code_point c) ≡ contains set c → in_painting new c ≡ (in_painting old c || contains set c)
unfolding in_painting seen
layer_painted old new l set kept none still put is c within =
    let b = behind_all old.layers.items c false in
    (λ i. seen (kept i) (is_code_point c) (painted (still i) c (behind_all new.layers.items c false)))
    ∙ (ap (seen old.complemented (is_code_point c)) (put c false ∙ is c b)
    ∙ (seen_set old.complemented (contains set c) (is_code_point c) b within
    ∙ ap (λ rs. seen old.complemented (is_code_point c) (painted rs c b) || contains set c) (sym none)))

-- the members of a set in the making are code points
pub painting_within : (s : Painting) (c : ℕ) → (in_painting s c && is_code_point c) ≡ in_painting s c
unfolding in_painting
painting_within s c = within_code (is_code_point c) (differ s.complemented (painted s.ranges.items c (behind_all s.layers.items c false)))

seen_other_way : (complemented code b : Bool) → seen (not complemented) code b ≡ (code && not (seen complemented code b))
unfolding seen
seen_other_way true true true = refl
seen_other_way true true false = refl
seen_other_way false true b = refl
seen_other_way complemented false b = refl

-- the other way round
pub painting_complemented : (old new : Painting) → new.complemented ≡ not old.complemented → new.layers.items ≡ old.layers.items →
    new.ranges.items ≡ old.ranges.items → (c : ℕ) → in_painting new c ≡ (is_code_point c && not (in_painting old c))
unfolding in_painting seen
painting_complemented old new turned below kept c =
    (λ i. seen (turned i) (is_code_point c) (painted (kept i) c (behind_all (below i) c false)))
    ∙ seen_other_way old.complemented (is_code_point c) (painted old.ranges.items c (behind_all old.layers.items c false))

removed_step : (code x y : Bool) → (x && code) ≡ x → (code && not ((code && not x) || y)) ≡ (x && not y)
removed_step true true y h = refl
removed_step true false y h = refl
removed_step false true true h = refl
removed_step false true false h = h
removed_step false false y h = refl

-- what is neither in the complement nor in the other set
pub painting_removed : (old between joined new : Painting) (c : ℕ) (other : Bool) → in_painting between c ≡ (is_code_point c && not (in_painting old c)) →
    in_painting joined c ≡ (in_painting between c || other) → in_painting new c ≡ (is_code_point c && not (in_painting joined c)) →
    in_painting new c ≡ (in_painting old c && not other)
painting_removed old between joined new c other first second third =
    third
    ∙ (ap (λ b. is_code_point c && not b) (second ∙ ap (λ b. b || other) first)
    ∙ removed_step (is_code_point c) (in_painting old c) other (painting_within old c))

kept_step : (code x y : Bool) → (x && code) ≡ x → (x && not (code && not y)) ≡ (x && y)
kept_step true true true h = refl
kept_step true true false h = refl
kept_step false true true h = refl
kept_step false true false h = sym h
kept_step code false y h = refl

-- what isn't outside the other set
pub not_outside : (old : Painting) (c : ℕ) (other : Bool) → (in_painting old c && not (is_code_point c && not other)) ≡ (in_painting old c && other)
not_outside old c other = kept_step (is_code_point c) (in_painting old c) other (painting_within old c)

outside_step : (code x y : Bool) → (x && code) ≡ x → (x && not y) ≡ (x && (code && not y))
outside_step true true y h = refl
outside_step true false y h = refl
outside_step false true y h = absurd (let g : false ≡ true = h in cc)
outside_step false false y h = refl

-- what the other set lacks is outside it
pub lacked_outside : (old : Painting) (c : ℕ) (other : Bool) → (in_painting old c && not other) ≡ (in_painting old c && (is_code_point c && not other))
lacked_outside old c other = outside_step (is_code_point c) (in_painting old c) other (painting_within old c)

-- what isn't in the complement of the other set
pub painting_kept : (old other others new : Painting) (c : ℕ) → in_painting others c ≡ (is_code_point c && not (in_painting other c)) →
    in_painting new c ≡ (in_painting old c && not (in_painting others c)) → in_painting new c ≡ (in_painting old c && in_painting other c)
painting_kept old other others new c first second =
    second
    ∙ (ap (λ b. in_painting old c && not b) first ∙ kept_step (is_code_point c) (in_painting old c) (in_painting other c) (painting_within old c))

covered_step : (inside code rest : Bool) → (code && rest) ≡ rest → (code && ((inside && code) || rest)) ≡ ((inside && code) || rest)
covered_step inside true rest h = refl
covered_step true false rest h = h
covered_step false false rest h = h

-- ranges cover code points alone
covered_within : (ps : List PaintedRange) (c : ℕ) → (is_code_point c && covered ps c) ≡ covered ps c
covered_within [] c = and-false (is_code_point c)
covered_within (p ∷ ps) c = covered_step (in_range p.range c) (is_code_point c) (covered ps c) (covered_within ps c)

member_step : (inside others b : Bool) → ((if inside then true else b) || others) ≡ (b || (inside || others))
member_step true others true = refl
member_step true others false = refl
member_step false others b = refl

-- ranges that were painted as members add what they cover
members_painted : (ps : List PaintedRange) (c : ℕ) (b : Bool) → list_all (λ p. p.member) ps ≡ true → painted ps c b ≡ (b || covered ps c)
members_painted [] c b all = sym (or-false b)
members_painted (p ∷ ps) c b all =
    members_painted ps c (if in_code_points p.range c then p.member else b) (and_parts p.member _ all).1
    ∙ ((λ i. (if in_code_points p.range c then (and_parts p.member _ all).0 i else b) || covered ps c)
    ∙ member_step (in_code_points p.range c) (covered ps c) b)

-- there are no layers, and all ranges were painted as members
pub plain : (s : Painting) (members : Bool) → members ≡ list_all (λ p. p.member) s.ranges.items → s.layers.items ≡ [] → s.complemented ≡ false →
    OnTrue members ((c : ℕ) → in_painting s c ≡ covered s.ranges.items c)
unfolding in_painting seen
plain s members all none straight = OnTrue_from members _ (λ is c.
    (λ i. seen (straight i) (is_code_point c) (painted s.ranges.items c (behind_all (none i) c false)))
    ∙ (ap (λ b. is_code_point c && b) (members_painted s.ranges.items c false (sym all ∙ is))
    ∙ covered_within s.ranges.items c))

-- a complemented set has what the set of its layers and ranges lacks
pub painting_outside : (s : Painting) (set : List ℕ) (c : ℕ) → s.complemented ≡ true →
    contains set c ≡ painted s.ranges.items c (behind_all s.layers.items c false) → is_outside set c ≡ in_painting s c
unfolding in_painting
painting_outside s set c turned flat = λ i. is_code_point c && differ (sym turned i) (flat i)

-- any other has what that set has
pub painting_inside : (s : Painting) (set : List ℕ) (c : ℕ) → s.complemented ≡ false →
    contains set c ≡ painted s.ranges.items c (behind_all s.layers.items c false) → (contains set c && is_code_point c) ≡ contains set c →
    contains set c ≡ in_painting s c
unfolding in_painting
painting_inside s set c straight flat within =
    sym within ∙ (and_comm (contains set c) (is_code_point c) ∙ (λ i. is_code_point c && differ (sym straight i) (flat i)))
