-- What a loop has made that puts something down for each element of a list.
use Rattle.std.proofs.Common.{◌≡◌, ◌<◌, ◌+◌, ◌++◌, ℕ, List, [], ◌∷◌, length, map, take, get_or, sym, ap, ap₂, ◌∙◌, append_assoc}
use Rattle.std.specs.List.{flat_map}
use Rattle.std.proofs.lemmas.List.{append-nil, map-append, take_more}
use Rattle.std.proofs.lemmas.Grind.{flat_map-append}

-- what is made of one element more
pub map_more : {A Y : Type 0} (g : A → Y) (xs : List A) (k : ℕ) (d : A) → k < length xs → map g (take (k + 1) xs) ≡ map g (take k xs) ++ g (get_or xs k d) ∷ []
map_more g xs k d lt = ap (map g) (take_more xs k d lt) ∙ map-append g (take k xs) (get_or xs k d ∷ [])

-- the same where several things are made of each
pub flat_map_more : {A Y : Type 0} (g : A → List Y) (xs : List A) (k : ℕ) (d : A) → k < length xs → flat_map g (take (k + 1) xs) ≡ flat_map g (take k xs) ++ g (get_or xs k d)
flat_map_more g xs k d lt =
    ap (flat_map g) (take_more xs k d lt) ∙ (flat_map-append g (take k xs) (get_or xs k d ∷ []) ∙ ap (λ ys. flat_map g (take k xs) ++ ys) (append-nil (g (get_or xs k d))))

-- a list behind which stands what is made of the next element
pub list_pushed : {A Y : Type 0} (g : A → Y) (old new : List Y) (y : Y) (xs : List A) (k : ℕ) (d : A) → k < length xs → new ≡ old ++ y ∷ [] → y ≡ g (get_or xs k d) → old ≡ map g (take k xs) → new ≡ map g (take (k + 1) xs)
list_pushed g old new y xs k d lt is same before = is ∙ (ap₂ (λ ys x. ys ++ x ∷ []) before same ∙ sym (map_more g xs k d lt))

-- the same behind a list that was there before
pub list_pushed_behind : {A Y : Type 0} (g : A → Y) (first old new : List Y) (y : Y) (xs : List A) (k : ℕ) (d : A) →
    k < length xs → new ≡ old ++ y ∷ [] → y ≡ g (get_or xs k d) → old ≡ first ++ map g (take k xs) → new ≡ first ++ map g (take (k + 1) xs)
list_pushed_behind g first old new y xs k d lt is same before =
    is ∙ (ap₂ (λ ys x. ys ++ x ∷ []) before same ∙ (append_assoc first (map g (take k xs)) (g (get_or xs k d) ∷ []) ∙ ap (λ ys. first ++ ys) (sym (map_more g xs k d lt))))

-- the same by what is seen of the list
pub seen_pushed : {A X Y : Type 0} (f : X → Y) (g : A → Y) (old new : List X) (x : X) (xs : List A) (k : ℕ) (d : A) →
    k < length xs → new ≡ old ++ x ∷ [] → f x ≡ g (get_or xs k d) → map f old ≡ map g (take k xs) → map f new ≡ map g (take (k + 1) xs)
seen_pushed f g old new x xs k d lt is same before = list_pushed g (map f old) (map f new) (f x) xs k d lt (ap (map f) is ∙ map-append f old (x ∷ [])) same before

-- and behind a list that was there before
pub seen_pushed_behind : {A X Y : Type 0} (f : X → Y) (g : A → Y) (first : List Y) (old new : List X) (x : X) (xs : List A) (k : ℕ) (d : A) →
    k < length xs → new ≡ old ++ x ∷ [] → f x ≡ g (get_or xs k d) → map f old ≡ first ++ map g (take k xs) → map f new ≡ first ++ map g (take (k + 1) xs)
seen_pushed_behind f g first old new x xs k d lt is same before =
    list_pushed_behind g first (map f old) (map f new) (f x) xs k d lt (ap (map f) is ∙ map-append f old (x ∷ [])) same before

-- the same where the elements themselves are seen
pub seen_taken : {X Y : Type 0} (f : X → Y) (old new : List X) (x : X) (ys : List Y) (k : ℕ) (d : Y) →
    k < length ys → new ≡ old ++ x ∷ [] → f x ≡ get_or ys k d → map f old ≡ take k ys → map f new ≡ take (k + 1) ys
seen_taken f old new x ys k d lt is same before =
    ap (map f) is ∙ (map-append f old (x ∷ []) ∙ (ap₂ (λ zs y. zs ++ y ∷ []) before same ∙ sym (take_more ys k d lt)))
