-- The rules with the Close among the items, and "fits" by three lists, are those without it.
use Rattle.std.proofs.Common.{◌≡◌, ◌↔◌, List, [], ◌∷◌, ◌++◌, map, refl, sym, ap, ◌∙◌, subst}
use Rattle.uset_grammar.specs.Tree.{Tree, Steps}
use Rattle.uset_grammar.specs.Item.{Item, chars, text, nested, minus, ampersand, dollar}
use Rattle.uset_grammar.specs.FitsByLists as L
use Rattle.uset_grammar.specs.FitsByLists.{Listed, item, close, ListedBody, ListedTail, ListedFits, as_it_is, with_close, with_set}
use Rattle.uset_grammar.specs.Body.{Body, Tail, empty, hyphen, anchor, range, members, texts, joins, removes, keeps, goes_on, Fits, closed, closed_behind_set}

abbrev Shut : List Item → List Listed
Shut is = map (λ z. item z) is ++ close ∷ []

mutual
  shut_body : (is : List Item) (s : Steps) → Body is s → ListedBody (Shut is) s
  shut_body _ _ empty = L.empty
  shut_body _ _ hyphen = L.hyphen
  shut_body _ _ anchor = L.anchor
  shut_body _ _ (range {is} {steps} le h) = L.range le (shut_body is steps h)
  shut_body _ _ (members {is} {steps} h) = L.members (shut_body is steps h)
  shut_body _ _ (texts {is} {steps} h) = L.texts (shut_body is steps h)
  shut_body _ _ (joins {is} {steps} h) = L.joins (shut_tail is steps h)

  shut_tail : (is : List Item) (s : Steps) → Tail is s → ListedTail (Shut is) s
  shut_tail _ _ (removes {is} {steps} h) = L.removes (shut_tail is steps h)
  shut_tail _ _ (keeps {is} {steps} h) = L.keeps (shut_tail is steps h)
  shut_tail is s (goes_on h) = L.goes_on (shut_body is s h)

-- the list ends with its only Close
record Opened (R : List Item → Steps → Type 0) (ls : List Listed) (s : Steps) : Type 0 where
  items : List Item
  is : ls ≡ Shut items
  holds : R items s

mutual
  body_shut : (ls : List Listed) (s : Steps) → ListedBody ls s → Opened Body ls s
  body_shut _ _ L.empty = record { items = []; is = refl; holds = empty }
  body_shut _ _ L.hyphen = record { items = minus ∷ []; is = refl; holds = hyphen }
  body_shut _ _ L.anchor = record { items = dollar ∷ []; is = refl; holds = anchor }
  body_shut _ _ (L.range {a} {b} {ls} {steps} le h) =
      let k = body_shut ls steps h in record { items = chars (a ∷ []) ∷ minus ∷ chars (b ∷ []) ∷ k.items; is = ap (λ z. item (chars (a ∷ [])) ∷ item minus ∷ item (chars (b ∷ [])) ∷ z) k.is; holds = range le k.holds }
  body_shut _ _ (L.members {cs} {ls} {steps} h) = let k = body_shut ls steps h in record { items = chars cs ∷ k.items; is = ap (λ z. item (chars cs) ∷ z) k.is; holds = members k.holds }
  body_shut _ _ (L.texts {t} {ls} {steps} h) = let k = body_shut ls steps h in record { items = text t ∷ k.items; is = ap (λ z. item (text t) ∷ z) k.is; holds = texts k.holds }
  body_shut _ _ (L.joins {tree} {ls} {steps} h) = let k = tail_shut ls steps h in record { items = nested tree ∷ k.items; is = ap (λ z. item (nested tree) ∷ z) k.is; holds = joins k.holds }

  tail_shut : (ls : List Listed) (s : Steps) → ListedTail ls s → Opened Tail ls s
  tail_shut _ _ (L.removes {tree} {ls} {steps} h) = let k = tail_shut ls steps h in record { items = minus ∷ nested tree ∷ k.items; is = ap (λ z. item minus ∷ item (nested tree) ∷ z) k.is; holds = removes k.holds }
  tail_shut _ _ (L.keeps {tree} {ls} {steps} h) = let k = tail_shut ls steps h in record { items = ampersand ∷ nested tree ∷ k.items; is = ap (λ z. item ampersand ∷ item (nested tree) ∷ z) k.is; holds = keeps k.holds }
  tail_shut ls s (L.goes_on h) = let k = body_shut ls s h in record { items = k.items; is = k.is; holds = goes_on k.holds }

-- lists with one Close, at the end
one_item : {i j : Item} {ks ls : List Listed} → item i ∷ ks ≡ item j ∷ ls → (i ≡ j) × (ks ≡ ls)
one_item h = (cc, cc)

same_shut : (is js : List Item) → Shut is ≡ Shut js → is ≡ js
same_shut [] [] h = refl
same_shut [] (j ∷ js) h = absurd (let g = h in cc)
same_shut (i ∷ is) [] h = absurd (let g = h in cc)
same_shut (i ∷ is) (j ∷ js) h = let k = one_item h in ap (λ z. z ∷ is) k.0 ∙ ap (λ z. j ∷ z) (same_shut is js k.1)

no_close : (is js : List Item) → map (λ z. item z) is ≡ Shut js → ⊥
no_close [] [] h = let g = h in cc
no_close [] (j ∷ js) h = let g = h in cc
no_close (i ∷ is) [] h = let g = h in cc
no_close (i ∷ is) (j ∷ js) h = no_close is js (one_item h).1

behind_close : (is js : List Item) (l : Listed) (ls : List Listed) → Shut is ++ l ∷ ls ≡ Shut js → ⊥
behind_close [] [] l ls h = let g : l ∷ ls ≡ [] = cc in absurd (let k = g in cc)
behind_close [] (j ∷ js) l ls h = let g = h in cc
behind_close (i ∷ is) [] l ls h = let g = h in cc
behind_close (i ∷ is) (j ∷ js) l ls h = behind_close is js l ls (one_item h).1

set_behind : (is : List Item) (tree : Tree) → map (λ z. item z) is ++ item (nested tree) ∷ close ∷ [] ≡ Shut (is ++ nested tree ∷ [])
set_behind [] tree = refl
set_behind (i ∷ is) tree = ap (λ z. item i ∷ z) (set_behind is tree)

-- "fits" of items without a Close
pub three_lists_tell : (is : List Item) → Fits is ↔ ListedFits (map (λ z. item z) is)
three_lists_tell is = (to, from)
  where
    to : Fits is → ListedFits (map (λ z. item z) is)
    to (closed {steps} h) = with_close (shut_body is steps h)
    to (closed_behind_set tree {steps} h) = with_set tree (subst (λ z. ListedBody z steps) (sym (set_behind is tree)) (shut_body (is ++ nested tree ∷ []) steps h))

    from : ListedFits (map (λ z. item z) is) → Fits is
    from (as_it_is {steps} h) = absurd (let k = body_shut (map (λ z. item z) is) steps h in no_close is k.items k.is)
    from (with_close {steps} h) = let k = body_shut (Shut is) steps h in closed (subst (λ z. Body z steps) (sym (same_shut is k.items k.is)) k.holds)
    from (with_set tree {steps} h) =
        let k = body_shut (map (λ z. item z) is ++ item (nested tree) ∷ close ∷ []) steps h in
        closed_behind_set tree (subst (λ z. Body z steps) (sym (same_shut (is ++ nested tree ∷ []) k.items (sym (set_behind is tree) ∙ k.is))) k.holds)

-- "fits" of items and a Close
pub close_fits_behind_body : (is : List Item) → ((s : Steps) × Body is s) ↔ ListedFits (Shut is)
close_fits_behind_body is = (to, from)
  where
    to : (s : Steps) × Body is s → ListedFits (Shut is)
    to (s, h) = as_it_is (shut_body is s h)

    from : ListedFits (Shut is) → (s : Steps) × Body is s
    from (as_it_is {steps} h) = let k = body_shut (Shut is) steps h in (steps, subst (λ z. Body z steps) (sym (same_shut is k.items k.is)) k.holds)
    from (with_close {steps} h) = absurd (let k = body_shut (Shut is ++ close ∷ []) steps h in behind_close is k.items close [] k.is)
    from (with_set tree {steps} h) = absurd (let k = body_shut (Shut is ++ item (nested tree) ∷ close ∷ []) steps h in behind_close is k.items (item (nested tree)) (close ∷ []) k.is)
