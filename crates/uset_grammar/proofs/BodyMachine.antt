-- What a bracket awaits, as the residual of its body.
use Rattle.std.proofs.Common.{◌≡◌, ℕ, nat_le, Bool, true, false, cond, List, [], ◌∷◌, ◌++◌, Option, Some, None, refl, sym, ap, ◌∙◌, subst, append-nil}
use Rattle.std.proofs.lemmas.Bool.{leb-true, le-leb}
use Rattle.uset_grammar.specs.Text.{Text}
use Rattle.uset_grammar.specs.Tree.{Tree, bracket, Steps, done, add, add_text, join, keep}
use Rattle.uset_grammar.specs.Item.{Item, chars, text, nested, minus, ampersand, dollar}
use Rattle.uset_grammar.specs.Arranging.{Awaits, element, after_single, range_end, hyphen_end, anchor_end, after_set, remove_or_end, keep_set, Next, stuck, on, same, minus_next, ampersand_next, dollar_next, single_next, members_next, set_next, next, ending, after, onward, run, went, fit, finish, arranged, arrange}
use Rattle.uset_grammar.specs.Body.{add_each, Body, Tail, empty, hyphen, anchor, range, members, texts, joins, removes, keeps, goes_on, Fits, closed, closed_behind_set}

abbrev pub Residual : Awaits → List Item → Steps → Type 0
Residual element is steps = Body is steps
Residual (after_single a) is steps = Body (chars (a ∷ []) ∷ is) steps
Residual (range_end a) is steps = Body (chars (a ∷ []) ∷ minus ∷ is) steps
Residual hyphen_end is steps = Body (minus ∷ is) steps
Residual anchor_end is steps = Body (dollar ∷ is) steps
Residual after_set is steps = Tail is steps
Residual remove_or_end is steps = Tail (minus ∷ is) steps
Residual keep_set is steps = Tail (ampersand ∷ is) steps

no_hyphen_first : {i : Item} {is : List Item} {steps : Steps} → Body (minus ∷ i ∷ is) steps → ⊥
no_hyphen_first h = elim h [ ]

no_anchor_first : {i : Item} {is : List Item} {steps : Steps} → Body (dollar ∷ i ∷ is) steps → ⊥
no_anchor_first h = elim h [ ]

no_ampersand_first : {is : List Item} {steps : Steps} → Body (ampersand ∷ is) steps → ⊥
no_ampersand_first h = elim h [ ]

-- what follows makes a residual with the item in front
abbrev pub Leaves : Awaits → Item → Next → Type 0
Leaves s i stuck = Unit {0}
Leaves s i (on s' f) = (is : List Item) (rest : Steps) → Residual s' is rest → Residual s (i ∷ is) (f rest)

leaves_minus : (s : Awaits) → Leaves s minus (minus_next s)
leaves_minus element = λ is rest h. h
leaves_minus (after_single a) = λ is rest h. h
leaves_minus (range_end a) = tt
leaves_minus hyphen_end = tt
leaves_minus anchor_end = tt
leaves_minus after_set = λ is rest h. h
leaves_minus remove_or_end = tt
leaves_minus keep_set = tt

leaves_ampersand : (s : Awaits) → Leaves s ampersand (ampersand_next s)
leaves_ampersand element = tt
leaves_ampersand (after_single a) = tt
leaves_ampersand (range_end a) = tt
leaves_ampersand hyphen_end = tt
leaves_ampersand anchor_end = tt
leaves_ampersand after_set = λ is rest h. h
leaves_ampersand remove_or_end = tt
leaves_ampersand keep_set = tt

leaves_dollar : (s : Awaits) → Leaves s dollar (dollar_next s)
leaves_dollar element = λ is rest h. h
leaves_dollar (after_single a) = λ is rest h. members h
leaves_dollar (range_end a) = tt
leaves_dollar hyphen_end = tt
leaves_dollar anchor_end = tt
leaves_dollar after_set = λ is rest h. goes_on h
leaves_dollar remove_or_end = tt
leaves_dollar keep_set = tt

leaves_range : (a c : ℕ) (t : Bool) → nat_le a c ≡ t → Leaves (range_end a) (chars (c ∷ [])) (cond t (on element (add a c)) stuck)
leaves_range a c true e = λ is rest h. range (leb-true a c e) h
leaves_range a c false e = tt

leaves_single : (s : Awaits) (c : ℕ) → Leaves s (chars (c ∷ [])) (single_next s c)
leaves_single element c = λ is rest h. h
leaves_single (after_single a) c = λ is rest h. members h
leaves_single (range_end a) c = leaves_range a c (nat_le a c) refl
leaves_single hyphen_end c = tt
leaves_single anchor_end c = tt
leaves_single after_set c = λ is rest h. goes_on h
leaves_single remove_or_end c = tt
leaves_single keep_set c = tt

leaves_members : (i : Item) (f : Steps → Steps) → ((is : List Item) (rest : Steps) → Body is rest → Body (i ∷ is) (f rest)) → (s : Awaits) → Leaves s i (members_next s f)
leaves_members i f rule element = rule
leaves_members i f rule (after_single a) = λ is rest h. members (rule is rest h)
leaves_members i f rule (range_end a) = tt
leaves_members i f rule hyphen_end = tt
leaves_members i f rule anchor_end = tt
leaves_members i f rule after_set = λ is rest h. goes_on (rule is rest h)
leaves_members i f rule remove_or_end = tt
leaves_members i f rule keep_set = tt

leaves_set : (s : Awaits) (t : Tree) → Leaves s (nested t) (set_next s t)
leaves_set element t = λ is rest h. joins h
leaves_set (after_single a) t = λ is rest h. members (joins h)
leaves_set (range_end a) t = tt
leaves_set hyphen_end t = tt
leaves_set anchor_end t = tt
leaves_set after_set t = λ is rest h. goes_on (joins h)
leaves_set remove_or_end t = λ is rest h. removes h
leaves_set keep_set t = λ is rest h. keeps h

leaves : (s : Awaits) (i : Item) → Leaves s i (next s i)
leaves s (chars []) = leaves_members (chars []) same (λ is rest h. members h) s
leaves s (chars (c ∷ [])) = leaves_single s c
leaves s (chars (c ∷ d ∷ cs)) = leaves_members (chars (c ∷ d ∷ cs)) (add_each (c ∷ d ∷ cs)) (λ is rest h. members h) s
leaves s (text t) = leaves_members (text t) (add_text t) (λ is rest h. texts h) s
leaves s (nested t) = leaves_set s t
leaves s minus = leaves_minus s
leaves s ampersand = leaves_ampersand s
leaves s dollar = leaves_dollar s

-- a residual has steps of what follows
abbrev pub Follows : List Item → Steps → Next → Type 0
Follows is all stuck = ⊥
Follows is all (on s f) = (rest : Steps) × Residual s is rest × (all ≡ f rest)

no_ampersand_second : {a : ℕ} {is : List Item} {steps : Steps} → Body (chars (a ∷ []) ∷ ampersand ∷ is) steps → ⊥
no_ampersand_second (members h) = no_ampersand_first h

follows_minus : (s : Awaits) (is : List Item) (all : Steps) → Residual s (minus ∷ is) all → Follows is all (minus_next s)
follows_minus element is all h = (all, h, refl)
follows_minus (after_single a) is all h = (all, h, refl)
follows_minus (range_end a) is _ (members h) = no_hyphen_first h
follows_minus hyphen_end is all h = no_hyphen_first h
follows_minus anchor_end is all h = no_anchor_first h
follows_minus after_set is all h = (all, h, refl)
follows_minus remove_or_end is all (goes_on h) = no_hyphen_first h
follows_minus keep_set is all (goes_on h) = no_ampersand_first h

follows_ampersand : (s : Awaits) (is : List Item) (all : Steps) → Residual s (ampersand ∷ is) all → Follows is all (ampersand_next s)
follows_ampersand element is all h = no_ampersand_first h
follows_ampersand (after_single a) is all h = no_ampersand_second h
follows_ampersand (range_end a) is _ (members h) = no_hyphen_first h
follows_ampersand hyphen_end is all h = no_hyphen_first h
follows_ampersand anchor_end is all h = no_anchor_first h
follows_ampersand after_set is all h = (all, h, refl)
follows_ampersand remove_or_end is all (goes_on h) = no_hyphen_first h
follows_ampersand keep_set is all (goes_on h) = no_ampersand_first h

follows_dollar : (s : Awaits) (is : List Item) (all : Steps) → Residual s (dollar ∷ is) all → Follows is all (dollar_next s)
follows_dollar element is all h = (all, h, refl)
follows_dollar (after_single a) is _ (members {steps = rest} h) = (rest, h, refl)
follows_dollar (range_end a) is _ (members h) = no_hyphen_first h
follows_dollar hyphen_end is all h = no_hyphen_first h
follows_dollar anchor_end is all h = no_anchor_first h
follows_dollar after_set is all (goes_on h) = (all, h, refl)
follows_dollar remove_or_end is all (goes_on h) = no_hyphen_first h
follows_dollar keep_set is all (goes_on h) = no_ampersand_first h

follows_range : (a c : ℕ) (is : List Item) (all : Steps) → Body (chars (a ∷ []) ∷ minus ∷ chars (c ∷ []) ∷ is) all → Follows is all (single_next (range_end a) c)
follows_range a c is _ (range {steps = rest} le h) = rw (le-leb a c le) (rest, h, refl)
follows_range a c is _ (members h) = absurd (no_hyphen_first h)

follows_single : (s : Awaits) (c : ℕ) (is : List Item) (all : Steps) → Residual s (chars (c ∷ []) ∷ is) all → Follows is all (single_next s c)
follows_single element c is all h = (all, h, refl)
follows_single (after_single a) c is _ (members {steps = rest} h) = (rest, h, refl)
follows_single (range_end a) c is all h = follows_range a c is all h
follows_single hyphen_end c is all h = no_hyphen_first h
follows_single anchor_end c is all h = no_anchor_first h
follows_single after_set c is all (goes_on h) = (all, h, refl)
follows_single remove_or_end c is all (goes_on h) = no_hyphen_first h
follows_single keep_set c is all (goes_on h) = no_ampersand_first h

-- an item that adds members and is no single character
record Adds (i : Item) (f : Steps → Steps) : Type 0 where
  back : (is : List Item) (all : Steps) → Body (i ∷ is) all → (rest : Steps) × Body is rest × (all ≡ f rest)
  behind_single : (a : ℕ) (is : List Item) (all : Steps) → Body (chars (a ∷ []) ∷ i ∷ is) all → (rest : Steps) × Body (i ∷ is) rest × (all ≡ add a a rest)
  behind_set : (is : List Item) (all : Steps) → Tail (i ∷ is) all → Body (i ∷ is) all
  no_range : (a : ℕ) (is : List Item) (all : Steps) → Body (chars (a ∷ []) ∷ minus ∷ i ∷ is) all → ⊥
  no_removal : (is : List Item) (all : Steps) → Tail (minus ∷ i ∷ is) all → ⊥
  no_keeping : (is : List Item) (all : Steps) → Tail (ampersand ∷ i ∷ is) all → ⊥

follows_members : (i : Item) (f : Steps → Steps) → Adds i f → (s : Awaits) (is : List Item) (all : Steps) → Residual s (i ∷ is) all → Follows is all (members_next s f)
follows_members i f by element is all h = by.back is all h
follows_members i f by (after_single a) is all h =
    let one = by.behind_single a is all h in let two = by.back is one.0 one.1 in (two.0, two.1, one.2 ∙ ap (add a a) two.2)
follows_members i f by (range_end a) is all h = by.no_range a is all h
follows_members i f by hyphen_end is all h = no_hyphen_first h
follows_members i f by anchor_end is all h = no_anchor_first h
follows_members i f by after_set is all h = by.back is all (by.behind_set is all h)
follows_members i f by remove_or_end is all h = by.no_removal is all h
follows_members i f by keep_set is all h = by.no_keeping is all h

none_back : (is : List Item) (all : Steps) → Body (chars [] ∷ is) all → (rest : Steps) × Body is rest × (all ≡ rest)
none_back is _ (members {steps = rest} h) = (rest, h, refl)

none_single : (a : ℕ) (is : List Item) (all : Steps) → Body (chars (a ∷ []) ∷ chars [] ∷ is) all → (rest : Steps) × Body (chars [] ∷ is) rest × (all ≡ add a a rest)
none_single a is _ (members {steps = rest} h) = (rest, h, refl)

none_set : (is : List Item) (all : Steps) → Tail (chars [] ∷ is) all → Body (chars [] ∷ is) all
none_set is all (goes_on h) = h

none_range : (a : ℕ) (is : List Item) (all : Steps) → Body (chars (a ∷ []) ∷ minus ∷ chars [] ∷ is) all → ⊥
none_range a is _ (members h) = no_hyphen_first h

none_removal : (is : List Item) (all : Steps) → Tail (minus ∷ chars [] ∷ is) all → ⊥
none_removal is all (goes_on h) = no_hyphen_first h

none_keeping : (is : List Item) (all : Steps) → Tail (ampersand ∷ chars [] ∷ is) all → ⊥
none_keeping is all (goes_on h) = no_ampersand_first h

several_back : (c d : ℕ) (cs : List ℕ) (is : List Item) (all : Steps) → Body (chars (c ∷ d ∷ cs) ∷ is) all → (rest : Steps) × Body is rest × (all ≡ add_each (c ∷ d ∷ cs) rest)
several_back c d cs is _ (members {steps = rest} h) = (rest, h, refl)

several_single : (c d : ℕ) (cs : List ℕ) (a : ℕ) (is : List Item) (all : Steps) → Body (chars (a ∷ []) ∷ chars (c ∷ d ∷ cs) ∷ is) all → (rest : Steps) × Body (chars (c ∷ d ∷ cs) ∷ is) rest × (all ≡ add a a rest)
several_single c d cs a is _ (members {steps = rest} h) = (rest, h, refl)

several_set : (c d : ℕ) (cs : List ℕ) (is : List Item) (all : Steps) → Tail (chars (c ∷ d ∷ cs) ∷ is) all → Body (chars (c ∷ d ∷ cs) ∷ is) all
several_set c d cs is all (goes_on h) = h

several_range : (c d : ℕ) (cs : List ℕ) (a : ℕ) (is : List Item) (all : Steps) → Body (chars (a ∷ []) ∷ minus ∷ chars (c ∷ d ∷ cs) ∷ is) all → ⊥
several_range c d cs a is _ (members h) = no_hyphen_first h

several_removal : (c d : ℕ) (cs : List ℕ) (is : List Item) (all : Steps) → Tail (minus ∷ chars (c ∷ d ∷ cs) ∷ is) all → ⊥
several_removal c d cs is all (goes_on h) = no_hyphen_first h

several_keeping : (c d : ℕ) (cs : List ℕ) (is : List Item) (all : Steps) → Tail (ampersand ∷ chars (c ∷ d ∷ cs) ∷ is) all → ⊥
several_keeping c d cs is all (goes_on h) = no_ampersand_first h

text_back : (t : Text) (is : List Item) (all : Steps) → Body (text t ∷ is) all → (rest : Steps) × Body is rest × (all ≡ add_text t rest)
text_back t is _ (texts {steps = rest} h) = (rest, h, refl)

text_single : (t : Text) (a : ℕ) (is : List Item) (all : Steps) → Body (chars (a ∷ []) ∷ text t ∷ is) all → (rest : Steps) × Body (text t ∷ is) rest × (all ≡ add a a rest)
text_single t a is _ (members {steps = rest} h) = (rest, h, refl)

text_set : (t : Text) (is : List Item) (all : Steps) → Tail (text t ∷ is) all → Body (text t ∷ is) all
text_set t is all (goes_on h) = h

text_range : (t : Text) (a : ℕ) (is : List Item) (all : Steps) → Body (chars (a ∷ []) ∷ minus ∷ text t ∷ is) all → ⊥
text_range t a is _ (members h) = no_hyphen_first h

text_removal : (t : Text) (is : List Item) (all : Steps) → Tail (minus ∷ text t ∷ is) all → ⊥
text_removal t is all (goes_on h) = no_hyphen_first h

text_keeping : (t : Text) (is : List Item) (all : Steps) → Tail (ampersand ∷ text t ∷ is) all → ⊥
text_keeping t is all (goes_on h) = no_ampersand_first h

joined : (t : Tree) (is : List Item) (all : Steps) → Body (nested t ∷ is) all → (rest : Steps) × Tail is rest × (all ≡ join t rest)
joined t is _ (joins {steps = rest} h) = (rest, h, refl)

joined_behind : (a : ℕ) (t : Tree) (is : List Item) (all : Steps) → Body (chars (a ∷ []) ∷ nested t ∷ is) all → (rest : Steps) × Tail is rest × (all ≡ add a a (join t rest))
joined_behind a t is _ (members {steps = rest} h) = let one = joined t is rest h in (one.0, one.1, ap (add a a) one.2)

follows_set : (s : Awaits) (t : Tree) (is : List Item) (all : Steps) → Residual s (nested t ∷ is) all → Follows is all (set_next s t)
follows_set element t is all h = joined t is all h
follows_set (after_single a) t is all h = joined_behind a t is all h
follows_set (range_end a) t is _ (members h) = no_hyphen_first h
follows_set hyphen_end t is all h = no_hyphen_first h
follows_set anchor_end t is all h = no_anchor_first h
follows_set after_set t is all (goes_on h) = joined t is all h
follows_set remove_or_end t is _ (removes {steps = rest} h) = (rest, h, refl)
follows_set remove_or_end t is all (goes_on h) = absurd (no_hyphen_first h)
follows_set keep_set t is _ (keeps {steps = rest} h) = (rest, h, refl)
follows_set keep_set t is all (goes_on h) = absurd (no_ampersand_first h)

follows : (s : Awaits) (i : Item) (is : List Item) (all : Steps) → Residual s (i ∷ is) all → Follows is all (next s i)
follows s (chars []) = follows_members (chars []) same (record { back = none_back; behind_single = none_single; behind_set = none_set; no_range = none_range; no_removal = none_removal; no_keeping = none_keeping }) s
follows s (chars (c ∷ [])) = follows_single s c
follows s (chars (c ∷ d ∷ cs)) = follows_members (chars (c ∷ d ∷ cs)) (add_each (c ∷ d ∷ cs)) (record { back = several_back c d cs; behind_single = several_single c d cs; behind_set = several_set c d cs; no_range = several_range c d cs; no_removal = several_removal c d cs; no_keeping = several_keeping c d cs }) s
follows s (text t) = follows_members (text t) (add_text t) (record { back = text_back t; behind_single = text_single t; behind_set = text_set t; no_range = text_range t; no_removal = text_removal t; no_keeping = text_keeping t }) s
follows s (nested t) = follows_set s t
follows s minus = follows_minus s
follows s ampersand = follows_ampersand s
follows s dollar = follows_dollar s

abbrev EndsBy : Awaits → Option Steps → Type 0
EndsBy s None = (steps : Steps) → Residual s [] steps → ⊥
EndsBy s (Some e) = Residual s [] e × ((steps : Steps) → Residual s [] steps → e ≡ steps)

only_done : (steps : Steps) → Body [] steps → done ≡ steps
only_done _ empty = refl

only_hyphen : (steps : Steps) → Body (minus ∷ []) steps → add 0x2D 0x2D done ≡ steps
only_hyphen _ hyphen = refl

only_anchor : (steps : Steps) → Body (dollar ∷ []) steps → add 0xFFFF 0xFFFF done ≡ steps
only_anchor _ anchor = refl

only_single : (a : ℕ) (steps : Steps) → Body (chars (a ∷ []) ∷ []) steps → add a a done ≡ steps
only_single a _ (members {steps} h) = ap (add a a) (only_done steps h)

only_range : (a : ℕ) (steps : Steps) → Body (chars (a ∷ []) ∷ minus ∷ []) steps → add a a (add 0x2D 0x2D done) ≡ steps
only_range a _ (members {steps} h) = ap (add a a) (only_hyphen steps h)

only_tail : (steps : Steps) → Tail [] steps → done ≡ steps
only_tail steps (goes_on h) = only_done steps h

only_tail_hyphen : (steps : Steps) → Tail (minus ∷ []) steps → add 0x2D 0x2D done ≡ steps
only_tail_hyphen steps (goes_on h) = only_hyphen steps h

no_tail_ampersand : (steps : Steps) → Tail (ampersand ∷ []) steps → ⊥
no_tail_ampersand steps (goes_on h) = no_ampersand_first h

ends_by : (s : Awaits) → EndsBy s (ending s)
ends_by element = (empty, only_done)
ends_by (after_single a) = (members empty, only_single a)
ends_by (range_end a) = (members hyphen, only_range a)
ends_by hyphen_end = (hyphen, only_hyphen)
ends_by anchor_end = (anchor, only_anchor)
ends_by after_set = (goes_on empty, only_tail)
ends_by remove_or_end = (goes_on hyphen, only_tail_hyphen)
ends_by keep_set = no_tail_ampersand

abbrev Comes : Awaits → List Item → Next → Type 0
Comes s l stuck = Unit {0}
Comes s l (on s' f) = (m : List Item) (rest : Steps) → Residual s' m rest → Residual s (l ++ m) (f rest)

comes_after : (s s' : Awaits) (i : Item) (is : List Item) (f : Steps → Steps) (n : Next) →
    Leaves s i (on s' f) → Comes s' is n → Comes s (i ∷ is) (after f n)
comes_after s s' i is f stuck one more = tt
comes_after s s' i is f (on e g) one more = λ m rest h. one (is ++ m) (g rest) (more m rest h)

comes_onward : (s : Awaits) (i : Item) (is : List Item) (n : Next) → Leaves s i n → ((s' : Awaits) → Comes s' is (run s' is)) → Comes s (i ∷ is) (onward n (λ s'. run s' is))
comes_onward s i is stuck one more = tt
comes_onward s i is (on s' f) one more = comes_after s s' i is f (run s' is) one (more s')

comes : (s : Awaits) (l : List Item) → Comes s l (run s l)
comes s [] = λ m rest h. h
comes s (i ∷ is) = comes_onward s i is (next s i) (leaves s i) (λ s'. comes s' is)

-- and back
follows_after : (m : List Item) (all rest : Steps) (f : Steps → Steps) (n : Next) → Follows m rest n → all ≡ f rest → Follows m all (after f n)
follows_after m all rest f stuck h e = h
follows_after m all rest f (on s g) h e = (h.0, h.1, e ∙ ap f h.2)

follows_onward : (is m : List Item) (all : Steps) (n : Next) → Follows (is ++ m) all n → ((s' : Awaits) (rest : Steps) → Residual s' (is ++ m) rest → Follows m rest (run s' is)) → Follows m all (onward n (λ s'. run s' is))
follows_onward is m all stuck h more = h
follows_onward is m all (on s' f) h more = follows_after m all h.0 f (run s' is) (more s' h.0 h.1) h.2

follows_run : (s : Awaits) (l m : List Item) (all : Steps) → Residual s (l ++ m) all → Follows m all (run s l)
follows_run s [] m all h = (all, h, refl)
follows_run s (i ∷ is) m all h = follows_onward is m all (next s i) (follows s i (is ++ m) all h) (λ s' rest k. follows_run s' is m rest k)

-- THE TWO ANSWERS
goes_where : (m : List Item) (all : Steps) (n : Next) → Follows m all n → went n ≡ true
goes_where m all stuck h = absurd h
goes_where m all (on s f) h = refl

pub fits_fit : (l : List Item) → Fits l → fit l ≡ true
fits_fit l (closed {steps} h) = goes_where [] steps (run element l) (follows_run element l [] steps (subst (λ m. Body m steps) (sym (append-nil l)) h))
fits_fit l (closed_behind_set tree {steps} h) = goes_where (nested tree ∷ []) steps (run element l) (follows_run element l (nested tree ∷ []) steps h)

fits_by : (l : List Item) (s : Awaits) (f : Steps → Steps) (e : Option Steps) → Comes element l (on s f) → EndsBy s e → ending s ≡ e → Fits l
fits_by l s f (Some e) h by is = closed (subst (λ m. Body m (f e)) (append-nil l) (h [] e by.0))
fits_by l keep_set f None h by is = closed_behind_set given_set (h (nested given_set ∷ []) (keep given_set done) (keeps (goes_on empty)))
  where
    given_set : Tree
    given_set = bracket false false done
fits_by l element f None h by is = absurd (by done empty)
fits_by l (after_single a) f None h by is = absurd (by _ (members empty))
fits_by l (range_end a) f None h by is = absurd (by _ (members hyphen))
fits_by l hyphen_end f None h by is = absurd (by _ hyphen)
fits_by l anchor_end f None h by is = absurd (by _ anchor)
fits_by l after_set f None h by is = absurd (by _ (goes_on empty))
fits_by l remove_or_end f None h by is = absurd (by _ (goes_on hyphen))

fits_where : (l : List Item) (n : Next) → Comes element l n → went n ≡ true → Fits l
fits_where l stuck h e = absurd (let g : false ≡ true = e in cc)
fits_where l (on s f) h e = fits_by l s f (ending s) h (ends_by s) refl

pub fit_fits : (l : List Item) → fit l ≡ true → Fits l
fit_fits l e = fits_where l (run element l) (comes element l) e

arranged_body : (l : List Item) (n : Next) (s : Steps) → Comes element l n → arranged n ≡ Some s → Body l s
arranged_body l stuck s h e = absurd (let g : None ≡ Some s = e in cc)
arranged_body l (on w f) s h e = by (ending w) (ends_by w) e
  where
    by : (o : Option Steps) → EndsBy w o → finish f o ≡ Some s → Body l s
    by None k g = absurd (let g' : None ≡ Some s = g in cc)
    by (Some r) k g = subst (λ z. Body l z) (let q : Some (f r) ≡ Some s = g in cc) (subst (λ m. Body m (f r)) (append-nil l) (h [] r k.0))

pub arrange_body : (l : List Item) (s : Steps) → arrange l ≡ Some s → Body l s
arrange_body l s e = arranged_body l (run element l) s (comes element l) e

body_arranged : (n : Next) (s : Steps) → Follows [] s n → arranged n ≡ Some s
body_arranged stuck s h = absurd h
body_arranged (on w f) s h = by (ending w) (ends_by w)
  where
    by : (o : Option Steps) → EndsBy w o → finish f o ≡ Some s
    by None k = absurd (k h.0 h.1)
    by (Some r) k = ap (λ z. Some (f z)) (k.1 h.0 h.1) ∙ ap (λ z. Some z) (sym h.2)

pub body_arrange : (l : List Item) (s : Steps) → Body l s → arrange l ≡ Some s
body_arrange l s h = body_arranged (run element l) s (follows_run element l [] s (subst (λ m. Body m s) (sym (append-nil l)) h))

-- beginnings
abbrev goes_then : Next → (Awaits → Bool) → Bool
goes_then stuck k = false
goes_then (on s f) k = k s

went_after : (f : Steps → Steps) (n : Next) → went (after f n) ≡ went n
went_after f stuck = refl
went_after f (on s g) = refl

then_after : (f : Steps → Steps) (n : Next) (k : Awaits → Bool) → goes_then (after f n) k ≡ goes_then n k
then_after f stuck k = refl
then_after f (on s g) k = refl

went_onward : (n : Next) (is m : List Item) → ((s : Awaits) → went (run s (is ++ m)) ≡ goes_then (run s is) (λ s'. went (run s' m))) →
    went (onward n (λ s. run s (is ++ m))) ≡ goes_then (onward n (λ s. run s is)) (λ s'. went (run s' m))
went_onward stuck is m h = refl
went_onward (on s f) is m h = went_after f (run s (is ++ m)) ∙ (h s ∙ sym (then_after f (run s is) (λ s'. went (run s' m))))

went_append : (s : Awaits) (l m : List Item) → went (run s (l ++ m)) ≡ goes_then (run s l) (λ s'. went (run s' m))
went_append s [] m = refl
went_append s (i ∷ is) m = went_onward (next s i) is m (λ s'. went_append s' is m)

then_went : (n : Next) (k : Awaits → Bool) → goes_then n k ≡ true → went n ≡ true
then_went stuck k e = e
then_went (on s f) k e = refl

pub fit_front : (l m : List Item) → fit (l ++ m) ≡ true → fit l ≡ true
fit_front l m e = then_went (run element l) (λ s'. went (run s' m)) (sym (went_append element l m) ∙ e)

then_same : (n : Next) (j k : Awaits → Bool) → ((s : Awaits) → j s ≡ k s) → goes_then n j ≡ goes_then n k
then_same stuck j k h = refl
then_same (on s f) j k h = h s

same_members : (s : Awaits) (i j : Item) (f g : Steps → Steps) → ((s : Awaits) → next s i ≡ members_next s f) → ((s : Awaits) → next s j ≡ members_next s g) → went (run s (i ∷ [])) ≡ went (run s (j ∷ []))
same_members s i j f g h k = ap (λ n. went (onward n (λ s'. on s' same))) (h s) ∙ (by s ∙ sym (ap (λ n. went (onward n (λ s'. on s' same))) (k s)))
  where
    by : (s : Awaits) → went (onward (members_next s f) (λ s'. on s' same)) ≡ went (onward (members_next s g) (λ s'. on s' same))
    by element = refl
    by (after_single a) = refl
    by (range_end a) = refl
    by hyphen_end = refl
    by anchor_end = refl
    by after_set = refl
    by remove_or_end = refl
    by keep_set = refl

-- any two codes fit where two others fit
pub fit_several : (l : List Item) (a b c d : ℕ) (cs ds : List ℕ) → fit (l ++ chars (a ∷ b ∷ cs) ∷ []) ≡ fit (l ++ chars (c ∷ d ∷ ds) ∷ [])
fit_several l a b c d cs ds =
    went_append element l (chars (a ∷ b ∷ cs) ∷ [])
    ∙ (then_same (run element l) (λ s. went (run s (chars (a ∷ b ∷ cs) ∷ []))) (λ s. went (run s (chars (c ∷ d ∷ ds) ∷ [])))
    (λ s. same_members s (chars (a ∷ b ∷ cs)) (chars (c ∷ d ∷ ds)) (add_each (a ∷ b ∷ cs)) (add_each (c ∷ d ∷ ds)) (λ w. refl) (λ w. refl))
    ∙ sym (went_append element l (chars (c ∷ d ∷ ds) ∷ [])))

-- whether one more item fits, by what is awaited
pub fit_next : (l : List Item) (s : Awaits) (f : Steps → Steps) (i : Item) → run element l ≡ on s f → fit (l ++ i ∷ []) ≡ went (next s i)
fit_next l s f i e = went_append element l (i ∷ []) ∙ (ap (λ n. goes_then n (λ s'. went (run s' (i ∷ [])))) e ∙ by (next s i))
  where
    by : (n : Next) → went (onward n (λ s'. on s' same)) ≡ went n
    by stuck = refl
    by (on s f) = refl

after_same : (n : Next) → onward n (λ s'. on s' same) ≡ n
after_same stuck = refl
after_same (on s f) = refl

after_twice : (f g : Steps → Steps) (n : Next) → after f (after g n) ≡ after (λ x. f (g x)) n
after_twice f g stuck = refl
after_twice f g (on s h) = refl

push_after : (f : Steps → Steps) (n : Next) (i : Item) → onward (after f n) (λ s. next s i) ≡ after f (onward n (λ s. next s i))
push_after f stuck i = refl
push_after f (on s g) i = sym (after_twice f g (next s i))

push_onward : (n : Next) (js : List Item) (i : Item) → ((s : Awaits) → run s (js ++ i ∷ []) ≡ onward (run s js) (λ s'. next s' i)) →
    onward n (λ s. run s (js ++ i ∷ [])) ≡ onward (onward n (λ s. run s js)) (λ s. next s i)
push_onward stuck js i h = refl
push_onward (on s f) js i h = ap (after f) (h s) ∙ sym (push_after f (run s js) i)

same_after : (n : Next) → n ≡ after same n
same_after stuck = refl
same_after (on s f) = refl

-- what is awaited behind one more item
pub run_next : (s : Awaits) (l : List Item) (i : Item) → run s (l ++ i ∷ []) ≡ onward (run s l) (λ s'. next s' i)
run_next s [] i = after_same (next s i) ∙ same_after (next s i)
run_next s (j ∷ js) i = push_onward (next s j) js i (λ s'. run_next s' js i)

-- whether one more item fits, and what is awaited behind it
pub one_more : (is : List Item) (s : Awaits) (f : Steps → Steps) → run element is ≡ on s f → (i : Item) →
    (fit (is ++ i ∷ []) ≡ went (next s i)) × (run element (is ++ i ∷ []) ≡ after f (next s i))
one_more is s f e i = (fit_next is s f i e, run_next element is i ∙ ap (λ z. onward z (λ w. next w i)) e)
