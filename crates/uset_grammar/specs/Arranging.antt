-- How a reader arranges the items of a bracket one by one: what it awaits behind them, and the steps that they are. That it
-- arranges them as the rules for bodies do is a law.
use Rattle.std.specs.Prelude.{ℕ, nat_le, Bool, true, false, List, [], ◌∷◌, Option, Some, None, if◌then◌else◌}
use Prim.Native.Char.{code}
use Rattle.uset_grammar.specs.Tree.{Tree, Steps, done, add, add_text, join, remove, keep}
use Rattle.uset_grammar.specs.Item.{Item, chars, text, nested, minus, ampersand, dollar}
use Rattle.uset_grammar.specs.Body.{add_each}

-- What is awaited behind items.
pub data Awaits : Type 0 where
  -- an item or the end
  element : Awaits
  -- behind a single character: an item, a hyphen or the end
  after_single : ℕ → Awaits
  -- behind a single character and a hyphen: the end of the range, or the end
  range_end : ℕ → Awaits
  -- behind a hyphen that begins nothing: the end
  hyphen_end : Awaits
  -- behind a dollar: the end
  anchor_end : Awaits
  -- behind a set: an item, a hyphen, an ampersand or the end
  after_set : Awaits
  -- behind a set and a hyphen: the set that is taken away, or the end
  remove_or_end : Awaits
  -- behind a set and an ampersand: the set whose members are kept
  keep_set : Awaits

-- An item is refused, or what is awaited behind it, and the item's steps in front of those to come.
pub data Next : Type 0 where
  stuck : Next
  on : Awaits → (Steps → Steps) → Next

abbrev pub same : Steps → Steps
same s = s

abbrev pub minus_next : Awaits → Next
minus_next element = on hyphen_end same
minus_next (after_single a) = on (range_end a) same
minus_next (range_end a) = stuck
minus_next hyphen_end = stuck
minus_next anchor_end = stuck
minus_next after_set = on remove_or_end same
minus_next remove_or_end = stuck
minus_next keep_set = stuck

abbrev pub ampersand_next : Awaits → Next
ampersand_next element = stuck
ampersand_next (after_single a) = stuck
ampersand_next (range_end a) = stuck
ampersand_next hyphen_end = stuck
ampersand_next anchor_end = stuck
ampersand_next after_set = on keep_set same
ampersand_next remove_or_end = stuck
ampersand_next keep_set = stuck

abbrev pub dollar_next : Awaits → Next
dollar_next element = on anchor_end same
dollar_next (after_single a) = on anchor_end (add a a)
dollar_next (range_end a) = stuck
dollar_next hyphen_end = stuck
dollar_next anchor_end = stuck
dollar_next after_set = on anchor_end same
dollar_next remove_or_end = stuck
dollar_next keep_set = stuck

abbrev pub single_next : Awaits → ℕ → Next
single_next element c = on (after_single c) same
single_next (after_single a) c = on (after_single c) (add a a)
single_next (range_end a) c = if nat_le a c then on element (add a c) else stuck
single_next hyphen_end c = stuck
single_next anchor_end c = stuck
single_next after_set c = on (after_single c) same
single_next remove_or_end c = stuck
single_next keep_set c = stuck

abbrev pub members_next : Awaits → (Steps → Steps) → Next
members_next element f = on element f
members_next (after_single a) f = on element (λ s. add a a (f s))
members_next (range_end a) f = stuck
members_next hyphen_end f = stuck
members_next anchor_end f = stuck
members_next after_set f = on element f
members_next remove_or_end f = stuck
members_next keep_set f = stuck

abbrev pub set_next : Awaits → Tree → Next
set_next element t = on after_set (join t)
set_next (after_single a) t = on after_set (λ s. add a a (join t s))
set_next (range_end a) t = stuck
set_next hyphen_end t = stuck
set_next anchor_end t = stuck
set_next after_set t = on after_set (join t)
set_next remove_or_end t = on after_set (remove t)
set_next keep_set t = on after_set (keep t)

abbrev pub next : Awaits → Item → Next
next s (chars []) = members_next s same
next s (chars (c ∷ [])) = single_next s c
next s (chars (c ∷ d ∷ cs)) = members_next s (add_each (c ∷ d ∷ cs))
next s (text t) = members_next s (add_text t)
next s (nested t) = set_next s t
next s minus = minus_next s
next s ampersand = ampersand_next s
next s dollar = dollar_next s

-- the steps of what is awaited, where nothing follows
abbrev pub ending : Awaits → Option Steps
ending element = Some done
ending (after_single a) = Some (add a a done)
ending (range_end a) = Some (add a a (add (code "-") (code "-") done))
ending hyphen_end = Some (add (code "-") (code "-") done)
ending anchor_end = Some (add 0xFFFF 0xFFFF done)
ending after_set = Some done
ending remove_or_end = Some (add (code "-") (code "-") done)
ending keep_set = None

-- the same behind these steps
abbrev pub after : (Steps → Steps) → Next → Next
after f stuck = stuck
after f (on s g) = on s (λ x. f (g x))

-- what is done behind what was done
abbrev pub onward : Next → (Awaits → Next) → Next
onward stuck k = stuck
onward (on s f) k = after f (k s)

-- items one behind another
abbrev pub run : Awaits → List Item → Next
run s [] = on s same
run s (i ∷ is) = onward (next s i) (λ s'. run s' is)

abbrev pub went : Next → Bool
went stuck = false
went (on s f) = true

-- whether the items are refused nowhere
abbrev pub fit : List Item → Bool
fit l = went (run element l)

abbrev pub finish : (Steps → Steps) → Option Steps → Option Steps
finish f None = None
finish f (Some e) = Some (f e)

abbrev pub arranged : Next → Option Steps
arranged stuck = None
arranged (on s f) = finish f (ending s)

-- the steps that items are arranged to, where they are
abbrev pub arrange : List Item → Option Steps
arrange l = arranged (run element l)
