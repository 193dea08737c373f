-- Brackets that gather.
use Rattle.std.proofs.Common.{◌≡◌, ◌≢◌, ◌<◌, ◌+◌, ℕ, suc, Bool, true, false, List, [], ◌∷◌, ◌++◌, length, take, slice_index_or, Option, Some, None, Result, OnOk, Box, not, ◌||◌, ◌&&◌, refl, sym, ap, ◌∙◌, subst, arith}
use Rattle.std.proofs.Math.Seq.{take-suc}
use Rattle.std.specs.Global.{Global}
use Rattle.std.specs.declared.string.String.{String}
use Rattle.std.specs.String.{string_bytes}
use Rattle.cp_invlist.specs.declared.error.NoMemory.{NoMemory}
use Rattle.std.proofs.lemmas.Result.{on_ok_weaker}
use Rattle.uset_grammar.specs.Tree.{Tree, Member, has, Steps, add, gathers, in_range, leading_hyphen}
use Rattle.uset_grammar.specs.Item.{Item, chars, tree_of}
use Rattle.uset_grammar.specs.Body.{add_each}
use Rattle.uset_grammar.specs.Text.{Text}
use Rattle.uset_grammar.specs.Arranging.{same, Next, stuck, on, next, after, went, finish, ending, arranged}
use Rattle.uset_grammar.specs.Reached.{OpenBracket}
use Rattle.uset_grammar.specs.Place.{size}
use Rattle.uset_grammar.specs.Turn.{greatest, reversed_code}
use Rattle.uset_grammar.specs.Laws.{AwaitedTells}
use Rattle.uset_steps.specs.declared.closed.Closed.{Closed as ClosedSet}
use Rattle.uset_gather.specs.Gathered.{is_string}
use Rattle.uset_steps.specs.Terms.{closed_in}
use Rattle.uset_grammar.specs.Language.{Language}
use Rattle.uset_steps.specs.declared.gathering.Gathering.{Gathering}
use Rattle.uset_steps.specs.declared.named_set.Named.{Named as NamedOperand}
use Rattle.uset_steps.specs.declared.step.Operation.{Operation}
use Rattle.uset_steps.specs.declared.step.Operation.TheVariants.{Join, Remove, Retain}
use Rattle.uset_steps.specs.declared.gathering.Place.{Place}
use Rattle.uset_steps.specs.Names.{Name, Sets, StandsFor, named_in, IsSetOf}
use Rattle.uset_steps.specs.Operations.{operated}
use Rattle.uset_steps.specs.Gathering.{gathering_in, closed as finished, IsPlaceOf, KeepsPlaces, Fits as NamesFit, Becomes as StepsBecome, BecomesWith as StepsBecomeWith}
use Rattle.uset_reader.specs.declared.item.Codes.{Codes}
use Rattle.uset_reader.specs.declared.item.Item.{Item as CodeItem}
use Rattle.uset_reader.specs.declared.item.Item.TheVariants.{Minus, Ampersand, Dollar, Single, Several, Text as Spelled, NamedText, Set}
use Rattle.uset_reader.specs.declared.item.Operand.TheVariants.{Inner, Named, Again}
use Rattle.uset_reader.specs.Named.{sets_of}
use Rattle.uset_reader.specs.declared.bracket.Opening.{Opening as CodeOpening}
use Rattle.uset_reader.specs.declared.bracket.OpenBracket.{OpenBracket as CodeBracket}
use Rattle.uset_reader.specs.declared.bracket.Taken.{Taken}
use Rattle.uset_reader.specs.declared.bracket.Taken.TheVariants.{Fits, Reversed, Unfit}
use Rattle.uset_reader.specs.declared.arrange.Arranged.{Arranged}
use Rattle.uset_reader.specs.declared.arrange.Awaits.TheVariants.{Element}
use Rattle.uset_reader.specs.Items.{number_of, Meant, Means, awaits_seen, arranged_steps, Arranges, operated as operated_steps, own_steps}
use Rattle.uset_reader.specs.Brackets.{opening_seen, KeepsFrame, Follows, Becomes, BecomesWith, GathersItem, Stands, begun, Took, Refused, Became, Refuses, Closed, EndedAs}

-- a bracket that begins
pub begins : (l : Language) (b : CodeBracket) (opening : CodeOpening) (before : Text) (place : ℕ) → b.opening ≡ opening → b.awaits ≡ Element → b.before ≡ place → place ≡ size before →
    ((m : Member) → gathering_in (sets_of l) b.gathered m ≡ leading_hyphen opening.leading m) → NamesFit (sets_of l) b.gathered → Stands l b (begun before opening)
begins l b opening before place o a p at g fits = record {
  header = sym (ap opening_seen o);
  before = p ∙ at;
  steps = same;
  awaited = ap (λ s. on (awaits_seen s) same) (sym a);
  gathered = λ rest m. ap (gathers rest m) (sym (g m));
  fits = fits;
}

-- a range that was added
becomes_added : (old new : Gathering) (first last : ℕ) → StepsBecome old new (λ sets m. gathering_in sets old m || in_range first last m) → KeepsPlaces old new → Becomes old (add first last) new
becomes_added old new first last h places = record {
  fitting = λ sets f. let k = h sets f in record { follows = λ rest m. ap (gathers rest m) (sym (k.has m)); fits = k.fits };
  places = places;
}

pub added : (result : Result (Unit {0}) NoMemory) (old new : Gathering) (first last : ℕ) → OnOk result (StepsBecome old new (λ sets m. gathering_in sets old m || in_range first last m)) → KeepsPlaces old new →
    OnOk result (Becomes old (add first last) new)
added result old new first last h places = on_ok_weaker result (λ becomes. becomes_added old new first last becomes places) h

-- one more code point
each_more : (cs : List ℕ) (c : ℕ) (rest : Steps) → add_each (cs ++ c ∷ []) rest ≡ add_each cs (add c c rest)
each_more [] c rest = refl
each_more (d ∷ cs) c rest = ap (add d d) (each_more cs c rest)

pub becomes_more : (old between new : Gathering) (cs : List ℕ) (c : ℕ) → Becomes old (add_each cs) between → Becomes between (add c c) new → Becomes old (add_each (cs ++ c ∷ [])) new
becomes_more old between new cs c h k = record {
  fitting = λ sets f.
      let first = h.fitting sets f in
      let then = k.fitting sets first.fits in
      record {
        follows = λ rest m. ap (λ s. gathers s m (gathering_in sets old m)) (each_more cs c rest) ∙ (first.follows (add c c rest) m ∙ then.follows rest m);
        fits = then.fits;
      };
  places = λ name place at. k.places name place (h.places name place at);
}

-- the next code point of a list
pub becomes_next : (old between new : Gathering) (first : ℕ) (cs : List ℕ) (i d : ℕ) → i < length cs → Becomes old (add_each (first ∷ take i cs)) between →
    Becomes between (add (slice_index_or cs i d) (slice_index_or cs i d)) new → Becomes old (add_each (first ∷ take (i + 1) cs)) new
becomes_next old between new first cs i d below h k =
    let one : i + 1 ≡ suc i = omega arith in
    let more : take i cs ++ slice_index_or cs i d ∷ [] ≡ take (i + 1) cs = sym (take-suc cs i d below) ∙ ap (λ n. take n cs) (sym one) in
    subst (λ xs. Becomes old (add_each (first ∷ xs)) new) more (becomes_more old between new (first ∷ take i cs) (slice_index_or cs i d) h k)

-- what changed only what was gathered, and then again
pub keeps_then : (old between new : CodeBracket) → KeepsFrame old between → KeepsFrame between new → KeepsFrame old new
keeps_then old between new h k = record { opening = k.opening ∙ h.opening; before = k.before ∙ h.before; awaits = k.awaits ∙ h.awaits }

-- one after another
pub becomes_then : (l : Language) (old between new : Gathering) (f g : Steps → Steps) → BecomesWith (sets_of l) old f between → BecomesWith (sets_of l) between g new → BecomesWith (sets_of l) old (λ rest. f (g rest)) new
becomes_then l old between new f g h k = record { follows = λ rest m. h.follows (g rest) m ∙ k.follows rest m; fits = k.fits }

-- the own steps of several code points
pub own_several : (operation : Operation) (c : ℕ) (cs : List ℕ) (rest : Steps) → cs ≢ [] → own_steps operation (chars (c ∷ cs)) rest ≡ add_each (c ∷ cs) rest
own_several operation c [] rest n = absurd (n refl)
own_several operation c (d ∷ cs) rest n = refl

-- an item that was arranged and gathered
pub took : (l : Language) (awaited : AwaitedTells) (old new : CodeBracket) (o : OpenBracket) (i : Item) (a : Arranged) (n : Next) → next (awaits_seen old.awaits) i ≡ n → Arranges n i (Some a) →
    new.awaits ≡ a.awaits → new.opening ≡ old.opening → new.before ≡ old.before → BecomesWith (sets_of l) old.gathered (arranged_steps a i) new.gathered → Stands l old o → Took l old new o i
took l awaited old new o i a stuck e h w op be g s = absurd h
took l awaited old new o i a (on t f) e h w op be g s =
    let more = awaited o.items (awaits_seen old.awaits) s.steps s.awaited i in record {
      fits = more.0 ∙ ap went e;
      stands = record {
        header = s.header ∙ ap opening_seen (sym op);
        before = be ∙ s.before;
        steps = λ rest. s.steps (f rest);
        awaited = more.1 ∙ (ap (after s.steps) e ∙ ap (λ z. on z (λ rest. s.steps (f rest))) (h.0 ∙ ap awaits_seen (sym w)));
        gathered = λ rest m. s.gathered (f rest) m ∙ (ap (λ z. gathers z m (gathering_in (sets_of l) old.gathered m)) (h.1 rest) ∙ g.follows rest m);
        fits = g.fits;
      };
    }

-- an item that was refused
refused_with : (l : Language) (awaited : AwaitedTells) (old : CodeBracket) (o : OpenBracket) (i : Item) (code : Option ℕ) → next (awaits_seen old.awaits) i ≡ stuck →
    reversed_code i (went (next (awaits_seen old.awaits) greatest)) ≡ code → Stands l old o → Refused o i code
refused_with l awaited old o i code e r s = record {
  unfit = (awaited o.items (awaits_seen old.awaits) s.steps s.awaited i).0 ∙ ap went e;
  reversed = ap (reversed_code i) (awaited o.items (awaits_seen old.awaits) s.steps s.awaited greatest).0 ∙ r;
}

pub refused : (l : Language) (awaited : AwaitedTells) (old new : CodeBracket) (o : OpenBracket) (i : Item) (taken : Taken) → next (awaits_seen old.awaits) i ≡ stuck →
    Refuses (awaits_seen old.awaits) i taken → Stands l old o → Became l old taken new o i
refused l awaited old new o i Fits e h s = absurd h
refused l awaited old new o i (Reversed c) e h s = refused_with l awaited old o i (Some (number_of c)) e (h e) s
refused l awaited old new o i Unfit e h s = refused_with l awaited old o i None e (h e) s

-- an item that is not arranged is refused
pub not_arranged : (i : Item) (n : Next) → Arranges n i None → n ≡ stuck
not_arranged i stuck h = refl
not_arranged i (on s f) h = absurd h

-- a bracket that closes
pub closes : (l : Language) (b : CodeBracket) (o : OpenBracket) (all : Gathering) (set : ClosedSet) (ends : Bool) → Stands l b o → ends ≡ true → EndedAs (ending (awaits_seen b.awaits)) b.gathered all ends →
    (NamesFit (sets_of l) all → (m : Member) → closed_in (sets_of l) set m ≡ finished b.opening.negated m (gathering_in (sets_of l) all m)) → Closed l o set
closes l b o all set ends s is h g = by (ending (awaits_seen b.awaits)) refl h
  where
    by : (e : Option Steps) → ending (awaits_seen b.awaits) ≡ e → EndedAs e b.gathered all ends → Closed l o set
    by None e none = absurd (let k : false ≡ true = sym none ∙ is in cc)
    by (Some last) e some = record {
      steps = s.steps last;
      arranged = ap arranged s.awaited ∙ ap (finish s.steps) e;
      members = λ m.
          g (some.1 (sets_of l) s.fits).fits m
          ∙ (ap (finished b.opening.negated m) (sym ((some.1 (sets_of l) s.fits).has m) ∙ (sym (s.gathered last m) ∙ ap (λ h. gathers (s.steps last) m (leading_hyphen h.leading m)) s.header))
          ∙ sym (ap (λ h. has (tree_of h (s.steps last)) m) s.header));
    }

-- SETS AND STEPS
-- a set was gathered whose members the tree has
operation_follows : (sets : Sets) (operation : Operation) (tree : Tree) (old new : Gathering) (set : Member → Bool) → ((m : Member) → gathering_in sets new m ≡ operated operation (set m) (gathering_in sets old m)) →
    ((m : Member) → has tree m ≡ set m) → Follows sets old (operated_steps operation tree) new
operation_follows sets Join tree old new set g same rest m = ap (gathers rest m) (ap (λ b. gathering_in sets old m || b) (same m) ∙ sym (g m))
operation_follows sets Remove tree old new set g same rest m = ap (gathers rest m) (ap (λ b. gathering_in sets old m && not b) (same m) ∙ sym (g m))
operation_follows sets Retain tree old new set g same rest m = ap (gathers rest m) (ap (λ b. gathering_in sets old m && b) (same m) ∙ sym (g m))

pub gathers_inner : (operation : Operation) (set : ClosedSet) (old new : Gathering) → StepsBecome old new (λ sets m. operated operation (closed_in sets set m) (gathering_in sets old m)) → GathersItem operation (Set (Inner set)) old new
gathers_inner operation set old new h l meant fits is =
    let k = h (sets_of l) fits in record { follows = operation_follows (sets_of l) operation meant.tree old new (closed_in (sets_of l) set) k.has is; fits = k.fits }

pub gathers_named : (operation : Operation) (named : Box NamedOperand Global) (old new : Gathering) →
    ((sets : Sets) → NamesFit sets old → IsSetOf sets named.value → StepsBecomeWith sets new (λ m. operated operation (named_in named.value.set m) (gathering_in sets old m))) → GathersItem operation (Set (Named named)) old new
gathers_named operation named old new h l meant fits is =
    let k = h (sets_of l) fits is.1 in record { follows = operation_follows (sets_of l) operation meant.tree old new (named_in named.value.set) k.has is.0; fits = k.fits }

-- the code points of an escape
pub gathers_several : (operation : Operation) (codes : Codes) (old new : Gathering) → Becomes old (add_each (codes.first ∷ codes.more.items)) new → GathersItem operation (Several codes) old new
gathers_several operation codes old new h l meant fits is =
    let k = h.fitting (sets_of l) fits in record {
      follows = λ rest m. ap (λ s. gathers s m (gathering_in (sets_of l) old m)) (own_several operation codes.first codes.more.items rest codes.several) ∙ k.follows rest m;
      fits = k.fits;
    }

-- a string
pub gathers_text : (operation : Operation) (s : String Global) (old new : Gathering) → StepsBecome old new (λ sets m. gathering_in sets old m || is_string (string_bytes s) m) → GathersItem operation (Spelled s) old new
gathers_text operation s old new h l meant fits is =
    let k = h (sets_of l) fits in record { follows = λ rest m. ap (gathers rest m) (sym (k.has m)); fits = k.fits }

-- a string was gathered as the set of it alone
pub gathers_named_text : (operation : Operation) (named : Box NamedOperand Global) (old new : Gathering) →
    ((sets : Sets) → NamesFit sets old → IsSetOf sets named.value → StepsBecomeWith sets new (λ m. operated Join (named_in named.value.set m) (gathering_in sets old m))) → GathersItem operation (NamedText named) old new
gathers_named_text operation named old new h l meant fits is =
    let k = h (sets_of l) fits is.1 in record {
      follows = λ rest m. ap (gathers rest m) (ap (λ b. gathering_in (sets_of l) old m || b) (sym (is.0 m)) ∙ sym (k.has m));
      fits = k.fits;
    }

-- a set that is kept was gathered again
pub gathers_again : (operation : Operation) (place : Place) (old new : Gathering) →
    ((sets : Sets) (name : Name) (set : Member → Bool) → NamesFit sets old → IsPlaceOf old name place → StandsFor sets name set → StepsBecomeWith sets new (λ m. operated operation (set m) (gathering_in sets old m))) →
    GathersItem operation (Set (Again place)) old new
gathers_again operation place old new h l meant fits (name, at, stands) =
    let k = h (sets_of l) name (has meant.tree) fits at stands in record { follows = operation_follows (sets_of l) operation meant.tree old new (has meant.tree) k.has (λ m. refl); fits = k.fits }

-- an item stays what it is where the same sets are kept at their places
pub means_still : (l : Language) (old new : Gathering) (item : CodeItem) (meant : Meant) → ((name : Name) (place : Place) → IsPlaceOf old name place → IsPlaceOf new name place) → Means l old item meant → Means l new item meant
means_still l old new (Set (Inner set)) meant places h = h
means_still l old new (Set (Named named)) meant places h = h
means_still l old new (Set (Again place)) meant places (name, at, stands) = (name, places name place at, stands)
means_still l old new Minus meant places h = tt
means_still l old new Ampersand meant places h = tt
means_still l old new Dollar meant places h = tt
means_still l old new (Single c) meant places h = tt
means_still l old new (Several codes) meant places h = tt
means_still l old new (Spelled t) meant places h = tt
means_still l old new (NamedText named) meant places h = h
