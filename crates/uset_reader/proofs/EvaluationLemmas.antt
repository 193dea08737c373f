-- Steps over the lists of sets, and over the sets themselves.
use Rattle.std.proofs.Common.{◌≡◌, ℕ, zero, suc, ◌<◌, ◌+◌, Bool, true, false, not, ◌&&◌, List, [], ◌∷◌, ◌++◌, length, map, take, slice_index_or, Option, Some, None, Result, Ok, Err, IfOk, option_map, refl, sym, ap, ap₂, ◌∙◌, subst, arith, if◌then◌else◌, encode_utf8_all}
use Rattle.std.specs.Prelude.{All, slice_get}
use Rattle.std.proofs.Math.Bool.{and-false}
use Rattle.std.proofs.Math.Seq.{take-suc}
use Rattle.std.proofs.lemmas.List.{map-append}
use Rattle.std.specs.Str.{chars}
use Rattle.std.proofs.lemmas.Option.{slice_get-map, slice_get_within, get_or_from_slice_get}
use Rattle.cp_invlist.specs.InversionList.{contains, is_code_point, IsInversionList}
use Rattle.cp_invlist.specs.Laws.{MembersAreCodePoints}
use Rattle.cp_strset.specs.StringList.{holds}
use Rattle.cp_strset.specs.StringSet.{StringSet}
use Rattle.cp_strset_terms.specs.Leaves.{code_points_of, leaf_contains, leaf_holds}
use Rattle.cp_strset_terms.specs.Steps.{without_complements}
use Rattle.cp_strset_terms.specs.declared.leaf.Leaf.{Leaf}
use Rattle.cp_terms.specs.Terms.{combined, step_done, steps_done, top, value_of}
use Rattle.cp_terms.specs.declared.step.Step.{Step}
use Rattle.cp_terms.specs.declared.step.Step.TheVariants.{Push, Both, Complement as Complemented, Clear}
use Rattle.cp_terms.specs.declared.step.SetOperation.{SetOperation}
use Rattle.cp_terms.specs.declared.step.SetOperation.TheVariants.{Union, Difference, Intersection, ReverseDifference}
use Rattle.uset_grammar.specs.Tree.{Member, point, string, negation}
use Rattle.uset_gather.specs.Gathered.{in_set}
use Rattle.uset_variables.specs.declared.value.VariableValue.{VariableValue}
use Rattle.uset_variables.specs.declared.value.VariableValue.TheVariants.{UnicodeSet, Char, String as Spelled}
use Rattle.uset_variables.specs.Values.{value_seen}
use Rattle.uset_variables.specs.Variables.{bound}
use Rattle.uset_steps.specs.declared.named_set.NamedSet.TheVariants.{Set, CodePoints, Complement}
use Rattle.uset_steps.specs.declared.numbering.NumberedTerm.{NumberedTerm}
use Rattle.uset_steps.specs.declared.numbering.TermSet.{TermSet}
use Rattle.uset_steps.specs.Names.{Sets, variable, in_some, in_meant}
use Rattle.uset_steps.specs.TermSteps.{negated_top}
use Rattle.uset_steps.specs.TermLaws.{steps_over-push}
use Rattle.uset_steps.specs.NumberedTerms.{put_in, some_put_in, has_at, step_over, steps_over, numbered_in}
use Rattle.uset_reader.specs.declared.found.FoundSet.{FoundSet}
use Rattle.uset_reader.specs.declared.found.FoundSet.TheVariants.{Named, Numbered, Gathered}
use Rattle.uset_reader.specs.declared.syntax.Syntax.{Syntax}
use Rattle.uset_variables.specs.Numbered.{some_value_in}
use Rattle.uset_reader.specs.Named.{bound_set, sets_of}
use Rattle.uset_reader.specs.Syntaxes.{language_seen}
use Rattle.uset_reader.specs.Evaluation.{lists_of_leaf, lists_of_found, is_complement, some_complement, puts_complement, found_in, some_found_in, found_at, some_listed, listed_at, AreFound, PushesStep}

-- the next step of a list
pub over_next : (m : Member) (v : ℕ → Bool) (steps : List Step) (i : ℕ) (d : Step) → i < length steps → step_over m v (slice_index_or steps i d) (steps_over m v (take i steps) []) ≡ steps_over m v (take (i + 1) steps) []
over_next m v steps i d below =
    let one : i + 1 ≡ suc i = omega arith in
    sym (steps_over-push m v (take i steps) (slice_index_or steps i d) []) ∙ ap (λ ss. steps_over m v ss []) (sym (take-suc steps i d below) ∙ ap (λ n. take n steps) (sym one))

-- STEPS OVER CODE POINTS AND STRINGS
module _ (c : ℕ) (is : is_code_point c ≡ true) (v : ℕ → Bool) where
  step_at : (s : Step) (stack : List Bool) → step_over (point c) v s stack ≡ step_done v s stack
  step_at (Push number) stack = refl
  step_at (Both operation) stack = refl
  step_at Complemented [] = refl
  step_at Complemented (b ∷ stack) = ap (λ t. (t && not b) ∷ stack) is
  step_at Clear stack = refl

  steps_at : (ss : List Step) (stack : List Bool) → steps_over (point c) v ss stack ≡ steps_done v ss stack
  steps_at [] stack = refl
  steps_at (s ∷ ss) stack = ap (steps_over (point c) v ss) (step_at s stack) ∙ steps_at ss (step_done v s stack)

abbrev AllFalse : List Bool → Type 0
AllFalse [] = Unit {0}
AllFalse (b ∷ stack) = (b ≡ false) × AllFalse stack

neither : (operation : SetOperation) (lower upper : Bool) → lower ≡ false → upper ≡ false → combined operation lower upper ≡ false
neither Union lower upper h k = ap₂ (combined Union) h k
neither Difference lower upper h k = ap₂ (combined Difference) h k
neither Intersection lower upper h k = ap₂ (combined Intersection) h k
neither ReverseDifference lower upper h k = ap₂ (combined ReverseDifference) h k

-- beyond the code points no set has a member
module _ (c : ℕ) (is : is_code_point c ≡ false) (v : ℕ → Bool) (none : (number : ℕ) → v number ≡ false) where
  step_beyond : (s : Step) (stack : List Bool) → AllFalse stack → AllFalse (step_over (point c) v s stack)
  step_beyond (Push number) stack h = (none number, h)
  step_beyond (Both operation) [] h = tt
  step_beyond (Both operation) (upper ∷ []) h = h
  step_beyond (Both operation) (upper ∷ lower ∷ stack) h = (neither operation lower upper h.1.0 h.0, h.1.1)
  step_beyond Complemented [] h = tt
  step_beyond Complemented (b ∷ stack) h = (ap (λ t. t && not b) is, h.1)
  step_beyond Clear [] h = tt
  step_beyond Clear (b ∷ stack) h = (refl, h.1)

  steps_beyond : (ss : List Step) (stack : List Bool) → AllFalse stack → AllFalse (steps_over (point c) v ss stack)
  steps_beyond [] stack h = h
  steps_beyond (s ∷ ss) stack h = steps_beyond ss (step_over (point c) v s stack) (step_beyond s stack h)

  top_beyond : (stack : List Bool) → AllFalse stack → top stack ≡ false
  top_beyond [] h = refl
  top_beyond (b ∷ stack) h = h.0

  none_beyond : (ss : List Step) → top (steps_over (point c) v ss []) ≡ false
  none_beyond ss = top_beyond (steps_over (point c) v ss []) (steps_beyond ss [] tt)

module _ (bytes : List ℕ) (v : ℕ → Bool) where
  string_step : (s : Step) (ss : List Step) (stack : List Bool) → steps_done v (without_complements (s ∷ ss)) stack ≡ steps_done v (without_complements ss) (step_over (string bytes) v s stack)
  string_step (Push number) ss stack = refl
  string_step (Both operation) ss stack = refl
  string_step Complemented ss [] = refl
  string_step Complemented ss (b ∷ stack) = refl
  string_step Clear ss stack = refl

  string_steps : (ss : List Step) (stack : List Bool) → steps_over (string bytes) v ss stack ≡ steps_done v (without_complements ss) stack
  string_steps [] stack = refl
  string_steps (s ∷ ss) stack = string_steps ss (step_over (string bytes) v s stack) ∙ sym (string_step s ss stack)

-- LISTS AND SETS
-- a set from its lists, which are those of the complement of some
from_lists : (f : FoundSet) (m : Member) (x : Bool) → is_complement f ≡ x → found_in f m ≡ (if x then negation m (in_set (lists_of_found f) m) else in_set (lists_of_found f) m)
from_lists (Gathered set) m false h = refl
from_lists (Numbered set numbers) m false h = refl
from_lists (Named (Set set)) m false h = refl
from_lists (Named (CodePoints source)) (point c) false h = refl
from_lists (Named (CodePoints source)) (string bytes) false h = refl
from_lists (Named (Complement source)) (point c) true h = refl
from_lists (Named (Complement source)) (string bytes) true h = refl
from_lists (Gathered set) m true h = absurd (let e = h in cc)
from_lists (Numbered set numbers) m true h = absurd (let e = h in cc)
from_lists (Named (Set set)) m true h = absurd (let e = h in cc)
from_lists (Named (CodePoints source)) m true h = absurd (let e = h in cc)
from_lists (Named (Complement source)) m false h = absurd (let e = h in cc)

module _ (found : List FoundSet) where
  listed : (m : Member) (number : ℕ) → listed_at (map lists_of_found found) m number ≡ some_listed (option_map lists_of_found (slice_get found number)) m
  listed m number = ap (λ o. some_listed o m) (slice_get-map lists_of_found found number)

  -- a set that is put down by its own lists
  put_plain : (m : Member) (number : ℕ) (o : Option FoundSet) → slice_get found number ≡ o → some_complement o ≡ false → listed_at (map lists_of_found found) m number ≡ found_at found m number
  put_plain m number None is plain = listed m number ∙ (ap (λ o. some_listed (option_map lists_of_found o) m) is ∙ sym (ap (λ o. some_found_in o m) is))
  put_plain m number (Some f) is plain = listed m number ∙ (ap (λ o. some_listed (option_map lists_of_found o) m) is ∙ (sym (from_lists f m false plain) ∙ sym (ap (λ o. some_found_in o m) is)))

  -- or by those of its complement
  put_complement : (m : Member) (number : ℕ) (o : Option FoundSet) → slice_get found number ≡ o → some_complement o ≡ true → negation m (listed_at (map lists_of_found found) m number) ≡ found_at found m number
  put_complement m number None is other = absurd (let e = other in cc)
  put_complement m number (Some f) is other = ap (negation m) (listed m number ∙ ap (λ o. some_listed (option_map lists_of_found o) m) is) ∙ (sym (from_lists f m true other) ∙ sym (ap (λ o. some_found_in o m) is))

  module _ (old : List Step) where
    pushed_with : (m : Member) (step : Step) → puts_complement found step ≡ false → step_over m (listed_at (map lists_of_found found) m) step (steps_over m (listed_at (map lists_of_found found) m) old []) ≡
        step_over m (found_at found m) step (steps_over m (listed_at (map lists_of_found found) m) old [])
    pushed_with m (Push number) plain = ap (λ b. b ∷ steps_over m (listed_at (map lists_of_found found) m) old []) (put_plain m number (slice_get found number) refl plain)
    pushed_with m (Both operation) plain = refl
    pushed_with m Complemented plain = refl
    pushed_with m Clear plain = refl

    -- the step alone was pushed
    pub pushed_plain : (step : Step) (new : List Step) → new ≡ old ++ step ∷ [] → puts_complement found step ≡ false → PushesStep found step old new
    pushed_plain step new is plain m = ap (λ ss. steps_over m (listed_at (map lists_of_found found) m) ss []) is ∙ (steps_over-push m (listed_at (map lists_of_found found) m) old step [] ∙ pushed_with m step plain)

    -- and a complement behind it
    pub pushed_complement : (step : Step) (between new : List Step) → between ≡ old ++ step ∷ [] → new ≡ between ++ Complemented ∷ [] → puts_complement found step ≡ true → PushesStep found step old new
    pushed_complement (Push number) between new is more other m =
        let v = listed_at (map lists_of_found found) m in
        ap (λ ss. steps_over m v ss []) more
        ∙ (steps_over-push m v between Complemented []
        ∙ (ap (λ ss. negated_top m (steps_over m v ss [])) is
        ∙ (ap (negated_top m) (steps_over-push m v old (Push number) []) ∙ ap (λ b. b ∷ steps_over m v old []) (put_complement m number (slice_get found number) refl other))))
    pushed_complement (Both operation) between new is more other m = absurd (let e = other in cc)
    pushed_complement Complemented between new is more other m = absurd (let e = other in cc)
    pushed_complement Clear between new is more other m = absurd (let e = other in cc)

  -- the next step was pushed
  pub pushed_next : (steps : List Step) (i : ℕ) (d : Step) (old new : List Step) → i < length steps → ((m : Member) → steps_over m (listed_at (map lists_of_found found) m) old [] ≡ steps_over m (found_at found m) (take i steps) []) →
      PushesStep found (slice_index_or steps i d) old new → (m : Member) → steps_over m (listed_at (map lists_of_found found) m) new [] ≡ steps_over m (found_at found m) (take (i + 1) steps) []
  pushed_next steps i d old new below h pushes m = pushes m ∙ (ap (step_over m (found_at found m) (slice_index_or steps i d)) (h m) ∙ over_next m (found_at found m) steps i d below)

-- the lists of leaves
leaf_lists : (leaves : List Leaf) (c number : ℕ) → leaf_contains leaves c number ≡ listed_at (map lists_of_leaf leaves) (point c) number
leaf_lists [] c number = refl
leaf_lists (leaf ∷ leaves) c zero = refl
leaf_lists (leaf ∷ leaves) c (suc number) = leaf_lists leaves c number

leaf_strings : (leaves : List Leaf) (bytes : List ℕ) (number : ℕ) → leaf_holds leaves bytes number ≡ listed_at (map lists_of_leaf leaves) (string bytes) number
leaf_strings [] bytes number = refl
leaf_strings (leaf ∷ leaves) bytes zero = refl
leaf_strings (leaf ∷ leaves) bytes (suc number) = leaf_strings leaves bytes number

-- the lists of leaves have no number beyond the code points
lists_within : MembersAreCodePoints → (leaves : List Leaf) → All (λ leaf. IsInversionList (code_points_of leaf)) leaves → (c : ℕ) → is_code_point c ≡ false → (number : ℕ) → listed_at (map lists_of_leaf leaves) (point c) number ≡ false
lists_within law leaves all c is number = ap (λ o. some_listed o (point c)) (slice_get-map lists_of_leaf leaves number) ∙ by (slice_get leaves number) refl
  where
    by : (o : Option Leaf) → slice_get leaves number ≡ o → some_listed (option_map lists_of_leaf o) (point c) ≡ false
    by None e = refl
    by (Some leaf) e =
        let canonical : IsInversionList (code_points_of leaf) = subst (λ x. IsInversionList (code_points_of x)) (get_or_from_slice_get leaves number leaf leaf e) (all number leaf (slice_get_within leaves number leaf e)) in
        sym (law (code_points_of leaf) c canonical) ∙ (ap (λ t. contains (code_points_of leaf) c && t) is ∙ and-false (contains (code_points_of leaf) c))

abbrev flag : Option Bool → Bool
flag None = false
flag (Some b) = b

-- the sets that were found have the members of those that the term puts down
found_as_put : (sets : Sets) (all : List TermSet) (found : List FoundSet) → AreFound sets all found → (m : Member) (number : ℕ) → found_at found m number ≡ has_at sets all m number
found_as_put sets all found h m number =
    of_found (slice_get found number)
    ∙ (ap flag (sym (slice_get-map (λ f. found_in f m) found number) ∙ (ap (λ bs. slice_get bs number) (h m) ∙ slice_get-map (λ s. put_in sets s m) all number))
    ∙ sym (of_put (slice_get all number)))
  where
    of_found : (o : Option FoundSet) → some_found_in o m ≡ flag (option_map (λ f. found_in f m) o)
    of_found None = refl
    of_found (Some f) = refl

    of_put : (o : Option TermSet) → some_put_in sets o m ≡ flag (option_map (λ s. put_in sets s m) o)
    of_put None = refl
    of_put (Some s) = refl

-- one more set was found
pub found_more : (sets : Sets) (all : List TermSet) (found new : List FoundSet) (set : TermSet) (f : FoundSet) → AreFound sets all found → new ≡ found ++ f ∷ [] → ((m : Member) → found_in f m ≡ put_in sets set m) → AreFound sets (all ++ set ∷ []) new
found_more sets all found new set f h more is m =
    ap (map (λ g. found_in g m)) more
    ∙ (map-append (λ g. found_in g m) found (f ∷ []) ∙ ((λ i. h m i ++ is m i ∷ []) ∙ sym (map-append (λ s. put_in sets s m) all (set ∷ []))))

pub both_ok : {A E : Type 0} (result : Result A E) (P Q R : A → Type 0) → ((x : A) → P x → Q x → R x) → IfOk result P → IfOk result Q → IfOk result R
both_ok (Ok x) P Q R f h k = f x h k
both_ok (Err e) P Q R f h k = tt

-- VARIABLES
module _ (s : Syntax) (name : List ℕ) (utf8 : encode_utf8_all (chars name) ≡ name) (m : Member) where
  meant : (v : Option VariableValue) → bound s.variables.now name ≡ v → in_some (bound_set (option_map value_seen v)) m ≡ in_meant (sets_of (language_seen s)) (variable name) m
  meant v is = sym (ap (λ bytes. in_some (bound_set (option_map value_seen (bound s.variables.now bytes))) m) utf8 ∙ ap (λ b. in_some (bound_set (option_map value_seen b)) m) is)

  -- the value has the members of the set that the name stands for
  pub value_meant : (v : Option VariableValue) → bound s.variables.now name ≡ v → some_value_in v m ≡ in_meant (sets_of (language_seen s)) (variable name) m
  value_meant v is = seen v ∙ meant v is
    where
      seen : (v : Option VariableValue) → some_value_in v m ≡ in_some (bound_set (option_map value_seen v)) m
      seen None = refl
      seen (Some (UnicodeSet set)) = refl
      seen (Some (Spelled t)) = refl
      seen (Some (Char c)) = refl

abbrev over : List Leaf → List Step → Member → Bool
over leaves steps m = top (steps_over m (listed_at (map lists_of_leaf leaves) m) steps [])

-- a set that was evaluated at once has the members that the steps make
pub at_once : MembersAreCodePoints → (found : List FoundSet) (leaves : List Leaf) (steps all : List Step) (set : StringSet) →
    ((m : Member) → steps_over m (listed_at (map lists_of_found found) m) all [] ≡ steps_over m (found_at found m) steps []) → map lists_of_leaf leaves ≡ map lists_of_found found →
    All (λ leaf. IsInversionList (code_points_of leaf)) leaves → ((c : ℕ) → contains set.code_points c ≡ (is_code_point c && value_of (leaf_contains leaves c) all)) →
    ((bytes : List ℕ) → holds set.strings bytes ≡ value_of (leaf_holds leaves bytes) (without_complements all)) → (m : Member) → in_set set m ≡ top (steps_over m (found_at found m) steps [])
at_once law found leaves steps all set same lists canonical points strings m = by m ∙ ((λ i. top (steps_over m (listed_at (lists i) m) all [])) ∙ ap top (same m))
  where
    at_point : (c : ℕ) (x : Bool) → is_code_point c ≡ x → (is_code_point c && value_of (leaf_contains leaves c) all) ≡ over leaves all (point c)
    at_point c true is =
        ap (λ t. t && value_of (leaf_contains leaves c) all) is
        ∙ ((λ i. value_of (λ number. leaf_lists leaves c number i) all) ∙ ap top (sym (steps_at c is (listed_at (map lists_of_leaf leaves) (point c)) all [])))
    at_point c false is =
        ap (λ t. t && value_of (leaf_contains leaves c) all) is
        ∙ sym (none_beyond c is (listed_at (map lists_of_leaf leaves) (point c)) (lists_within law leaves canonical c is) all)

    by : (m : Member) → in_set set m ≡ over leaves all m
    by (point c) = points c ∙ at_point c (is_code_point c) refl
    by (string bytes) =
        strings bytes
        ∙ ((λ i. value_of (λ number. leaf_strings leaves bytes number i) (without_complements all)) ∙ ap top (sym (string_steps bytes (listed_at (map lists_of_leaf leaves) (string bytes)) all [])))

-- what the steps make of the sets that were found is the set of the term
pub as_numbered : (sets : Sets) (term : NumberedTerm) (found : List FoundSet) → AreFound sets term.sets.items found → (m : Member) → top (steps_over m (found_at found m) term.steps.items []) ≡ numbered_in sets term m
as_numbered sets term found finds m = λ i. top (steps_over m (λ number. found_as_put sets term.sets.items found finds m number i) term.steps.items [])
