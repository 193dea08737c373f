-- The pattern that a number tells is a bracket of brackets, so that it is ASCII and is read.
use Rattle.std.proofs.Common.{◌≡◌, ℕ, zero, suc, ◌+◌, ◌-◌, ◌/◌, ◌%◌, ◌^◌, ◌<◌, List, [], ◌∷◌, ◌++◌, sym, ap, ap₂, ◌∙◌, subst, refl, arith, codes, append_assoc}
use Rattle.std.specs.Prelude.{All}
use Rattle.std.specs.List.{flat_map}
use Rattle.std.specs.Str.{IsAscii, chars}
use Rattle.std.proofs.lemmas.List.Elements.{All-nil, All-cons}
use Rattle.cp_invlist.specs.declared.ranges.CodePointRange.{CodePointRange}
use Rattle.uset_grammar.specs.Grammar.{Reads}
use Rattle.uset_parse.specs.Brackets.{bracket_text, brackets_text, BracketsAreAscii, BracketsAreReadUnder}
use Rattle.uset_parse.specs.ReadBack.{IsRange}
use Rattle.uset_variables.specs.Variables.{no_variables}
use Rattle.uset_tool.specs.Generated.{next, first_point, last_point, element, elements, pattern_of}
use Rattle.uset_tool.specs.Laws.{GeneratedPatternsAreRead}

-- the ranges of so many elements from a place on
abbrev ranges : ℕ → ℕ → ℕ → List CodePointRange
ranges zero i x = []
ranges (suc count) i x = record { start = first_point (next x); end = last_point (next x) i } ∷ ranges count (i + 1) (next x)

are_ranges : (count i x : ℕ) → All IsRange (ranges count i x)
are_ranges zero i x = All-nil IsRange
are_ranges (suc count) i x = All-cons IsRange _ (ranges count (i + 1) (next x)) (is_range (next x / 16) i) (are_ranges count (i + 1) (next x))
  where
    is_range : (y i : ℕ) → IsRange (record { start = y % 2 ^ 20; end = y % 2 ^ 20 + i % 8 })
    is_range y i =
        let below : y % 0x10_0000 < 0x10_0000 = omega arith in
        let few : i % 8 < 8 = omega arith in
        record { order = omega arith; code_points = omega (arith, below, few) }

elements_are : (count i x : ℕ) → elements count i x ≡ flat_map bracket_text (ranges count i x)
elements_are zero i x = refl
elements_are (suc count) i x = ap (λ t. element (next x) i ++ t) (elements_are count (i + 1) (next x))

-- the next of the elements that are left of n
elements_next : (n i x : ℕ) → i < n → elements (n - i) i x ≡ element (next x) i ++ elements (n - (i + 1)) (i + 1) (next x)
elements_next n i x h = let left : n - i ≡ suc (n - (i + 1)) = omega arith in ap (λ k. elements k i x) left

-- one more element is written of those that make the whole
pub one_written : (text new all : List ℕ) (n i x y : ℕ) → i < n → text ++ elements (n - i) i x ≡ all → y ≡ next x → new ≡ text ++ element y i → new ++ elements (n - (i + 1)) (i + 1) y ≡ all
one_written text new all n i x y h whole follows is =
    ap₂ (λ t z. t ++ elements (n - (i + 1)) (i + 1) z) (is ∙ ap (λ z. text ++ element z i) follows) follows
    ∙ append_assoc text (element (next x) i) (elements (n - (i + 1)) (i + 1) (next x))
    ∙ ap (λ t. text ++ t) (sym (elements_next n i x h)) ∙ whole

pattern_is : (n : ℕ) → brackets_text (ranges n 0 n) ≡ pattern_of n
pattern_is n = ap (λ t. codes "[" ++ (t ++ codes "]")) (sym (elements_are n 0 n))

pub pattern_is_ascii : BracketsAreAscii → (n : ℕ) → IsAscii (pattern_of n)
pattern_is_ascii ascii n = subst IsAscii (pattern_is n) (ascii (ranges n 0 n) (are_ranges n 0 n))

pub generated_law : BracketsAreReadUnder → GeneratedPatternsAreRead
generated_law read = λ n tables allowed l there rest.
    let back = read tables allowed no_variables l there (ranges n 0 n) (are_ranges n 0 n) rest in
    (back.tree, subst (λ p. Reads l (chars p ++ rest) back.tree rest) (pattern_is n) back.reads)
