-- The laws of mirroring glyphs.
use Rattle.std.proofs.Common.{◌≡◌, ℕ, ◌+◌, ◌*◌, ◌/◌, ◌%◌, ◌<◌, ◌&&◌, ◌||◌, ◌==◌, Bool, true, false, not, cond, ◌↔◌, ◌⊎◌, Option, Some, None, nat_eq, refl, sym, ap, ap₂, subst, ◌∙◌, inl, inr, arith}
use Rattle.std.specs.Prelude.{unwrap_or, is_some}
use Rattle.std.proofs.lemmas.Bool.Decides.{nat_tests}
use Rattle.std.proofs.lemmas.Bool.{and_parts}
use Rattle.std.proofs.lemmas.Option.{cond_some}
use mathlib.Core.Bool.{beq}
use denote.Enum.Bare.{sameb, same_true, true_same}
use Rattle.cp_trie.specs.Values.{is_scalar_value}
use Rattle.prop_values.specs.contracts.glyph.BidiPairedBracketType.{the_type}
use Rattle.prop_values.specs.declared.glyph.BidiPairedBracketType.TheVariants.{None as NoBracket}
use Rattle.prop_values.specs.NumberedLaws.{is_some_chosen}
use Rattle.prop_values.specs.MirroringGlyph.{glyph_bits, bracket_bits, is_glyph_number}
use Rattle.prop_values.specs.GlyphPacking.{bracket_number, bracket_of, glyph_of, glyph_spelled, unpacked_glyph, packed_glyph}
use Rattle.prop_values.specs.declared.glyph.BidiMirroringGlyph.{BidiMirroringGlyph}
use Rattle.prop_values.specs.declared.glyph.BidiPairedBracketType.{BidiPairedBracketType}

glyph_number : (g : ℕ) (b : Bool) → (g == 0) ≡ b → unwrap_or (cond b None (Some g)) 0 ≡ g
glyph_number g true h = let zero_is : g ≡ 0 = grind (arith, nat_tests) in sym zero_is
glyph_number g false h = refl

bit_number : (m : ℕ) → m < 2 → cond (m == 1) 1 0 ≡ m
bit_number m h = grind (arith, nat_tests)

bracket_number-of : (b : ℕ) → b < 3 → bracket_number (bracket_of b) ≡ b
bracket_number-of b h =
    elim (three b h) as (λ _. bracket_number (bracket_of b) ≡ b) [
      | inl zero_is ↦ ap (λ x. bracket_number (bracket_of x)) zero_is ∙ sym zero_is
      | inr rest ↦ elim rest as (λ _. bracket_number (bracket_of b) ≡ b) [
        | inl one ↦ ap (λ x. bracket_number (bracket_of x)) one ∙ sym one
        | inr two ↦ ap (λ x. bracket_number (bracket_of x)) two ∙ sym two
      ]
    ]
  where
    three : (b : ℕ) → b < 3 → (b ≡ 0) ⊎ ((b ≡ 1) ⊎ (b ≡ 2))
    three b h = grind arith

-- a sum of three parts has them as its bits
glyph_bits-sum : (g m b : ℕ) → g < 2097152 → (g + m * 2097152 + b * 4194304) % 2097152 ≡ g
glyph_bits-sum g m b hg = omega arith

mirrored-sum : (g m b : ℕ) → g < 2097152 → m < 2 → (g + m * 2097152 + b * 4194304) / 2097152 % 2 ≡ m
mirrored-sum g m b hg hm = omega arith

bracket_bits-sum : (g m b : ℕ) → g < 2097152 → m < 2 → b < 4 → (g + m * 2097152 + b * 4194304) / 4194304 % 4 ≡ b
bracket_bits-sum g m b hg hm hb = omega arith

-- the value that bits spell, where they spell one
abbrev by_bits : ℕ → ℕ → ℕ → Option BidiMirroringGlyph
by_bits g m b =
    cond ((g == 0 || is_scalar_value g) && not (b == 3)) (Some (record { mirroring_glyph = glyph_of g; mirrored = m == 1; paired_bracket_type = bracket_of b })) None

by_bits_alike : (g g' m m' b b' : ℕ) → g ≡ g' → m ≡ m' → b ≡ b' → by_bits g m b ≡ by_bits g' m' b'
by_bits_alike g g' m m' b b' x y z =
    ap (λ k. by_bits k m b) x ∙ (ap (λ k. by_bits g' k b) y ∙ ap (λ k. by_bits g' m' k) z)

sum_alike : (g g' m m' b b' : ℕ) → g ≡ g' → m ≡ m' → b ≡ b' →
    g + m * 2097152 + b * 4194304 ≡ g' + m' * 2097152 + b' * 4194304
sum_alike g g' m m' b b' x y z = omega arith

no_fourth_bracket : (a : Bool) (b : ℕ) → (a && not (b == 3)) ≡ true → b < 4 → b < 3
no_fourth_bracket a b h bound = grind (arith, nat_tests)

-- the packing of a value that a number unpacks to unpacks to that value
pub unpacked_glyph-again : (n : ℕ) (v : BidiMirroringGlyph) → unpacked_glyph n ≡ Some v →
    unpacked_glyph (packed_glyph v) ≡ Some v
unpacked_glyph-again n v h =
    let spelled = cond_some (is_glyph_number n) (glyph_spelled n) v h in
    let g = glyph_bits n in
    let m = n / 2097152 % 2 in
    let b = bracket_bits n in
    let small_g : g < 2097152 = omega arith in
    let small_m : m < 2 = omega arith in
    let four : b < 4 = omega arith in
    let small_b : b < 3 = no_fourth_bracket (g == 0 || is_scalar_value g) b spelled.0 four in
    let packed_is : packed_glyph (glyph_spelled n) ≡ g + m * 2097152 + b * 4194304 = sum_alike _ g _ m _ b (glyph_number g (g == 0) refl) (bit_number m small_m) (bracket_number-of b small_b) in
    let bits_stay : unpacked_glyph (g + m * 2097152 + b * 4194304) ≡ unpacked_glyph n = by_bits_alike _ g _ m _ b (glyph_bits-sum g m b small_g) (mirrored-sum g m b small_g small_m) (bracket_bits-sum g m b small_g small_m four) in
    ap unpacked_glyph (ap packed_glyph (sym spelled.1) ∙ packed_is) ∙ (bits_stay ∙ h)

-- what `==` tells of two optional glyphs
abbrev glyphs_eq : Option ℕ → Option ℕ → Bool
glyphs_eq None None = true
glyphs_eq None (Some y) = false
glyphs_eq (Some x) None = false
glyphs_eq (Some x) (Some y) = nat_eq x y

same_options : (o p : Option ℕ) → glyphs_eq o p ≡ true → o ≡ p
same_options None None h = refl
same_options None (Some y) h = cc
same_options (Some x) None h = cc
same_options (Some x) (Some y) h = let same : x ≡ y = grind (arith, nat_tests) in ap Some same

options_reflexive : (o : Option ℕ) → glyphs_eq o o ≡ true
options_reflexive None = refl
options_reflexive (Some x) = grind (arith, nat_tests)

same_flags : (a b : Bool) → beq a b ≡ true → a ≡ b
same_flags true true h = refl
same_flags true false h = cc
same_flags false true h = cc
same_flags false false h = refl

flags_reflexive : (a : Bool) → beq a a ≡ true
flags_reflexive true = refl
flags_reflexive false = refl

-- what `==` tells of two values
abbrev values_eq : BidiMirroringGlyph → BidiMirroringGlyph → Bool
values_eq x y =
    glyphs_eq x.mirroring_glyph y.mirroring_glyph && (beq x.mirrored y.mirrored && sameb the_type x.paired_bracket_type y.paired_bracket_type)

same_values : (x y : BidiMirroringGlyph) → values_eq x y ≡ true → x ≡ y
same_values x y h =
    let first = and_parts (glyphs_eq x.mirroring_glyph y.mirroring_glyph) _ h in
    let second = and_parts (beq x.mirrored y.mirrored) _ first.1 in
    let make : Option ℕ → Bool → BidiPairedBracketType → BidiMirroringGlyph = λ g m b. record { mirroring_glyph = g; mirrored = m; paired_bracket_type = b } in
    ap₂ (λ g m. make g m x.paired_bracket_type) (same_options x.mirroring_glyph y.mirroring_glyph first.0) (same_flags x.mirrored y.mirrored second.0)
    ∙ ap (λ b. make y.mirroring_glyph y.mirrored b) (same_true the_type tt x.paired_bracket_type y.paired_bracket_type second.1)

values_reflexive : (x : BidiMirroringGlyph) → values_eq x x ≡ true
values_reflexive x =
    ap₂ (λ a b. a && b) (options_reflexive x.mirroring_glyph) (ap₂ (λ a b. a && b) (flags_reflexive x.mirrored) (true_same the_type x.paired_bracket_type x.paired_bracket_type refl))

pub same_glyph : (x y : BidiMirroringGlyph) → (values_eq x y ≡ true) ↔ (x ≡ y)
same_glyph x y =
    (same_values x y, λ e. let P : BidiMirroringGlyph → Type 0 = λ z. values_eq x z ≡ true in subst P e (values_reflexive x))

-- the numbers that unpack are those whose bits spell a value
pub unpacked_glyph-accepted : (n : ℕ) → is_some (unpacked_glyph n) ≡ is_glyph_number n
unpacked_glyph-accepted n = is_some_chosen (is_glyph_number n) (glyph_spelled n)

-- no glyph, not mirrored, no bracket
abbrev pub no_glyph : BidiMirroringGlyph
no_glyph = record { mirroring_glyph = None; mirrored = false; paired_bracket_type = NoBracket }

pub no_glyph-packed : (v : BidiMirroringGlyph) → v ≡ no_glyph → packed_glyph v ≡ 0
no_glyph-packed v h = ap packed_glyph h
