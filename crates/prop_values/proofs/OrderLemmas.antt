-- The order of general categories as the code compares them, by their discriminants.
use Rattle.std.proofs.Common.{◌≡◌, ℕ, List, map, refl, ap₂, ◌∙◌, int_cmp, nat_cmp, rules}
use lib.ListN.{get_or}
use lib.IntN.{ℤ, pos}
use denote.Enum.Declared.{tag_of}
use Rattle.prop_values.specs.contracts.category.GeneralCategory.{the_type}
use Rattle.prop_values.specs.Category.{number_of}
use Rattle.std.specs.List.{range_with_len}
use Rattle.prop_values.specs.declared.category.GeneralCategory.{GeneralCategory}
use Rattle.prop_values.specs.declared.category.GeneralCategory.TheVariants.{Unassigned, UppercaseLetter, LowercaseLetter, TitlecaseLetter, ModifierLetter, OtherLetter, NonspacingMark, EnclosingMark, SpacingMark, DecimalNumber, LetterNumber, OtherNumber, SpaceSeparator, LineSeparator, ParagraphSeparator, Control, Format, PrivateUse, Surrogate, DashPunctuation, OpenPunctuation, ClosePunctuation, ConnectorPunctuation, OtherPunctuation, MathSymbol, CurrencySymbol, ModifierSymbol, OtherSymbol, InitialPunctuation, FinalPunctuation}

abbrev discriminants : List ℤ
discriminants = map pos (range_with_len 0 30)

-- one computation for each category, so that no search looks at pairs of them
discriminant-number_of : (c : GeneralCategory) → get_or discriminants (tag_of the_type c) (pos 0) ≡ pos (number_of c)
discriminant-number_of Unassigned = refl
discriminant-number_of UppercaseLetter = refl
discriminant-number_of LowercaseLetter = refl
discriminant-number_of TitlecaseLetter = refl
discriminant-number_of ModifierLetter = refl
discriminant-number_of OtherLetter = refl
discriminant-number_of NonspacingMark = refl
discriminant-number_of EnclosingMark = refl
discriminant-number_of SpacingMark = refl
discriminant-number_of DecimalNumber = refl
discriminant-number_of LetterNumber = refl
discriminant-number_of OtherNumber = refl
discriminant-number_of SpaceSeparator = refl
discriminant-number_of LineSeparator = refl
discriminant-number_of ParagraphSeparator = refl
discriminant-number_of Control = refl
discriminant-number_of Format = refl
discriminant-number_of PrivateUse = refl
discriminant-number_of Surrogate = refl
discriminant-number_of DashPunctuation = refl
discriminant-number_of OpenPunctuation = refl
discriminant-number_of ClosePunctuation = refl
discriminant-number_of ConnectorPunctuation = refl
discriminant-number_of OtherPunctuation = refl
discriminant-number_of MathSymbol = refl
discriminant-number_of CurrencySymbol = refl
discriminant-number_of ModifierSymbol = refl
discriminant-number_of OtherSymbol = refl
discriminant-number_of InitialPunctuation = refl
discriminant-number_of FinalPunctuation = refl

of_naturals : (m n : ℕ) → int_cmp (pos m) (pos n) ≡ nat_cmp m n
of_naturals m n = search rules

-- categories that are compared by their discriminants are compared by their numbers
pub compared_by_number : (c d : GeneralCategory) →
    int_cmp (get_or discriminants (tag_of the_type c) (pos 0)) (get_or discriminants (tag_of the_type d) (pos 0)) ≡ nat_cmp (number_of c) (number_of d)
compared_by_number c d = ap₂ int_cmp (discriminant-number_of c) (discriminant-number_of d) ∙ of_naturals (number_of c) (number_of d)
