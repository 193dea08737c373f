-- The general categories (UAX 44, section 5.7.1) and their numbers.
use Rattle.std.specs.Prelude.{◌≡◌, ℕ, Option, Some, None, Result, MatchResult, List, [], ◌∷◌, slice_get}
use Rattle.prop_values.specs.declared.category.GeneralCategory.{GeneralCategory}
use Rattle.prop_values.specs.declared.category.GeneralCategory.TheVariants.{Unassigned, UppercaseLetter, LowercaseLetter, TitlecaseLetter, ModifierLetter, OtherLetter, NonspacingMark, EnclosingMark, SpacingMark, DecimalNumber, LetterNumber, OtherNumber, SpaceSeparator, LineSeparator, ParagraphSeparator, Control, Format, PrivateUse, Surrogate, DashPunctuation, OpenPunctuation, ClosePunctuation, ConnectorPunctuation, OtherPunctuation, MathSymbol, CurrencySymbol, ModifierSymbol, OtherSymbol, InitialPunctuation, FinalPunctuation}

-- the categories in the order of their numbers
abbrev pub categories : List GeneralCategory
categories =
    Unassigned
    ∷ UppercaseLetter
    ∷ LowercaseLetter
    ∷ TitlecaseLetter
    ∷ ModifierLetter
    ∷ OtherLetter
    ∷ NonspacingMark
    ∷ EnclosingMark
    ∷ SpacingMark
    ∷ DecimalNumber
    ∷ LetterNumber
    ∷ OtherNumber
    ∷ SpaceSeparator
    ∷ LineSeparator
    ∷ ParagraphSeparator
    ∷ Control
    ∷ Format
    ∷ PrivateUse
    ∷ Surrogate
    ∷ DashPunctuation
    ∷ OpenPunctuation
    ∷ ClosePunctuation
    ∷ ConnectorPunctuation
    ∷ OtherPunctuation
    ∷ MathSymbol
    ∷ CurrencySymbol
    ∷ ModifierSymbol
    ∷ OtherSymbol
    ∷ InitialPunctuation
    ∷ FinalPunctuation
    ∷ []

-- the category of a number
abbrev pub category_of : ℕ → Option GeneralCategory
category_of n = slice_get categories n

-- the number of a category
abbrev pub number_of : GeneralCategory → ℕ
number_of Unassigned = 0
number_of UppercaseLetter = 1
number_of LowercaseLetter = 2
number_of TitlecaseLetter = 3
number_of ModifierLetter = 4
number_of OtherLetter = 5
number_of NonspacingMark = 6
number_of EnclosingMark = 7
number_of SpacingMark = 8
number_of DecimalNumber = 9
number_of LetterNumber = 10
number_of OtherNumber = 11
number_of SpaceSeparator = 12
number_of LineSeparator = 13
number_of ParagraphSeparator = 14
number_of Control = 15
number_of Format = 16
number_of PrivateUse = 17
number_of Surrogate = 18
number_of DashPunctuation = 19
number_of OpenPunctuation = 20
number_of ClosePunctuation = 21
number_of ConnectorPunctuation = 22
number_of OtherPunctuation = 23
number_of MathSymbol = 24
number_of CurrencySymbol = 25
number_of ModifierSymbol = 26
number_of OtherSymbol = 27
number_of InitialPunctuation = 28
number_of FinalPunctuation = 29

-- the category of the number, and an error exactly where the number is that of none
abbrev pub AnswersCategory : {E : Type 0} → ℕ → Result GeneralCategory E → Type 0
AnswersCategory n result = MatchResult result (λ category. category_of n ≡ Some category) (λ _. category_of n ≡ None)
