-- Groups of general categories (UAX 44, section 5.7.1): as a number a group has the bit of each of its categories.
use Rattle.std.specs.Prelude.{◌≡◌, ℕ, ◌+◌, ◌^◌, ◌<◌, Bool, ◌==◌, nat_lt, Option, Some, None, List, [], ◌∷◌, codes, if◌then◌else◌}
use Rattle.std.specs.Int.{bit_at}
use Rattle.prop_values.specs.Category.{number_of}
use Rattle.prop_values.specs.declared.category.GeneralCategory.{GeneralCategory}
use Rattle.prop_values.specs.declared.category.GeneralCategory.TheVariants.{Unassigned, UppercaseLetter, LowercaseLetter, TitlecaseLetter, ModifierLetter, OtherLetter, NonspacingMark, EnclosingMark, SpacingMark, DecimalNumber, LetterNumber, OtherNumber, SpaceSeparator, LineSeparator, ParagraphSeparator, Control, Format, PrivateUse, Surrogate, DashPunctuation, OpenPunctuation, ClosePunctuation, ConnectorPunctuation, OtherPunctuation, MathSymbol, CurrencySymbol, ModifierSymbol, OtherSymbol, InitialPunctuation, FinalPunctuation}

-- the group of these bits has the category
abbrev pub has : ℕ → GeneralCategory → Bool
has bits c = bit_at bits (number_of c) == 1

-- the number of the group of these different categories
abbrev pub bits_of : List GeneralCategory → ℕ
bits_of [] = 0
bits_of (c ∷ cs) = 2 ^ number_of c + bits_of cs

abbrev pub cased_letter : ℕ
cased_letter = bits_of (UppercaseLetter ∷ LowercaseLetter ∷ TitlecaseLetter ∷ [])

abbrev pub letter : ℕ
letter = bits_of (UppercaseLetter ∷ LowercaseLetter ∷ TitlecaseLetter ∷ ModifierLetter ∷ OtherLetter ∷ [])

abbrev pub mark : ℕ
mark = bits_of (NonspacingMark ∷ EnclosingMark ∷ SpacingMark ∷ [])

abbrev pub number : ℕ
number = bits_of (DecimalNumber ∷ LetterNumber ∷ OtherNumber ∷ [])

abbrev pub separator : ℕ
separator = bits_of (SpaceSeparator ∷ LineSeparator ∷ ParagraphSeparator ∷ [])

abbrev pub other : ℕ
other = bits_of (Control ∷ Format ∷ PrivateUse ∷ Surrogate ∷ Unassigned ∷ [])

abbrev pub punctuation : ℕ
punctuation = bits_of (DashPunctuation ∷ OpenPunctuation ∷ ClosePunctuation ∷ ConnectorPunctuation ∷ OtherPunctuation
    ∷ InitialPunctuation ∷ FinalPunctuation ∷ [])

abbrev pub symbol : ℕ
symbol = bits_of (MathSymbol ∷ CurrencySymbol ∷ ModifierSymbol ∷ OtherSymbol ∷ [])

-- The groups that have a number of their own, each behind that number: the groups of one category and the eight unions.
abbrev pub packings : List (ℕ × ℕ)
packings =
    (0, bits_of (Unassigned ∷ []))
    ∷ (1, bits_of (UppercaseLetter ∷ []))
    ∷ (2, bits_of (LowercaseLetter ∷ []))
    ∷ (3, bits_of (TitlecaseLetter ∷ []))
    ∷ (4, bits_of (ModifierLetter ∷ []))
    ∷ (5, bits_of (OtherLetter ∷ []))
    ∷ (6, bits_of (NonspacingMark ∷ []))
    ∷ (7, bits_of (EnclosingMark ∷ []))
    ∷ (8, bits_of (SpacingMark ∷ []))
    ∷ (9, bits_of (DecimalNumber ∷ []))
    ∷ (10, bits_of (LetterNumber ∷ []))
    ∷ (11, bits_of (OtherNumber ∷ []))
    ∷ (12, bits_of (SpaceSeparator ∷ []))
    ∷ (13, bits_of (LineSeparator ∷ []))
    ∷ (14, bits_of (ParagraphSeparator ∷ []))
    ∷ (15, bits_of (Control ∷ []))
    ∷ (16, bits_of (Format ∷ []))
    ∷ (17, bits_of (PrivateUse ∷ []))
    ∷ (18, bits_of (Surrogate ∷ []))
    ∷ (19, bits_of (DashPunctuation ∷ []))
    ∷ (20, bits_of (OpenPunctuation ∷ []))
    ∷ (21, bits_of (ClosePunctuation ∷ []))
    ∷ (22, bits_of (ConnectorPunctuation ∷ []))
    ∷ (23, bits_of (OtherPunctuation ∷ []))
    ∷ (24, bits_of (MathSymbol ∷ []))
    ∷ (25, bits_of (CurrencySymbol ∷ []))
    ∷ (26, bits_of (ModifierSymbol ∷ []))
    ∷ (27, bits_of (OtherSymbol ∷ []))
    ∷ (28, bits_of (InitialPunctuation ∷ []))
    ∷ (29, bits_of (FinalPunctuation ∷ []))
    ∷ (0xFFFF, cased_letter)
    ∷ (0xFFFE, letter)
    ∷ (0xFFFD, mark)
    ∷ (0xFFFC, number)
    ∷ (0xFFFB, separator)
    ∷ (0xFFFA, other)
    ∷ (0xFFF9, punctuation)
    ∷ (0xFFF8, symbol)
    ∷ []

-- the number of a group in such a list; all other groups share one
abbrev pub number_in : List (ℕ × ℕ) → ℕ → ℕ
number_in [] bits = 0xFF00
number_in (row ∷ rows) bits = if row.1 == bits then row.0 else number_in rows bits

-- the group of a number in such a list; all other numbers stand for the empty group
abbrev pub bits_in : List (ℕ × ℕ) → ℕ → ℕ
bits_in [] n = 0
bits_in (row ∷ rows) n = if row.0 == n then row.1 else bits_in rows n

abbrev pub packed_group : ℕ → ℕ
packed_group bits = number_in packings bits

abbrev pub unpacked_group : ℕ → Option ℕ
unpacked_group n = if nat_lt n 65536 then Some (bits_in packings n) else None

-- the short names (UAX 44, section 5.7.1) with their groups
abbrev pub named_groups : List (List ℕ × ℕ)
named_groups =
    (codes "Lu", bits_of (UppercaseLetter ∷ []))
    ∷ (codes "Ll", bits_of (LowercaseLetter ∷ []))
    ∷ (codes "Lt", bits_of (TitlecaseLetter ∷ []))
    ∷ (codes "Lm", bits_of (ModifierLetter ∷ []))
    ∷ (codes "Lo", bits_of (OtherLetter ∷ []))
    ∷ (codes "LC", cased_letter)
    ∷ (codes "L", letter)
    ∷ (codes "Mn", bits_of (NonspacingMark ∷ []))
    ∷ (codes "Me", bits_of (EnclosingMark ∷ []))
    ∷ (codes "Mc", bits_of (SpacingMark ∷ []))
    ∷ (codes "M", mark)
    ∷ (codes "Nd", bits_of (DecimalNumber ∷ []))
    ∷ (codes "Nl", bits_of (LetterNumber ∷ []))
    ∷ (codes "No", bits_of (OtherNumber ∷ []))
    ∷ (codes "N", number)
    ∷ (codes "Zs", bits_of (SpaceSeparator ∷ []))
    ∷ (codes "Zl", bits_of (LineSeparator ∷ []))
    ∷ (codes "Zp", bits_of (ParagraphSeparator ∷ []))
    ∷ (codes "Z", separator)
    ∷ (codes "Cc", bits_of (Control ∷ []))
    ∷ (codes "Cf", bits_of (Format ∷ []))
    ∷ (codes "Co", bits_of (PrivateUse ∷ []))
    ∷ (codes "Cs", bits_of (Surrogate ∷ []))
    ∷ (codes "Cn", bits_of (Unassigned ∷ []))
    ∷ (codes "C", other)
    ∷ (codes "Pd", bits_of (DashPunctuation ∷ []))
    ∷ (codes "Ps", bits_of (OpenPunctuation ∷ []))
    ∷ (codes "Pe", bits_of (ClosePunctuation ∷ []))
    ∷ (codes "Pc", bits_of (ConnectorPunctuation ∷ []))
    ∷ (codes "Pi", bits_of (InitialPunctuation ∷ []))
    ∷ (codes "Pf", bits_of (FinalPunctuation ∷ []))
    ∷ (codes "Po", bits_of (OtherPunctuation ∷ []))
    ∷ (codes "P", punctuation)
    ∷ (codes "Sm", bits_of (MathSymbol ∷ []))
    ∷ (codes "Sc", bits_of (CurrencySymbol ∷ []))
    ∷ (codes "Sk", bits_of (ModifierSymbol ∷ []))
    ∷ (codes "So", bits_of (OtherSymbol ∷ []))
    ∷ (codes "S", symbol)
    ∷ []

-- Two groups with the same categories are the same.
abbrev pub SameMembers : Type 0
SameMembers = (a b : ℕ) → a < 2 ^ 30 → b < 2 ^ 30 → ((c : GeneralCategory) → has a c ≡ has b c) → a ≡ b
