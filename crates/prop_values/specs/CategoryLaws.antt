-- The laws of the numbers of the general categories.
use Rattle.std.proofs.Common.{◌≡◌, ℕ, zero, suc, true, false, ◌↔◌, Some, List, [], ◌∷◌, length, nat_lt, refl, sym, ap, ◌∙◌, arith}
use Rattle.std.specs.Prelude.{is_some, slice_get}
use Rattle.std.proofs.lemmas.Bool.Decides.{nat_tests}
use denote.Enum.Bare.{sameb, same_true, true_same}
use Rattle.prop_values.specs.contracts.category.GeneralCategory.{the_type}
use Rattle.prop_values.specs.Category.{category_of, number_of, categories}
use Rattle.prop_values.specs.declared.category.GeneralCategory.{GeneralCategory}
use Rattle.prop_values.specs.declared.category.GeneralCategory.TheVariants.{Unassigned, UppercaseLetter, LowercaseLetter, TitlecaseLetter, ModifierLetter, OtherLetter, NonspacingMark, EnclosingMark, SpacingMark, DecimalNumber, LetterNumber, OtherNumber, SpaceSeparator, LineSeparator, ParagraphSeparator, Control, Format, PrivateUse, Surrogate, DashPunctuation, OpenPunctuation, ClosePunctuation, ConnectorPunctuation, OtherPunctuation, MathSymbol, CurrencySymbol, ModifierSymbol, OtherSymbol, InitialPunctuation, FinalPunctuation}

-- the number of a category is that of this category
pub category_of-number_of : (c : GeneralCategory) → category_of (number_of c) ≡ Some c
category_of-number_of Unassigned = refl
category_of-number_of UppercaseLetter = refl
category_of-number_of LowercaseLetter = refl
category_of-number_of TitlecaseLetter = refl
category_of-number_of ModifierLetter = refl
category_of-number_of OtherLetter = refl
category_of-number_of NonspacingMark = refl
category_of-number_of EnclosingMark = refl
category_of-number_of SpacingMark = refl
category_of-number_of DecimalNumber = refl
category_of-number_of LetterNumber = refl
category_of-number_of OtherNumber = refl
category_of-number_of SpaceSeparator = refl
category_of-number_of LineSeparator = refl
category_of-number_of ParagraphSeparator = refl
category_of-number_of Control = refl
category_of-number_of Format = refl
category_of-number_of PrivateUse = refl
category_of-number_of Surrogate = refl
category_of-number_of DashPunctuation = refl
category_of-number_of OpenPunctuation = refl
category_of-number_of ClosePunctuation = refl
category_of-number_of ConnectorPunctuation = refl
category_of-number_of OtherPunctuation = refl
category_of-number_of MathSymbol = refl
category_of-number_of CurrencySymbol = refl
category_of-number_of ModifierSymbol = refl
category_of-number_of OtherSymbol = refl
category_of-number_of InitialPunctuation = refl
category_of-number_of FinalPunctuation = refl

pub category_of-again : (n : ℕ) (c : GeneralCategory) → category_of n ≡ Some c → category_of (number_of c) ≡ Some c
category_of-again n c h = category_of-number_of c

pub default_number_of : (c : GeneralCategory) → c ≡ Unassigned → number_of c ≡ 0
default_number_of c h = ap number_of h

is_some-slice_get : {X : Type 0} (xs : List X) (n : ℕ) → is_some (slice_get xs n) ≡ nat_lt n (length xs)
is_some-slice_get [] n = let past : nat_lt n 0 ≡ false = grind (arith, nat_tests) in sym past
is_some-slice_get (x ∷ xs) zero = let first : nat_lt 0 (length (x ∷ xs)) ≡ true = grind (arith, nat_tests) in sym first
is_some-slice_get (x ∷ xs) (suc n) =
    let same : nat_lt n (length xs) ≡ nat_lt (suc n) (length (x ∷ xs)) = grind (arith, nat_tests) in is_some-slice_get xs n ∙ same

pub category_of-accepted : (n : ℕ) → is_some (category_of n) ≡ nat_lt n 30
category_of-accepted n = is_some-slice_get categories n

pub same_category : (c d : GeneralCategory) → (sameb the_type c d ≡ true) ↔ (c ≡ d)
same_category c d = (same_true the_type tt c d, true_same the_type c d)
