-- Names that are subtags of scripts.
use Rattle.std.specs.Prelude.{◌≡◌, ℕ, List, Some}
use Rattle.prop_names.specs.ByNumber.{text_at}
use Rattle.prop_names.specs.ValueNames.{subtag_of}
use Rattle.prop_names.specs.declared.by_number.NamesByNumber.{NamesByNumber}

-- each name is a subtag, as it is spelled
abbrev pub AreSubtags : NamesByNumber → Type 0
AreSubtags names = (n : ℕ) (text : List ℕ) → text_at names.names n ≡ Some text → subtag_of text ≡ Some text
