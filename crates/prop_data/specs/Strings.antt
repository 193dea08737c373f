-- Strings as they are spelled: numbers with `_` between them, in braces.
use Rattle.std.specs.Prelude.{ℕ, Bool, false, ◌&&◌, ◌==◌, nat_le, List, [], ◌∷◌, Option, Some, None, option_map, option_and_then, encode_utf8_all, if◌then◌else◌}
use Rattle.std.specs.List.{list_any, slice_split}
use Rattle.std.specs.Str.{bytes_eq, all_scalars}
use Rattle.prop_names.specs.Folding.{is_underscore}
use Rattle.prop_data.specs.Numbers.{hex, range}

-- what stands before the `}` at the end
abbrev pub before_brace : List ℕ → Option (List ℕ)
before_brace [] = None
before_brace (c ∷ []) = if c == 0x7D then Some [] else None
before_brace (c ∷ d ∷ rest) = option_map (λ front. c ∷ front) (before_brace (d ∷ rest))

-- what stands between a `{` at the front and a `}` at the end
unfoldable pub braced : List ℕ → Option (List ℕ)
braced [] = None
braced (c ∷ rest) = if c == 0x7B then before_brace rest else None

-- the numbers of the parts
abbrev pub numbers_of : List (List ℕ) → Option (List ℕ)
numbers_of [] = Some []
numbers_of (part ∷ parts) = option_and_then (λ n. option_map (λ ns. n ∷ ns) (numbers_of parts)) (hex part)

-- nothing, or one or more numbers with `_` between them
unfoldable pub spelled_numbers : List ℕ → Option (List ℕ)
spelled_numbers [] = Some []
spelled_numbers (c ∷ cs) = numbers_of (slice_split is_underscore (c ∷ cs))

abbrev pub is_surrogate : ℕ → Bool
is_surrogate n = nat_le 0xD800 n && nat_le n 0xDFFF

abbrev pub without_surrogates : List ℕ → Option (List ℕ)
without_surrogates ns = if list_any is_surrogate ns then None else Some ns

-- the numbers between braces, none of them a surrogate
abbrev pub string_numbers : List ℕ → Option (List ℕ)
string_numbers inner = option_and_then without_surrogates (spelled_numbers inner)

-- the bytes of the characters with these numbers
unfoldable pub text_of_numbers : List ℕ → List ℕ
text_of_numbers ns = encode_utf8_all ns

-- the text that a field spells as a string, by its bytes
abbrev pub string_in : List ℕ → Option (List ℕ)
string_in field = option_map text_of_numbers (option_and_then string_numbers (braced field))

abbrev pub is_text : Option (List ℕ) → List ℕ → Bool
is_text None bytes = false
is_text (Some text) bytes = bytes_eq text bytes

abbrev pub range_unless : Option (List ℕ) → List ℕ → Option (ℕ × ℕ)
range_unless None field = range field
range_unless (Some inner) field = None

-- the range that a field spells where it is no string
abbrev pub range_in : List ℕ → Option (ℕ × ℕ)
range_in field = range_unless (braced field) field

-- the text of numbers that are all characters'
abbrev pub text_spelled : List ℕ → Option (List ℕ)
text_spelled ns = if all_scalars ns then Some (text_of_numbers ns) else None
