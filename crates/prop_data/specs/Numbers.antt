-- Numbers and ranges of code points as they are spelled.
use Rattle.std.specs.Prelude.{ℕ, ◌+◌, Bool, ◌==◌, List, take, drop, Option, Some, None, option_map}
use Rattle.std.specs.List.{position}
unfoldable pub use Rattle.text_lines.specs.Numbers.{spelled}
pub use Rattle.text_lines.specs.Numbers.{hex, decimal_number}

abbrev pub is_hyphen : ℕ → Bool
is_hyphen c = c == 0x2D

-- what stands before the first hyphen and behind it
unfoldable pub hyphen_parts : List ℕ → Option (List ℕ × List ℕ)
hyphen_parts field = option_map (λ i. (take i field, drop (i + 1) field)) (position is_hyphen field)

abbrev pub both : Option ℕ → Option ℕ → Option (ℕ × ℕ)
both (Some start) (Some end) = Some (start, end)
both (Some start) None = None
both None end = None

abbrev pub range_of_parts : List ℕ → Option (List ℕ × List ℕ) → Option (ℕ × ℕ)
range_of_parts field None = both (hex field) (hex field)
range_of_parts field (Some parts) = both (hex parts.0) (hex parts.1)

-- two numbers with a hyphen between them, or one that stands for both ends
unfoldable pub range : List ℕ → Option (ℕ × ℕ)
range field = range_of_parts field (hyphen_parts field)
