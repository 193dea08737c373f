-- The packing of a mirroring glyph (UAX 9, section 3.1.3, of paired brackets; UAX 44, Bidi_Mirroring_Glyph): bits 0 to 20 are
-- the glyph, 0 for none, bit 21 tells whether the character is mirrored, and bits 22 and 23 are the type of the paired bracket.
use Rattle.std.specs.Prelude.{ℕ, ◌/◌, ◌%◌, Bool, not, ◌||◌, ◌&&◌, ◌==◌}
use Rattle.cp_trie.specs.Values.{is_scalar_value}

abbrev pub glyph_bits : ℕ → ℕ
glyph_bits n = n % 2097152

abbrev pub bracket_bits : ℕ → ℕ
bracket_bits n = n / 4194304 % 4

-- the number unpacks to a glyph: its glyph bits are 0 or a character, and its bracket bits are no 3
abbrev pub is_glyph_number : ℕ → Bool
is_glyph_number n = (glyph_bits n == 0 || is_scalar_value (glyph_bits n)) && not (bracket_bits n == 3)
