-- Mirroring glyphs as values, and the numbers that they pack to.
use Rattle.std.specs.Prelude.{ℕ, ◌+◌, ◌*◌, ◌/◌, ◌%◌, ◌==◌, Option, Some, None, unwrap_or, if◌then◌else◌}
use Rattle.prop_values.specs.MirroringGlyph.{glyph_bits, bracket_bits, is_glyph_number}
use Rattle.prop_values.specs.declared.glyph.BidiMirroringGlyph.{BidiMirroringGlyph}
use Rattle.prop_values.specs.declared.glyph.BidiPairedBracketType.{BidiPairedBracketType}
use Rattle.prop_values.specs.declared.glyph.BidiPairedBracketType.TheVariants.{Open, Close, None as NoBracket}

abbrev pub bracket_number : BidiPairedBracketType → ℕ
bracket_number Open = 1
bracket_number Close = 2
bracket_number NoBracket = 0

abbrev pub bracket_of : ℕ → BidiPairedBracketType
bracket_of n = if n == 1 then Open else (if n == 2 then Close else NoBracket)

-- the glyph of the glyph bits, of which 0 are none
abbrev pub glyph_of : ℕ → Option ℕ
glyph_of n = if n == 0 then None else Some n

-- the value that a number spells by its bits
abbrev pub glyph_spelled : ℕ → BidiMirroringGlyph
glyph_spelled n =
    record {
      mirroring_glyph = glyph_of (glyph_bits n);
      mirrored = n / 2097152 % 2 == 1;
      paired_bracket_type = bracket_of (bracket_bits n);
    }

abbrev pub unpacked_glyph : ℕ → Option BidiMirroringGlyph
unpacked_glyph n = if is_glyph_number n then Some (glyph_spelled n) else None

abbrev pub packed_glyph : BidiMirroringGlyph → ℕ
packed_glyph v =
    unwrap_or v.mirroring_glyph 0 + (if v.mirrored then 1 else 0) * 2097152
    + bracket_number v.paired_bracket_type * 4194304
