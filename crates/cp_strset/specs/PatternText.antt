-- A set as a pattern of UTS 35 in escapes alone.
use Rattle.std.specs.Prelude.{◌≡◌, ℕ, ◌==◌, Bool, false, ◌&&◌, nat_le, if◌then◌else◌, List, ◌++◌, codes}
use Rattle.std.specs.Fmt.{digits}
use Rattle.std.specs.List.{flat_map}
use Rattle.std.specs.Str.{chars}
use Rattle.cp_invlist.specs.InversionList.{contains}
use Rattle.cp_invlist.specs.Ranges.{AreMaximalRanges}
use Rattle.cp_strset.specs.StringSet.{StringSet}
use Rattle.cp_invlist.specs.declared.ranges.CodePointRange.{CodePointRange}

-- a code point in lower-case hexadecimal with no leading zero, between its braces
abbrev pub escaped : ℕ → List ℕ
escaped c = codes "\\u{" ++ (digits 16 false c ++ codes "}")

-- a range, as one escape where it has one member
abbrev pub range_text : CodePointRange → List ℕ
range_text r = if r.start == r.end then escaped r.start else escaped r.start ++ (codes "-" ++ escaped r.end)

-- a string, each of its characters as an escape
abbrev pub string_text : List ℕ → List ℕ
string_text bs = codes "{" ++ (flat_map escaped (chars bs) ++ codes "}")

-- the ranges, and then the strings
abbrev pub pattern_text : List CodePointRange → List (List ℕ) → List ℕ
pattern_text rs ss = codes "[" ++ (flat_map range_text rs ++ (flat_map string_text ss ++ codes "]"))

-- The text is that of the maximal ranges and of the strings of the set.
pub record IsPatternOf (set : StringSet) (text : List ℕ) : Type 0 where
  pub ranges : List CodePointRange
  pub maximal : AreMaximalRanges (contains set.code_points) ranges
  pub is : text ≡ pattern_text ranges set.strings

-- a printable character of ASCII: from the space to `~`
abbrev pub is_printable_ascii : ℕ → Bool
is_printable_ascii b = nat_le 0x20 b && nat_le b 0x7E
