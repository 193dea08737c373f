use Rattle.std.proofs.Common.{◌≡◌, ◌++◌, codes}
use Rattle.std.specs.List.{flat_map}
use Rattle.std.specs.Str.{chars, IsUtf8}
use Rattle.std.specs.String.{string_bytes}
use Rattle.cp_strset.specs.PatternText.{escaped}
use Rattle.cp_strset.proofs.pattern_text.push_string.Given as goal

abbrev pub invariant-loop-c : goal.invariant-loop-c
invariant-loop-c l = record {
  text : IsUtf8 l.c-iterator.rest.now;
  written :
      string_bytes l.text ++ flat_map escaped (chars l.c-iterator.rest.now)
      ≡ string_bytes l.fn.text ++ (codes "{" ++ flat_map escaped (chars l.string));
}
