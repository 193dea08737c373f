use Rattle.std.proofs.Common.{◌≡◌, ◌++◌}
use Rattle.std.specs.List.{flat_map}
use Rattle.std.specs.Str.{chars, IsUtf8}
use Rattle.std.specs.String.{string_bytes}
use Rattle.uset_tool.specs.Answer.{further_text, linked}
use Rattle.uset_tool.proofs.answer.push_linked.Given as goal

abbrev pub invariant-loop-character : goal.invariant-loop-character
invariant-loop-character l = record {
  text : IsUtf8 l.character-iterator.rest.now;
  written : string_bytes l.text ++ flat_map further_text (chars l.character-iterator.rest.now) ≡ string_bytes l.fn.text ++ linked (chars l.string);
}
