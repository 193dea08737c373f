use Rattle.std.proofs.Common.{◌≡◌, ◌++◌, map, take, string_bytes}
use Rattle.std.specs.List.{flat_map}
use Rattle.uset_tool.specs.Answer.{string_text}
use Rattle.uset_tool.proofs.answer.push_strings.Given as goal

abbrev pub invariant-loop-string : goal.invariant-loop-string
invariant-loop-string l =
    string_bytes l.text ≡ string_bytes l.initial.text ++ flat_map string_text (map string_bytes (take l.string-index l.fn.strings))
