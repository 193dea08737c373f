-- The lines of a script as the code keeps them.
use Rattle.std.specs.Str.{chars}
use Rattle.std.specs.String.{string_bytes}
use Rattle.uset_tool.specs.declared.line.Definition.{Definition as CodeDefinition}
use Rattle.uset_tool.specs.declared.line.Definition.TheVariants.{Char, String, Set}
use Rattle.uset_tool.specs.declared.line.Line.{Line}
use Rattle.uset_tool.specs.declared.line.Line.TheVariants.{Silent, Pattern, Binding, Bad}
use Rattle.uset_tool.specs.Script.{Definition, character, string, set, ScriptLine, silent, pattern, binding, bad}

abbrev pub definition_seen : CodeDefinition → Definition
definition_seen (Char c) = character c
definition_seen (String s) = string (chars (string_bytes s))
definition_seen (Set source) = set source.now

abbrev pub line_seen : Line → ScriptLine
line_seen Silent = silent
line_seen (Pattern source) = pattern source.now
line_seen (Binding name d) = binding name.now (definition_seen d)
line_seen Bad = bad
