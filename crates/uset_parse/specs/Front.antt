-- What was read at the front of a source.
use Rattle.std.specs.Prelude.{Bool}
use Rattle.uset_grammar.specs.Tree.{Member}
use Rattle.uset_steps.specs.Terms.{closed_in}
use Rattle.uset_reader.specs.Named.{sets_of}
use Rattle.uset_reader.specs.Syntaxes.{language_seen}
use Rattle.uset_parse.specs.declared.calls.Front.{Front}

-- what was gathered, with the variables and the properties of the syntax
abbrev pub front_in : Front → Member → Bool
front_in f = closed_in (sets_of (language_seen f.syntax)) f.closed
