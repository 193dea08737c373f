-- The commands of the code.
use Rattle.uset_tool.specs.declared.words.Command.{Command as CodeCommand}
use Rattle.uset_tool.specs.declared.words.Command.TheVariants.{Eval, Tables, Gen}
use Rattle.uset_tool.specs.Words.{Command, evaluate, count_tables, generate}

abbrev pub command_seen : CodeCommand → Command
command_seen Eval = evaluate
command_seen Tables = count_tables
command_seen (Gen number) = generate number.value
