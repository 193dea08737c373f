use Rattle.std.proofs.Common.{◌∙◌}
use Rattle.uset_reader.specs.Syntaxes.{language_seen}
use Rattle.uset_reader.proofs.ReaderLemmas.{lawful, read_property, refused_property}
use Rattle.uset_reader.proofs.reader.read_property.Goals as goal

pub returns-in-Err-clause-refused : goal.returns-in-Err-clause-refused
returns-in-Err-clause-refused c =
    let s = c.args.syntax.now in
    refused_property s c.args.source.now (c.turns.ensures.units (language_seen s) (lawful s)) c.requires.begins c.new-cursor.result c.in-Err.stop c.stopped.result c.in-Err.ensures.stopped c.new-cursor.ensures.source c.stopped.ensures

pub returns-clause-read : goal.returns-clause-read
returns-clause-read c =
    let s = c.args.syntax.now in
    read_property s c.args.source.now (c.turns.ensures.units (language_seen s) (lawful s)) c.requires.begins c.in-Ok.read.0 c.in_ok-closed.field-0 c.in-Ok.read.1.now c.at.result c.in-Ok.ensures.read c.in_ok-closed.ensures
    (c.at.ensures.source ∙ c.new-cursor.ensures.source) c.at.ensures.left
