use Rattle.uset_fault.proofs.WordsBytes.{front-eof, front-within, front-beyond}
use Rattle.uset_fault.proofs.error.ParseError.front.Goals as goal

pub returns-in-Eof : goal.returns-in-Eof
returns-in-Eof c = front-eof c.args.self.now c.args.source.now c.utf8.source c.in-Eof.is

pub returns-then-offset-source : goal.returns-then-offset-source
returns-then-offset-source c = front-within c.args.self.now c.args.source.now c.front_past.result.now c.in_ok-offset.offset c.utf8.source c.in_default.not-Eof c.in_ok-offset.was c.if-offset-source.true c.front_past.ensures

pub returns-else-offset-source : goal.returns-else-offset-source
returns-else-offset-source c = front-beyond c.args.self.now c.args.source.now c.in_ok-offset.offset c.utf8.source c.in_default.not-Eof c.in_ok-offset.was c.if-offset-source.false
