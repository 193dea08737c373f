use Rattle.std.proofs.Common.{sym}
use Rattle.std.proofs.lemmas.Result.{err_from_is_err_and}
use Rattle.uset_reader.specs.Syntaxes.{language_seen}
use Rattle.uset_parse.proofs.ReadingLemmas.{reading, refusal, absent_syntax}
use Rattle.uset_parse.proofs.calls.read_front.Goals as goal

pub returns-in_default-clause-refused : goal.returns-in_default-clause-refused
returns-in_default-clause-refused c =
    let language = rw c.database.ensures at c.in_default.ensures.language in
    absent_syntax _ c.args.source.now c.into.result (sym language) c.into.ensures.0 c.into.ensures.1

pub returns-in_err-closed-clause-refused : goal.returns-in_err-closed-clause-refused
returns-in_err-closed-clause-refused c =
    let language = rw c.database.ensures at c.in-Some.ensures.language in
    let p = err_from_is_err_and c.from_residual.result c.from_residual.ensures.1 in
    rw (p.1, p.2) (refusal (language_seen c.in-Some.syntax) _ c.args.source.now _ (sym language) c.in_err-closed.ensures.refused)

pub returns-clause-read : goal.returns-clause-read
returns-clause-read c =
    let language = rw c.database.ensures at c.in-Some.ensures.language in
    reading (language_seen c.in-Some.syntax) _ c.args.source.now c.in_ok-closed.closed c.in_ok-closed.place c.offset.result (sym language) c.in_ok-closed.ensures.read c.offset.ensures.rest
