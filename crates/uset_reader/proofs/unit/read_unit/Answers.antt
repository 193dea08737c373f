use Rattle.std.proofs.lemmas.Result.{IfOk-weaker, IfErr-weaker}
use Rattle.uset_steps.specs.declared.gathering.Gathering.{Gathering}
use Rattle.uset_reader.specs.Syntaxes.{language_seen}
use Rattle.uset_reader.specs.Units.{UnitIs, UnitInFitting, UnitStops, UnitStopsIn}
use Rattle.uset_reader.proofs.unit.read_unit.Goals as goal

pub returns-in-String-clause-read : goal.returns-in-String-clause-read
returns-in-String-clause-read c =
    let l = language_seen c.args.syntax.now in
    let several = c.args.several in
    let text = c.args.text.now in
    IfOk-weaker c.read_text.result (λ p. (g : Gathering) → UnitIs l g several text p.0 p.1.now) (λ p. UnitInFitting l c.args.gathered.now several text p.0 p.1.now)
    (λ p h fits. h c.args.gathered.now) (c.read_text.ensures.read several)

pub returns-in-String-clause-stopped : goal.returns-in-String-clause-stopped
returns-in-String-clause-stopped c =
    let l = language_seen c.args.syntax.now in
    IfErr-weaker c.read_text.result (UnitStops l c.args.several c.args.text.now) (UnitStopsIn l c.args.gathered.now c.args.several c.args.text.now)
    (λ stop h fits. h) (c.read_text.ensures.stopped c.args.several)

pub returns-in-Property-clause-read : goal.returns-in-Property-clause-read
returns-in-Property-clause-read c = c.read_property_set.ensures.read c.args.several
