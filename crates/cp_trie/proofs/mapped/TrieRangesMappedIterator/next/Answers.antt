use Rattle.std.proofs.Common.{length, refl, ap, arith}
use Rattle.std.proofs.lemmas.List.{nil_from_length, length-drop}
use Rattle.cp_trie.proofs.MappedLemmas.{TakesEach-first, KeepsMapping-tail, KeepsMapping-drop, part-from, TakesRun-from}
use Rattle.cp_trie.proofs.mapped.TrieRangesMappedIterator.next.Goals as goal

pub equal_front-more-requires : goal.equal_front-more-requires
equal_front-more-requires g c =
    (KeepsMapping-tail (λ v. g.F.Fn.pre c.args.self.now.map (v, tt)) (λ v u. g.F.Fn.post c.args.self.now.map (v, tt) u) c.in_ok-first.first.now c.args.self.now.runs.now c.in_ok-first.rest.now c.in_ok-first.ensures.cases.0 c.requires).0

pub returns-clause-goes : goal.returns-clause-goes
returns-clause-goes g c =
    let keeps = KeepsMapping-drop (λ v. g.F.Fn.pre c.args.self.now.map (v, tt)) (λ v u. g.F.Fn.post c.args.self.now.map (v, tt) u) c.in_ok-first.rest.now c.equal_front-more.result
    (KeepsMapping-tail (λ v. g.F.Fn.pre c.args.self.now.map (v, tt)) (λ v u. g.F.Fn.post c.args.self.now.map (v, tt) u) c.in_ok-first.first.now c.args.self.now.runs.now c.in_ok-first.rest.now c.in_ok-first.ensures.cases.0 c.requires) in
    let part = part-from c.in_ok-first.rest.now c.equal_front-more.result in
    record {
      on = λ _. (rw part keeps, tt, omega (arith, ap length part, length-drop c.equal_front-more.result c.in_ok-first.rest.now, c.in_ok-first.ensures.cases.1));
      keeps = rw part keeps;
      rests = λ _. tt;
    }

pub returns-clause-steps : goal.returns-clause-steps
returns-clause-steps g c =
    (TakesRun-from g.U.PartialEq.eq (λ v u. g.F.Fn.post c.args.self.now.map (v, tt) u) c.in_ok-first.first.now c.args.self.now.runs.now c.in_ok-first.rest.now c.index-self-more.result c.map-value.result c.equal_front-more.result c.in_ok-first.ensures.cases.0 c.map-value.ensures c.equal_front-more.ensures c.index-self-more.is, refl)

pub returns-in_err-first-clause-steps : goal.returns-in_err-first-clause-steps
returns-in_err-first-clause-steps g c =
    let none = nil_from_length c.args.self.now.runs.now c.in_err-first.ensures.cases in
    rw c.from_residual.ensures ((none, none), refl)

pub map-value-requires : goal.map-value-requires
map-value-requires g c =
    TakesEach-first (λ v. g.F.Fn.pre c.args.self.now.map (v, tt)) c.in_ok-first.first.now c.args.self.now.runs.now c.in_ok-first.rest.now c.in_ok-first.ensures.cases.0 c.requires.0

pub returns-in_err-first-clause-goes : goal.returns-in_err-first-clause-goes
returns-in_err-first-clause-goes g c =
    rw c.from_residual.ensures (record { on = λ _. tt; keeps = tt; rests = λ finite. finite })
