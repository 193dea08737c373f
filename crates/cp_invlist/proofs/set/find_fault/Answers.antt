use Rattle.std.proofs.Common.{sym, ◌∙◌, arith}
use Rattle.cp_invlist.proofs.FaultLemmas.{first_out_of_order-end, fault_of-even, fault_of-odd}
use Rattle.cp_invlist.proofs.set.find_fault.Goals as goal

pub returns-then-list-eq0-clause-fault : goal.returns-then-list-eq0-clause-fault
returns-then-list-eq0-clause-fault c =
    let none = c.loop-index.invariant ∙ first_out_of_order-end c.loop-index.low c.loop-index.index c.args.list.now (omega arith) in
    sym (fault_of-even c.args.list.now none c.if-list-eq0.true).0

pub returns-then-list-eq0-clause-none : goal.returns-then-list-eq0-clause-none
returns-then-list-eq0-clause-none c =
    let none = c.loop-index.invariant ∙ first_out_of_order-end c.loop-index.low c.loop-index.index c.args.list.now (omega arith) in
    (fault_of-even c.args.list.now none c.if-list-eq0.true).1

pub returns-else-list-eq0-clause-fault : goal.returns-else-list-eq0-clause-fault
returns-else-list-eq0-clause-fault c =
    let none = c.loop-index.invariant ∙ first_out_of_order-end c.loop-index.low c.loop-index.index c.args.list.now (omega arith) in
    sym (fault_of-odd c.args.list.now none (omega arith))
