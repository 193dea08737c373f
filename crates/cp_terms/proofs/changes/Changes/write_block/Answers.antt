use Rattle.std.proofs.Common.{◌+◌, sym}
use Rattle.std.proofs.lemmas.Bool.{OnTrue_at}
use Rattle.cp_terms.proofs.ChangesLemmas.{tell_kept, constant_of_block}
use Rattle.cp_terms.proofs.changes.Changes.write_block.Goals as goal

pub returns-then-is_filled-clause-members : goal.returns-then-is_filled-clause-members
returns-then-is_filled-clause-members c = λ m tell bits.
    tell_kept m c.args.place (c.args.place + 0x4000) c.is_inside.result c.args.self.now c.requires.before (sym c.is_inside.ensures) tell
    (constant_of_block m c.args.place c.is_inside.result c.args.block.now bits (OnTrue_at c.if-is_filled.true c.is_filled.ensures))
