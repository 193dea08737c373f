use Rattle.cp_strset.proofs.StringsLemmas.{all_given, bytes_spelled, canonical_bytes}
use Rattle.cp_strset.proofs.strings.Strings.into_list.Goals as goal

pub returns-clause-strings : goal.returns-clause-strings
returns-clause-strings c = rw (all_given c.loop-text.list.items c.loop-text.text-iterator c.args.self.keys c.loop-text.invariant c.in-None.ensures.steps.0) (bytes_spelled c.args.self.keys)

pub returns-clause-canonical : goal.returns-clause-canonical
returns-clause-canonical c =
    rw (all_given c.loop-text.list.items c.loop-text.text-iterator c.args.self.keys c.loop-text.invariant c.in-None.ensures.steps.0, ← c.self.view_is) (canonical_bytes c.self.inside.texts.keys c.len.ensures.ordered c.self.invariant)
