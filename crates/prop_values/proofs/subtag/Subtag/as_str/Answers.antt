use Rattle.prop_values.proofs.SubtagLemmas.{letters_are_text}
use Rattle.prop_values.proofs.subtag.Subtag.as_str.Goals as goal

pub unwrap-requires : goal.unwrap-requires
unwrap-requires c =
    letters_are_text c.self.inside.letters c.from_utf8.result _ _ c.self.invariant.four_letters c.from_utf8.ensures.cases
