use Rattle.cp_strset.proofs.StringsLemmas.{none_spelled}
use Rattle.cp_strset.proofs.strings.Strings.is_empty.Goals as goal

pub returns : goal.returns
returns c =
    let keys = c.self.inside.texts.keys in
    rw (← c.self.view_is) (
      λ none. (none_spelled keys).0 (c.is_empty.ensures.0 none),
      λ none. c.is_empty.ensures.1 ((none_spelled keys).1 none),
    )
