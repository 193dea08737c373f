-- What a shortened term comes down to.
use Rattle.std.specs.Prelude.{ℕ, Bool, List}
use Rattle.cp_invlist.specs.InversionList.{differ}
use Rattle.cp_terms.specs.declared.step.Step.{Step}
use Rattle.cp_terms.specs.declared.shorten.Outcome.{Outcome}
use Rattle.cp_terms.specs.declared.shorten.Outcome.TheVariants.{Constant, Set, Mixed}
use Rattle.cp_terms.specs.Terms.{value_of}

-- whether the set that a term comes down to has the member, by which sets have it
abbrev pub outcome_value : (ℕ → Bool) → Outcome → List Step → Bool
outcome_value w (Constant inside) ss = inside
outcome_value w (Set index complemented) ss = differ complemented (w index)
outcome_value w Mixed ss = value_of w ss
