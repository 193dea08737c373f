use Rattle.std.proofs.Common.{ap, sym, ◌∙◌}
use Rattle.prop_names.specs.Names.{Names, value_of_folding}
use Rattle.prop_names.proofs.NamesLemmas.{lookup-texts}
use Rattle.prop_names.proofs.builder.NamesBuilder.value_of_folding.Goals as goal

pub returns : goal.returns
returns c =
    c.copied.ensures ∙ (c.get.ensures.value ∙ (sym (lookup-texts c.self.inside.foldings c.args.folding.now)
    ∙ (c.self.invariant.found c.args.folding.now ∙ ap (λ (n : Names). value_of_folding n c.args.folding.now) c.self.view_is)))
