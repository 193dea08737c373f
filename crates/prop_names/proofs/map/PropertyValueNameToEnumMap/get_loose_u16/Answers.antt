use Rattle.std.proofs.Common.{◌≡◌, ℕ, Some, IfSome, Option, subst, sym, ap, ◌∙◌}
use Rattle.prop_names.specs.Folding.{query_folding}
use Rattle.prop_names.specs.Names.{Names, FoldingsAgree, value_of_name, value_of_query}
use Rattle.prop_names.proofs.FoldingLemmas.{value_of_name-value_of_query}
use Rattle.prop_names.proofs.map.PropertyValueNameToEnumMap.get_loose_u16.Goals as goal

pub returns-clause-strictly : goal.returns-clause-strictly
returns-clause-strictly c = λ lacks.
    let name = c.args.name.now in
    let value : c.get_folded.result ≡ value_of_query c.args.self.now name =
    c.get_folded.ensures ∙ (c.self.invariant.found (query_folding name) ∙ ap (λ (n : Names). value_of_query n name) c.self.view_is) in
    subst (λ (o : Option ℕ). IfSome (value_of_name c.args.self.now name) (λ value. o ≡ Some value)) (sym value)
    (value_of_name-value_of_query c.args.self.now name (subst FoldingsAgree c.self.view_is c.self.invariant.agree) lacks)
