use Rattle.std.proofs.Common.{◌≡◌, ℕ, Some, IfSome, Option, subst, sym, ap, ◌∙◌}
use Rattle.prop_names.specs.Names.{Names, FoldingsAgree, value_of_name, value_of_query}
use Rattle.prop_names.proofs.FoldingLemmas.{value_of_name-value_of_query}
use Rattle.prop_names.proofs.map.PropertyValueNameToEnumMap.get_strict_u16.Goals as goal

pub returns-clause-loosely : goal.returns-clause-loosely
returns-clause-loosely c = λ lacks.
    let name = c.args.name.now in
    let value : c.get.result ≡ value_of_name c.args.self.now name = c.get.ensures ∙ ap (λ (n : Names). value_of_name n name) c.self.view_is in
    subst (λ (o : Option ℕ). IfSome o (λ value. value_of_query c.args.self.now name ≡ Some value)) (sym value)
    (value_of_name-value_of_query c.args.self.now name (subst FoldingsAgree c.self.view_is c.self.invariant.agree) lacks)
