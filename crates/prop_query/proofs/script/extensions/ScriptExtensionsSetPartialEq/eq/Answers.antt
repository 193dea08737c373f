use Rattle.std.proofs.Common.{◌≡◌, ◌++◌, sym, ap, ◌∙◌}
use Rattle.std.proofs.lemmas.Bool.Decides.{Decides-eqb}
use Rattle.std.proofs.lemmas.Slice.Eq.{slice_eq-Decides}
use Rattle.std.specs.Option.{option_to_list}
use Rattle.prop_query.specs.ScriptTypes.{scripts_in}
use Rattle.prop_query.proofs.script.extensions.ScriptExtensionsSetPartialEq.eq.Goals as goal

pub returns-clause-items : goal.returns-clause-items
returns-clause-items c =
    let decides = slice_eq-Decides Decides-eqb _ _ c.eq.result c.eq.ensures in
    let first : c.slice_of.result.now ≡ scripts_in c.args.self.now =
    c.slice_of.ensures ∙ ap (λ single. option_to_list single ++ c.args.self.now.list.now) c.single_script-single.ensures in
    let second : c.slice_of-2.result.now ≡ scripts_in c.args.other.now =
    c.slice_of-2.ensures ∙ ap (λ single. option_to_list single ++ c.args.other.now.list.now) c.single_script-other_single.ensures in
    (λ t. sym first ∙ (decides.0 t ∙ second), λ same. decides.1 (first ∙ (same ∙ sym second)))
