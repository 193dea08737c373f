use Rattle.std.proofs.Common.{ℕ, List, sym, ap₂, ◌∙◌}
use Rattle.cp_strset.specs.StringSet.{StringSet}
use Rattle.uset_grammar.specs.Tree.{point, string}
use Rattle.uset_parse.proofs.laws.equal_denotations.Goals as goal

pub returns : goal.returns
returns c = λ l k source other set again n o kept kept_too first second same.
    let lists : List ℕ → List (List ℕ) → StringSet = λ points texts. record { code_points = points; strings = texts } in
    let points = c.same_members.ensures set.code_points again.code_points kept.code_points kept_too.code_points
    (λ d. first.members (point d) ∙ (same (point d) ∙ sym (second.members (point d)))) in
    let texts = c.one_list.ensures set.strings again.strings kept.strings kept_too.strings
    (λ bytes. first.members (string bytes) ∙ (same (string bytes) ∙ sym (second.members (string bytes)))) in
    ap₂ lists points texts
