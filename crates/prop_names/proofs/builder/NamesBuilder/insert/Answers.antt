use Rattle.std.proofs.Common.{◌≡◌, ℕ, List, Option, Some, None, IfSome, cond, subst, sym, ap, ap₂, ◌∙◌, nat_cmp}
use Rattle.std.specs.BTreeMap.{UpdatesBy}
use Rattle.std.specs.Cmp.Lexicographic.{slice_cmp}
use Rattle.std.specs.Global.{Global}
use Rattle.std.specs.Str.{bytes_eq}
use Rattle.std.specs.String.{string_bytes, string_cmp}
use Rattle.std.specs.declared.string.String.{String}
use Rattle.prop_names.specs.Folding.{stored_folding}
use Rattle.prop_names.specs.Names.{Names, AreFoldings, FoldingsAgree, value_of_name, value_of_folding, with_name}
use Rattle.prop_names.specs.Texts.{texts}
use Rattle.prop_names.proofs.NamesLemmas.{AreFoldings-same, FoldingsAgree-with_name, value_of_name-texts, known_value, lookup-texts, no_value, same_values, taken_back, texts-insert_entry, value_of_folding-with_name}
use Rattle.prop_names.proofs.builder.NamesBuilder.insert.Goals as goal

pub invariant_of-self : goal.invariant_of-self
invariant_of-self c =
    AreFoldings-same (texts c.self.inside.names.entries) (texts c.self.inside.foldings.entries) (texts c.insert.new.self.entries)
    (λ q. ap (λ rows. value_of_name (texts rows) q) c.in_err-before.ensures.err) c.self.invariant

pub invariant_of-self-then-is_none : goal.invariant_of-self-then-is_none
invariant_of-self-then-is_none c =
    let old = c.self.inside in
    let folding = string_bytes c.args.folding in
    let had : value_of_name (texts old.foldings.entries) folding ≡ None = lookup-texts old.foldings folding ∙ (sym c.in_ok-before.ensures.old ∙ no_value c.in_ok-before.before c.if-is_none.ensures) in
    let removed : UpdatesBy string_cmp (λ k. slice_cmp nat_cmp folding (string_bytes k)) c.insert.new.self c.remove.new.self None =
    subst (λ bytes. UpdatesBy string_cmp (λ k. slice_cmp nat_cmp bytes (string_bytes k)) c.insert.new.self c.remove.new.self None) (c.as_str.ensures.value ∙ c.in_ok-key.ensures.cases) c.remove.ensures.updates in
    subst (λ (rows : List (String Global × ℕ)). AreFoldings (texts rows) (texts c.remove.new.self.entries)) (sym c.in-Err.ensures.err)
    (AreFoldings-same (texts old.names.entries) (texts old.foldings.entries) (texts c.remove.new.self.entries)
    (taken_back old.foldings c.insert.new.self c.remove.new.self folding c.args.value had c.in_ok-before.ensures.updates removed) c.self.invariant)

pub invariant_of-self-else-is_none : goal.invariant_of-self-else-is_none
invariant_of-self-else-is_none c =
    let old = c.self.inside in
    let folding = string_bytes c.args.folding in
    let looked : value_of_name (texts old.foldings.entries) folding ≡ c.in_ok-before.before = lookup-texts old.foldings folding ∙ sym c.in_ok-before.ensures.old in
    let agrees : IfSome c.in_ok-before.before (λ other. other ≡ c.args.value) =
    subst (λ (o : Option ℕ). IfSome o (λ other. other ≡ c.args.value)) (sym (c.self.invariant.found folding) ∙ looked)
    (subst (λ (n : Names). IfSome (value_of_folding n folding) (λ other. other ≡ c.args.value)) (sym c.self.view_is) c.requires.agrees) in
    let had : value_of_name (texts old.foldings.entries) folding ≡ Some c.args.value = looked ∙ known_value c.in_ok-before.before c.args.value c.if-is_none.ensures agrees in
    subst (λ (rows : List (String Global × ℕ)). AreFoldings (texts rows) (texts c.insert.new.self.entries)) (sym c.in-Err.ensures.err)
    (AreFoldings-same (texts old.names.entries) (texts old.foldings.entries) (texts c.insert.new.self.entries)
    (same_values (texts old.foldings.entries) (texts c.insert.new.self.entries) folding (Some c.args.value) had
    (value_of_name-texts old.foldings c.insert.new.self folding (Some c.args.value) c.in_ok-before.ensures.updates)) c.self.invariant)

pub invariant_of-self-in_default : goal.invariant_of-self-in_default
invariant_of-self-in_default c =
    let old = c.self.inside in
    let name = string_bytes c.args.name in
    let folding = string_bytes c.args.folding in
    let named : texts c.insert-2.new.self.entries ≡ with_name (texts old.names.entries) name c.args.value = ap texts c.in_default.ensures.entries ∙ texts-insert_entry old.names.entries c.args.name c.args.value in
    let agrees : IfSome (value_of_folding (texts old.names.entries) (stored_folding name)) (λ other. other ≡ c.args.value) =
    subst (λ (n : Names). IfSome (value_of_folding n (stored_folding name)) (λ other. other ≡ c.args.value)) (sym c.self.view_is)
    (subst (λ (g : List ℕ). IfSome (value_of_folding c.args.self.now g) (λ other. other ≡ c.args.value)) c.requires.folds c.requires.agrees) in
    record {
      found = λ f. value_of_name-texts old.foldings c.insert.new.self folding (Some c.args.value) c.in_ok-before.ensures.updates f
          ∙ (ap₂ (λ (g : List ℕ) (v : Option ℕ). cond (bytes_eq g f) (Some c.args.value) v) c.requires.folds (c.self.invariant.found f)
          ∙ (sym (value_of_folding-with_name (texts old.names.entries) name c.args.value agrees f) ∙ ap (λ (n : Names). value_of_folding n f) (sym named)));
      agree = subst FoldingsAgree (sym named)
          (FoldingsAgree-with_name (texts old.names.entries) name c.args.value c.self.invariant.agree agrees
          (λ q. ap (λ (n : Names). value_of_name n q) (sym named) ∙ value_of_name-texts old.names c.insert-2.new.self name (Some c.args.value) c.in_default.ensures.updates q));
    }

pub returns-clause-ok : goal.returns-clause-ok
returns-clause-ok c =
    ap texts c.in_default.ensures.entries
    ∙ (texts-insert_entry c.self.inside.names.entries c.args.name c.args.value ∙ ap (λ (n : Names). with_name n (string_bytes c.args.name) c.args.value) c.self.view_is)
