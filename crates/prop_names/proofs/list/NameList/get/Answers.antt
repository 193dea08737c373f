use Rattle.std.proofs.Common.{ℕ, Some, Err, ap, sym, ◌∙◌, rules, nat_cmp}
use Rattle.std.specs.declared.string.String.{String}
use Rattle.std.specs.Global.{Global}
use Rattle.std.specs.Cmp.Lexicographic.{slice_cmp}
use Rattle.std.specs.List.Sorted.{IsBinarySearchResult}
use Rattle.std.specs.Map.{lookup}
use Rattle.std.specs.Str.{bytes_eq}
use Rattle.std.specs.String.{string_bytes}
use Rattle.std.proofs.lemmas.Fn.{always_returns_same}
use Rattle.prop_names.proofs.SearchLemmas.{found, missed}
use Rattle.prop_names.proofs.list.NameList.get.Goals as goal

pub returns-in-Ok : goal.returns-in-Ok
returns-in-Ok c =
    let equal = c.in-Ok.ensures.position (λ y. slice_cmp nat_cmp (string_bytes y.0) c.args.name.now) (always_returns_same _ _ _ (λ a r f' k. search rules)) in
    ap (λ (e : String Global × ℕ). Some e.1) c.index.ensures
    ∙ (sym (found c.self.inside.rows.items c.args.name.now c.in-Ok.place c.index.result.now c.self.invariant (rw c.deref.ensures.value at c.in-Ok.ensures.bound) (rw c.deref.ensures.value at (equal c.index.result.now)))
    ∙ ap (lookup (bytes_eq c.args.name.now)) c.self.view_is)

pub returns-in-Err : goal.returns-in-Err
returns-in-Err c =
    let result : IsBinarySearchResult (λ (y : String Global × ℕ). slice_cmp nat_cmp (string_bytes y.0) c.args.name.now) c.deref.result.now (Err c.in-Err.field-0) =
    c.in-Err.ensures.position (λ y. slice_cmp nat_cmp (string_bytes y.0) c.args.name.now) (always_returns_same _ _ _ (λ a r f' k. search rules)) in
    sym (missed c.self.inside.rows.items c.args.name.now c.in-Err.field-0 c.self.invariant (rw c.deref.ensures.value at result)) ∙ ap (lookup (bytes_eq c.args.name.now)) c.self.view_is
