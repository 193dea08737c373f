use Rattle.std.proofs.Common.{◌≢◌, All, length, sym, subst, ap, ◌∙◌, inl, inr}
use Rattle.std.proofs.lemmas.Result.{IfOk-weaker, IfOk-from_err}
use Rattle.std.specs.Str.{chars}
use Rattle.std.proofs.lemmas.Bool.{cases_Bool}
use Rattle.std.specs.List.{flat_map}
use Rattle.cp_strset.specs.StringList.{holds}
use Rattle.cp_strset_terms.specs.Leaves.{strings_of}
use Rattle.cp_strset_terms.specs.Places.{IsAt}
use Rattle.cp_strset_terms.proofs.NumbersLemmas.{held_at}
use Rattle.cp_strset_terms.proofs.narrowed.table_of_term.Goals as goal

pub returns : goal.returns
returns c =
    let all = c.args.all.now in
    record {
      canonical = c.in_order.ensures.canonical;
      complete = λ text valued held. c.in_order.ensures.same text ∙ elim (cases_Bool (holds all text)) [
        | inl known ↦ (
            let place = held_at all text known in
            c.in_ok-push_numbered.ensures.numbered place.0 text (subst (λ l. IsAt l place.0 text) (sym c.texts.ensures.bytes) place.1) (c.in_ok-numbers.ensures place.0 text place.1 ∙ valued))
        | inr unknown ↦ c.in_ok-push_numbered.ensures.held text (
            ap (λ l. holds l text) c.in_ok-table.ensures.strings
            ∙ (ap (λ l. holds (flat_map strings_of l) text) c.deref.ensures.value
            ∙ c.in_ok-unnumbered.ensures all text c.requires.candidates unknown held))
      ];
    }

pub returns-then-not-are_worth-clause-canonical : goal.returns-then-not-are_worth-clause-canonical
returns-then-not-are_worth-clause-canonical c = c.string_table.ensures.canonical

pub returns-then-not-are_few-clause-complete :
    goal.returns-then-not-are_few-clause-complete
returns-then-not-are_few-clause-complete c =
    IfOk-weaker c.string_table-then-not-are_few.result _ _ (λ table same text valued held. same text ∙ held) c.string_table-then-not-are_few.ensures.complete

pub returns-in_err-push_numbered-clause-complete :
    goal.returns-in_err-push_numbered-clause-complete
returns-in_err-push_numbered-clause-complete c = IfOk-from_err c.from_residual-in_err-push_numbered.result _ c.from_residual-in_err-push_numbered.ensures.0

pub in_order-requires : goal.in_order-requires
in_order-requires c =
    c.in_ok-push_numbered.ensures.none_of_one (subst (All (λ s. length (chars s) ≢ 1)) (sym c.in_ok-table.ensures.strings) c.in_ok-table.ensures.none_of_one)
    (subst (All (λ s. length (chars s) ≢ 1)) (sym c.texts.ensures.bytes) c.texts.ensures.none_of_one)

pub returns-then-not-are_worth-clause-complete : goal.returns-then-not-are_worth-clause-complete
returns-then-not-are_worth-clause-complete c =
    IfOk-weaker c.string_table.result _ _ (λ table same text valued held. same text ∙ held) c.string_table.ensures.complete
