use Rattle.std.proofs.Common.{rules, ◌≡◌, ℕ, List, [], ◌∷◌, ◌++◌, length, map, sym, subst, ap, ◌∙◌, arith}
use Rattle.std.specs.String.{string_bytes}
use Rattle.std.specs.Vec.{vec_len}
use Rattle.cp_strset_terms.specs.Numbers.{AreIndexed}
use Rattle.cp_strset_terms.specs.Places.{IsAt}
use Rattle.cp_strset_terms.proofs.NumbersLemmas.{added, keeps_numbers, grows_same, keeps_same, popped_pushed, with_error, indexed_same, stand_once, without_error}
use Rattle.cp_strset_terms.proofs.string_numbers.StringNumbers.add.Goals as goal

one_more : (c : goal.Else-is_err) →
    (map string_bytes c.push.new.self.items ≡ map string_bytes c.self.inside.texts.items ++ c.args.text.now ∷ [])
    × AreIndexed (map string_bytes c.push.new.self.items) c.insert.new.self
    × IsAt (map string_bytes c.push.new.self.items) c.len-number.result c.args.text.now
one_more c =
    let updated = without_error c.insert.result _ (sym c.is_err.ensures.value ∙ c.if-is_err.false) c.insert.ensures.updates in
    let last : c.len-number.result ≡ length c.self.inside.texts.items = search rules in
    added c.self.inside.texts.items c.push.new.self.items c.in_ok-from_str.field-0 c.in_ok-key.key c.args.text.now c.self.inside.indices c.insert.new.self c.len-number.result c.self.invariant
    (λ n at. c.requires.unnumbered n (subst (λ all. IsAt all n c.args.text.now) c.self.view_is at)) c.requires.none_of_one c.in_ok-push.ensures.items
    c.in_ok-from_str.ensures.ok c.in_ok-key.ensures.ok last updated

pub invariant_of-self-else-is_err : goal.invariant_of-self-else-is_err
invariant_of-self-else-is_err c = (one_more c).1

pub returns-clause-kept : goal.returns-clause-kept
returns-clause-kept c =
    let one = one_more c in
    keeps_numbers c.args.self.now (c.args.text.now ∷ []) (map string_bytes c.push.new.self.items) (one.0 ∙ ap (λ (all : List (List ℕ)). all ++ c.args.text.now ∷ []) c.self.view_is)
    (stand_once (map string_bytes c.push.new.self.items) c.insert.new.self one.1)

pub returns-clause-number : goal.returns-clause-number
returns-clause-number c = (one_more c).2

pub returns-in_err-key-clause-kept : goal.returns-in_err-key-clause-kept
returns-in_err-key-clause-kept c = λ strings numbers are. are

pub invariant_of-self : goal.invariant_of-self
invariant_of-self c = c.self.invariant

pub returns-in_err-from_str-clause-grown : goal.returns-in_err-from_str-clause-grown
returns-in_err-from_str-clause-grown c = grows_same (c.args.text.now ∷ []) c.args.self.now (map string_bytes c.self.inside.texts.items) c.self.view_is

pub returns-in_err-from_str-clause-kept : goal.returns-in_err-from_str-clause-kept
returns-in_err-from_str-clause-kept c = keeps_same c.args.self.now (map string_bytes c.self.inside.texts.items) c.self.view_is

pub invariant_of-self-in_err-push : goal.invariant_of-self-in_err-push
invariant_of-self-in_err-push c = subst (λ texts. AreIndexed (map string_bytes texts) c.self.inside.indices) (sym c.in_err-push.ensures.items) c.self.invariant

pub returns-in_err-push-clause-grown : goal.returns-in_err-push-clause-grown
returns-in_err-push-clause-grown c = grows_same (c.args.text.now ∷ []) c.args.self.now (map string_bytes c.push.new.self.items) (ap (map string_bytes) c.in_err-push.ensures.items ∙ c.self.view_is)

pub returns-in_err-push-clause-kept : goal.returns-in_err-push-clause-kept
returns-in_err-push-clause-kept c = keeps_same c.args.self.now (map string_bytes c.push.new.self.items) (ap (map string_bytes) c.in_err-push.ensures.items ∙ c.self.view_is)

pub returns-clause-grown : goal.returns-clause-grown
returns-clause-grown c = record {
  more = c.args.text.now ∷ [];
  is = (one_more c).0 ∙ ap (λ all. all ++ c.args.text.now ∷ []) c.self.view_is;
  theirs = λ bytes h. h;
}

-- where the map has no memory the string is taken back
taken_back : (c : goal.Joined-pop) → c.pop.new.self.items ≡ c.self.inside.texts.items
taken_back c = popped_pushed c.self.inside.texts.items c.push.new.self.items c.pop.new.self.items c.in_ok-from_str.field-0 (vec_len c.push.new.self) (omega arith) c.in_ok-push.ensures.items c.pop.ensures.rest

pub invariant_of-self-then-is_err : goal.invariant_of-self-then-is_err
invariant_of-self-then-is_err c =
    subst (λ texts. AreIndexed (map string_bytes texts) c.insert.new.self) (sym (taken_back c))
    (indexed_same (map string_bytes c.self.inside.texts.items) c.self.inside.indices c.insert.new.self (with_error c.insert.result _ (sym c.if-is_err.ensures.value) c.insert.ensures.err) c.self.invariant)

pub returns-then-is_err-clause-grown : goal.returns-then-is_err-clause-grown
returns-then-is_err-clause-grown c = grows_same (c.args.text.now ∷ []) c.args.self.now (map string_bytes c.pop.new.self.items) (ap (map string_bytes) (taken_back c) ∙ c.self.view_is)

pub returns-then-is_err-clause-kept : goal.returns-then-is_err-clause-kept
returns-then-is_err-clause-kept c = keeps_same c.args.self.now (map string_bytes c.pop.new.self.items) (ap (map string_bytes) (taken_back c) ∙ c.self.view_is)
