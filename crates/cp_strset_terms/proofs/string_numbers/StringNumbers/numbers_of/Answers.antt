use Rattle.std.proofs.Common.{◌≢◌, ℕ, Some, List, [], ◌∷◌, ◌++◌, length, map, take, sym, subst, ap, ◌∙◌, arith}
use Rattle.std.proofs.lemmas.List.{get_or-map, length-map, map_more, take_all}
use Rattle.std.specs.declared.string.String.{String}
use Rattle.std.specs.Global.{Global}
use Rattle.std.specs.List.{slice_get}
use Rattle.std.specs.Str.{chars}
use Rattle.std.specs.String.{string_bytes}
use Rattle.cp_strset_terms.specs.Numbers.{AreNumbered}
use Rattle.cp_strset_terms.proofs.NumbersLemmas.{numbered_more, grows_at}
use Rattle.cp_strset_terms.proofs.string_numbers.StringNumbers.numbers_of.Goals as goal

pub number_of-requires : goal.number_of-requires
number_of-requires c =
    let i = c.loop-string.string-index in
    let strings = c.args.strings.now in
    let d = c.string-item.result in
    let same = c.as_str.ensures.value ∙ (ap string_bytes c.string-item.is ∙ sym (get_or-map string_bytes strings i d [] c.loop-string-test.true)) in
    subst (λ s. length (chars s) ≢ 1) (sym same) (c.requires i [] (omega (arith, length-map strings string_bytes, c.loop-string-test.true)))

pub loop-string-preserved : goal.loop-string-preserved
loop-string-preserved c =
    let i = c.loop-string.string-index in
    let strings = c.args.strings.now in
    let done = map string_bytes (take i strings) in
    let new = c.number_of.new.self in
    let text = c.as_str.ensures.value ∙ ap string_bytes c.string-item.is in
    let more = map_more string_bytes strings i c.string-item.result c.loop-string-test.true ∙ ap (λ (s : List ℕ). done ++ s ∷ []) (sym text) in (
      λ some numbers h. c.number_of.ensures.kept some numbers (c.loop-string.invariant.0 some numbers h),
      ap (map (λ n. slice_get new n)) c.in_ok-push.ensures.items
          ∙ (numbered_more c.loop-string.self new c.loop-string.numbers.items done c.in_ok-number_of.field-0 c.as_str.result.now c.number_of.ensures.grown c.loop-string.invariant.1 c.in_ok-number_of.ensures.number
          ∙ ap (map (λ (s : List ℕ). Some s)) (sym more)),
      grows_at c.args.strings.now c.args.self.now c.loop-string.self c.number_of.new.self c.loop-string.string-index c.as_str.result.now c.string-item.result c.loop-string-test.true
          (c.as_str.ensures.value ∙ ap string_bytes c.string-item.is) c.loop-string.invariant.2 c.number_of.ensures.grown,
    )

pub returns : goal.returns
returns c = record {
  grown = c.loop-string.invariant.2;
  kept = c.loop-string.invariant.0;
  numbers = subst (λ (l : List (String Global)). AreNumbered c.loop-string.self c.loop-string.numbers.items (map string_bytes l))
      (take_all c.loop-string.string-index c.args.strings.now c.loop-string-test.false) c.loop-string.invariant.1;
}

pub returns-in_err-number_of-clause-grown : goal.returns-in_err-number_of-clause-grown
returns-in_err-number_of-clause-grown c =
    grows_at c.args.strings.now c.args.self.now c.loop-string.self c.number_of.new.self c.loop-string.string-index c.as_str.result.now c.string-item.result c.loop-string-test.true
    (c.as_str.ensures.value ∙ ap string_bytes c.string-item.is) c.loop-string.invariant.2 c.number_of.ensures.grown

pub returns-in_err-push-clause-grown : goal.returns-in_err-push-clause-grown
returns-in_err-push-clause-grown c =
    grows_at c.args.strings.now c.args.self.now c.loop-string.self c.number_of.new.self c.loop-string.string-index c.as_str.result.now c.string-item.result c.loop-string-test.true
    (c.as_str.ensures.value ∙ ap string_bytes c.string-item.is) c.loop-string.invariant.2 c.number_of.ensures.grown
