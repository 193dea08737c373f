use Rattle.std.proofs.Common.{List, ℕ, map, subst}
use Rattle.std.proofs.lemmas.Result.{IfOk-weaker}
use Rattle.std.specs.String.{string_bytes}
use Rattle.cp_strset_terms.specs.Numbers.{AreNumbersOf}
use Rattle.cp_strset_terms.proofs.NumbersLemmas.{numbers_are}
use Rattle.cp_strset_terms.proofs.string_numbers.StringNumbers.number.Goals as goal

pub returns-clause-numbers : goal.returns-clause-numbers
returns-clause-numbers c = IfOk-weaker c.from_numbers.result _ _ (λ set is.
    subst (λ (strings : List (List ℕ)). AreNumbersOf c.numbers_of.new.self strings set) c.strings.ensures.bytes
    (numbers_are c.numbers_of.new.self c.in_ok-numbers.numbers.items (map string_bytes c.strings.result.now) set c.texts.ensures.once c.in_ok-numbers.ensures.numbers is)) c.from_numbers.ensures
