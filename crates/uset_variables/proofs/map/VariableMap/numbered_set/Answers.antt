use Rattle.std.proofs.Common.{ap, sym, ◌∙◌}
use Rattle.std.proofs.lemmas.Bool.{true≢false}
use Rattle.std.specs.Prelude.{is_some}
use Rattle.uset_variables.specs.Numbered.{some_indexed_set}
use Rattle.uset_variables.proofs.map.VariableMap.numbered_set.Goals as goal

pub returns-in_err-get-clause-numbers : goal.returns-in_err-get-clause-numbers
returns-in_err-get-clause-numbers c =
    let index = c.in_ok-index.index.now in
    let is = c.args.self.now.indexed c.args.key.now index (sym c.in_ok-index.ensures.value) in
    absurd (true≢false (sym is.indexed ∙ ap (λ value. is_some (some_indexed_set value index)) (sym c.in_err-get.ensures.value)))

pub returns-in_err-set-clause-numbers : goal.returns-in_err-set-clause-numbers
returns-in_err-set-clause-numbers c =
    let index = c.in_ok-index.index.now in
    let is = c.args.self.now.indexed c.args.key.now index (sym c.in_ok-index.ensures.value) in
    absurd (true≢false (sym is.indexed ∙ (ap (λ value. is_some (some_indexed_set value index)) (sym c.in_ok-get.ensures.value) ∙ ap is_some (sym c.in_err-set.ensures))))

pub returns-clause-members : goal.returns-clause-members
returns-clause-members c =
    let index = c.in_ok-index.index.now in
    let is = c.args.self.now.indexed c.args.key.now index (sym c.in_ok-index.ensures.value) in
    is.members c.in_ok-set.set.now (ap (λ value. some_indexed_set value index) (sym c.in_ok-get.ensures.value) ∙ sym c.in_ok-set.ensures)

pub returns-clause-theirs : goal.returns-clause-theirs
returns-clause-theirs c =
    let index = c.in_ok-index.index.now in
    let is = c.args.self.now.indexed c.args.key.now index (sym c.in_ok-index.ensures.value) in
    is.theirs c.in_ok-set.set.now (ap (λ value. some_indexed_set value index) (sym c.in_ok-get.ensures.value) ∙ sym c.in_ok-set.ensures)
