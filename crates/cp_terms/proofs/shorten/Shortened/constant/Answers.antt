use Rattle.std.proofs.Common.{◌≡◌, ◌-◌, ◌∷◌, sym, ap, ◌∙◌, reverse, take, length}
use Rattle.cp_terms.proofs.ShortenLemmas.{reverse-last, if_constant, if_mixed}
use Rattle.cp_terms.proofs.shorten.Shortened.constant.Goals as goal

pub returns-in-Some-clause-constant : goal.returns-in-Some-clause-constant
returns-in-Some-clause-constant c =
    let parts = c.deref.result.now in
    let last : reverse parts ≡ c.in-Some.part.now ∷ reverse (take (length parts - 1) parts) = reverse-last parts c.in-Some.part.now c.in-Some.ensures.item.3.0 c.in-Some.ensures.item.3.1 in
    if_constant c.constant.result c.args.self.now.steps.items c.in-Some.part.now (reverse (take (length parts - 1) parts)) (reverse c.args.self.now.stack.items) c.constant.ensures (ap reverse (sym c.deref.ensures.value) ∙ last)

pub returns-in-Some-clause-mixed : goal.returns-in-Some-clause-mixed
returns-in-Some-clause-mixed c =
    let parts = c.deref.result.now in
    let last : reverse parts ≡ c.in-Some.part.now ∷ reverse (take (length parts - 1) parts) = reverse-last parts c.in-Some.part.now c.in-Some.ensures.item.3.0 c.in-Some.ensures.item.3.1 in
    if_mixed c.constant.result c.args.self.now.steps.items c.in-Some.part.now (reverse (take (length parts - 1) parts)) (reverse c.args.self.now.stack.items) c.constant.ensures (ap reverse (sym c.deref.ensures.value) ∙ last)
