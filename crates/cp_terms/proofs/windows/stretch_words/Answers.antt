use Rattle.std.proofs.Common.{Option, None, Some}
use Rattle.std.specs.Option.{MatchOption, IfSome}
use Rattle.cp_terms.proofs.WindowLemmas.{block_of_words}
use Rattle.cp_terms.proofs.windows.stretch_words.Goals as goal

-- what a clause says of the value, if there is one
some_of : {A : Type 0} {Q R : A → Type 0} (P : Type 0) (o : Option A) → MatchOption o P Q → ((x : A) → Q x → R x) → IfSome o R
some_of P None h f = tt
some_of P (Some x) h f = f x h

pub returns : goal.returns
returns c =
    let part = c.in_ok-get.ensures.lookup.0 in
    some_of _ c.first_chunk.result c.first_chunk.ensures.cases (λ chunk front.
    block_of_words c.args.set.now c.words.result.now c.in_ok-get.field-0.now chunk.now c.args.place c.words.ensures.members part.2 part.3 front.same front.enough c.requires)
