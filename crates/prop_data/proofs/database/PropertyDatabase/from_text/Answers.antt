use Rattle.std.proofs.Common.{ℕ, List, [], ◌∷◌, sym, ap, ◌∙◌, refl, arith, length-append}
use Rattle.std.specs.Str.Iter.{lines_rest}
use Rattle.std.specs.Str.Lines.{lines}
use Rattle.prop_data.specs.Loading.{kept}
use Rattle.prop_data.proofs.Reading.{begins, faulty_exit, next_line}
use Rattle.prop_data.proofs.database.PropertyDatabase.from_text.Goals as goal

pub loop-line-init : goal.loop-line-init
loop-line-init c = (
  rw (ap lines_rest c.into_iter-line-iterator.ensures.into_iter_gives ∙ c.lines-line-items.ensures.rest) (begins c.args.text.now (kept c.new-loader.result) c.new-loader.ensures),
  refl,
)

pub returns-in-Err-clause-fault : goal.returns-in-Err-clause-fault
returns-in-Err-clause-fault c =
    let parts = c.lines_in_order.ensures c.loop-line.line-iterator c.next.new.self c.in-Some.line c.in-Some.ensures.steps ∙ ap (λ (l : List ℕ). l ∷ lines (lines_rest c.next.new.self)) (sym c.as_bytes.ensures.value) in
    let at = rw parts at c.loop-line.invariant.0 in
    rw c.at.ensures (faulty_exit c.args.text.now _ _ _ (kept c.take.new.self) c.loop-line.number c.in-Err.error at c.in-Err.ensures)

pub loop-line-preserved : goal.loop-line-preserved
loop-line-preserved c =
    let parts = c.lines_in_order.ensures c.loop-line.line-iterator c.next.new.self c.in-Some.line c.in-Some.ensures.steps ∙ ap (λ (l : List ℕ). l ∷ lines (lines_rest c.next.new.self)) (sym c.as_bytes.ensures.value) in
    let at = rw parts at c.loop-line.invariant.0 in (
      next_line c.args.text.now _ _ _ _ c.loop-line.number at c.in_default.ensures.0 c.in_default.ensures.1,
      omega (arith, c.loop-line.invariant.1, length-append c.loop-line.yielded (c.in-Some.line ∷ [])),
    )
