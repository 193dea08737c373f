use Rattle.std.proofs.Common.{◌≡◌, ◌+◌, length}
use Rattle.std.specs.Str.Iter.{lines_rest}
use Rattle.std.specs.Str.Lines.{lines}
use Rattle.prop_data.specs.Loading.{kept}
use Rattle.prop_data.proofs.Reading.{StandsAt}
use Rattle.prop_data.proofs.database.PropertyDatabase.from_text.Given as goal

abbrev pub invariant-loop-line : goal.invariant-loop-line
invariant-loop-line l = StandsAt l.text (lines (lines_rest l.line-iterator)) (kept l.loader) l.number × (l.number ≡ 1 + length l.yielded)
