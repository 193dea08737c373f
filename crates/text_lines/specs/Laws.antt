-- Laws of lines.
use Rattle.std.specs.Prelude.{◌≡◌, ℕ, List, ◌∷◌, Some}
use Rattle.std.specs.Borrow.{Bor}
use Rattle.std.specs.declared.str.Lines.{Lines}
use Rattle.std.specs.Str.Iter.{lines_rest, lines_steps}
use Rattle.std.specs.Str.Lines.{lines}

-- where an iterator of lines gives one, it is the first line of the text that was to come
abbrev pub LinesComeInOrder : Type 0
LinesComeInOrder = (before after : Lines) (line : Bor (List ℕ)) → lines_steps before (Some line) after →
    lines (lines_rest before) ≡ line.now ∷ lines (lines_rest after)
