-- A string in braces that is read piece by piece (UTS 35, Unicode Sets).
use Rattle.std.specs.Prelude.{ℕ, zero, suc, Bool, List, [], ◌∷◌, ◌++◌, Option, Some, None, if◌then◌else◌}
use Rattle.uset_grammar.specs.Text.{Text, ◌∈◌}
use Rattle.uset_grammar.specs.Outcome.{Outcome, got, ended}
use Rattle.uset_grammar.specs.Escape.{Spelled, itself}
use Rattle.uset_grammar.specs.EscapeSlips.{in_string}
use Rattle.uset_grammar.specs.Parts.{and_then}
use Rattle.uset_grammar.specs.EscapeParts.{letters_in}

-- One piece in front: no further one behind the closing brace, else what it adds, and nothing for white space.
abbrev pub piece_in : (ℕ → Bool) → Text → Outcome (Option (Option Spelled))
piece_in white_space [] = ended
piece_in white_space (c ∷ t) =
    if c ∈ "}" then got None t
    else if white_space c then got (Some None) t
    else if c ∈ "\\" then and_then (letters_in white_space in_string (c ∷ t) t) (λ s. got (Some (Some s)))
    else got (Some (Some (itself c))) t

-- what a piece makes of those that were read
abbrev pub with_piece_in : (List Spelled → Text → Outcome (List Spelled)) → List Spelled → Option (Option Spelled) →
    Text → Outcome (List Spelled)
with_piece_in more read None t = got read t
with_piece_in more read (Some None) t = more read t
with_piece_in more read (Some (Some s)) t = more (read ++ s ∷ []) t

-- the pieces behind those that were read and the closing brace, at most so many
abbrev pub pieces_in : (ℕ → Bool) → ℕ → List Spelled → Text → Outcome (List Spelled)
pieces_in white_space zero read t = ended
pieces_in white_space (suc most) read t =
    and_then (piece_in white_space t) (with_piece_in (pieces_in white_space most) read)
