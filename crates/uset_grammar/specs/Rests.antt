-- What may follow a pattern (UTS 35, Unicode Sets).
use Rattle.std.specs.Prelude.{ℕ, Bool, true, not, ◌||◌, is_some, [], ◌∷◌}
use Rattle.uset_grammar.specs.Text.{Text, behind}
use Rattle.uset_grammar.specs.Language.{Language}

-- the text is empty, or begins with a character that the test refuses
abbrev pub stops : (ℕ → Bool) → Text → Bool
stops test [] = true
stops test (c ∷ s) = not (test c)

-- behind a variable, which a `$` begins, stands nothing that would continue its name; behind any other set stands any text
abbrev pub may_follow : Language → Text → Text → Bool
may_follow l pattern rest = not (is_some (behind "$" pattern)) || stops l.continue rest
