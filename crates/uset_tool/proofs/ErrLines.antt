-- Which answers begin with `err `.
use Rattle.std.proofs.Common.{◌≡◌, ℕ, Bool, List, Option, refl, sym, ap, ◌∙◌}
use Rattle.prop_data.specs.Tables.{Tables}
use Rattle.uset_grammar.specs.Language.{Language}
use Rattle.uset_tool.specs.Answer.{Variables, PatternAnswer, read, fault, DefinitionAnswer, a_character, a_string, a_set, text_after, no_set, BindingAnswer, bound_before, free, LineAnswer}
use Rattle.uset_tool.specs.Generated.{SizesAnswer, measured, unread}
use Rattle.uset_tool.specs.Laws.{begins_with_err, ErrLinesBeginWithErr}
use Rattle.uset_tool.specs.Script.{ScriptLine, silent, pattern, binding, bad, Definition}

of_pattern : (l : Option Language) (source text : List ℕ) (err : Bool) → PatternAnswer l source text err → err ≡ begins_with_err text
of_pattern l source _ _ (read n rs ss r e m s) = refl
of_pattern l source _ _ (fault f) = refl

of_definition : (tables : Tables) (variables : Variables) (name : List ℕ) (d : Definition) (text : List ℕ) (err : Bool) (new : Variables) →
    DefinitionAnswer tables variables name d text err new → err ≡ begins_with_err text
of_definition tables variables name _ _ _ _ a_character = refl
of_definition tables variables name _ _ _ _ a_string = refl
of_definition tables variables name _ _ _ _ (a_set r) = refl
of_definition tables variables name _ _ _ _ (text_after n r e) = refl
of_definition tables variables name _ _ _ _ (no_set f) = refl

of_binding : (tables : Tables) (variables : Variables) (name : List ℕ) (d : Definition) (text : List ℕ) (err : Bool) (new : Variables) →
    BindingAnswer tables variables name d text err new → err ≡ begins_with_err text
of_binding tables variables name d _ _ _ (bound_before b) = refl
of_binding tables variables name d text err new (free f h) = of_definition tables variables name d text err new h

of_line : (tables : Tables) (variables new : Variables) (line : ScriptLine) (text : List ℕ) (err : Bool) →
    LineAnswer tables variables line text err new → err ≡ begins_with_err text
of_line tables variables new silent text err h = h.1 ∙ sym (ap begins_with_err h.0)
of_line tables variables new (pattern source) text err h = of_pattern _ source text err h.0
of_line tables variables new (binding name d) text err h = of_binding tables variables name d text err new h
of_line tables variables new bad text err h = h.1 ∙ sym (ap begins_with_err h.0)

of_sizes : (l : Option Language) (source text : List ℕ) (err : Bool) → SizesAnswer l source text err → err ≡ begins_with_err text
of_sizes l source _ _ (measured n rs r e m) = refl
of_sizes l source _ _ (unread f) = refl

pub err_lines_law : ErrLinesBeginWithErr
err_lines_law = record {
  lines = of_line;
  sizes = of_sizes;
}
