-- Where the reading of a table text stands: some lines are read, and the rest is to come.
use Rattle.std.specs.Option.{option_or}
use Rattle.std.proofs.Common.{◌≡◌, ℕ, ◌+◌, List, [], ◌∷◌, Some, None, option_map, Err, refl, sym, ap, ◌∙◌}
use Rattle.std.specs.Str.Lines.{lines}
use Rattle.text_lines.specs.Fields.{fields}
use Rattle.prop_data.specs.Line.{Line, line_of}
use Rattle.prop_data.specs.declared.error.LineError.{LineError}
use Rattle.prop_data.specs.declared.error.LineError.TheVariants.{Fault, NoMemory}
use Rattle.prop_data.specs.declared.error.TableErrorKind.{TableErrorKind}
use Rattle.prop_data.specs.Database.{IsFault}
use Rattle.prop_data.specs.Loading.{after, error_at, Takes}
use Rattle.prop_data.specs.LineFault.{Above, above, line_fault}
use Rattle.prop_data.specs.TableText.{at_line, first_fault, laid_on, lines_by_field, table_fault}
use Rattle.prop_data.proofs.AboveLemmas.{above-line}
use Rattle.prop_data.proofs.TestsLemmas.{fault_of_line-line_fault}

pub record StandsAt (text : List ℕ) (rest : List (List ℕ)) (seen : Above) (number : ℕ) : Type 0 where
  pub read : List Line
  pub seen_is : seen ≡ above read
  pub fault_is : first_fault read number (lines_by_field rest) ≡ table_fault (lines text)
  pub lines_are : laid_on read (lines_by_field rest) ≡ laid_on [] (lines_by_field (lines text))

pub begins : (text : List ℕ) (seen : Above) → seen ≡ above [] → StandsAt text (lines text) seen 1
begins text seen e = record { read = []; seen_is = e; fault_is = refl; lines_are = refl }

-- the fault of the first line to come, if it has one, is the first fault
faulty_line : (text line : List ℕ) (rest : List (List ℕ)) (seen : Above) (number : ℕ) (kind : TableErrorKind) → StandsAt text (line ∷ rest) seen number →
    line_fault seen (line_of (fields line)) ≡ Some kind → table_fault (lines text) ≡ Some (at_line number kind)
faulty_line text line rest seen number kind at faulty =
    sym at.fault_is ∙ ap (λ o. option_or o (first_fault (line_of (fields line) ∷ at.read) (number + 1) (lines_by_field rest)))
    (ap (option_map (at_line number)) (fault_of_line-line_fault (above at.read) (line_of (fields line))
    ∙ (ap (λ a. line_fault a (line_of (fields line))) (sym at.seen_is) ∙ faulty)))

-- a line without a fault was read
pub next_line : (text line : List ℕ) (rest : List (List ℕ)) (seen new : Above) (number : ℕ) → StandsAt text (line ∷ rest) seen number →
    line_fault seen (line_of (fields line)) ≡ None → new ≡ after seen (line_of (fields line)) → StandsAt text rest new (number + 1)
next_line text line rest seen new number at whole is =
    let l = line_of (fields line) in
    let here : line_fault (above at.read) l ≡ None = ap (λ a. line_fault a l) (sym at.seen_is) ∙ whole in
    record {
      read = l ∷ at.read;
      seen_is = is ∙ (ap (λ a. after a l) at.seen_is ∙ sym (above-line at.read l here));
      fault_is =
          ap (λ o. option_or (option_map (at_line number) o) (first_fault (l ∷ at.read) (number + 1) (lines_by_field rest))) (sym (fault_of_line-line_fault (above at.read) l ∙ here))
          ∙ at.fault_is;
      lines_are = at.lines_are;
    }

-- a line was not taken
pub faulty_exit : (text line : List ℕ) (rest : List (List ℕ)) (seen new : Above) (number : ℕ) (error : LineError) → StandsAt text (line ∷ rest) seen number →
    Takes seen (line_of (fields line)) (Err error) new → IsFault (lines text) (error_at number error)
faulty_exit text line rest seen new number (Fault kind) at h = faulty_line text line rest seen number kind at h
faulty_exit text line rest seen new number NoMemory at h = tt
