-- What the calls answer.
use Rattle.std.proofs.Common.{◌≡◌, ℕ, ◌+◌, List, length, Option, Some, None, sym, ap, ◌∙◌, subst}
use Rattle.std.specs.Str.{chars}
use Rattle.uset_grammar.specs.Outcome.{Kind, internal}
use Rattle.uset_grammar.specs.Language.{Language}
use Rattle.uset_grammar.specs.Place.{size}
use Rattle.uset_grammar.specs.Answers.{ReadsUnder, under, FaultUnder, absent, under_fault, IsFault}
use Rattle.uset_steps.specs.declared.closed.Closed.{Closed as ClosedSet}
use Rattle.uset_steps.specs.Terms.{closed_in}
use Rattle.uset_read.specs.declared.cursor.Cursor.{Cursor}
use Rattle.uset_read.specs.Cursors.{source_of, left_of}
use Rattle.uset_fault.specs.declared.error.ParseError.{ParseError}
use Rattle.uset_fault.specs.declared.error.ParseErrorKind.TheVariants.{Internal}
use Rattle.uset_fault.specs.Errors.{kind_of, offset_in, kind_told, ToldAs}
use Rattle.uset_reader.specs.Named.{sets_of}
use Rattle.uset_reader.specs.Readings.{IsReading, IsRefusal}
use Rattle.uset_parse.specs.Reading.{Denotes, IsRefused}

-- what was gathered up to a cursor is what is read under the syntax that is there
pub reading : (l : Language) (syntax : Option Language) (source : List ℕ) (gathered : ClosedSet) (end : Cursor) (n : ℕ) → syntax ≡ Some l → IsReading l source gathered end →
    n + size (chars (left_of end)) ≡ length (source_of end) → Denotes syntax source (closed_in (sets_of l) gathered) n
reading l syntax source gathered end n there h place = record {
  tree = h.tree;
  rest = chars (left_of end);
  reads = subst (λ s. ReadsUnder (chars source) h.tree (chars (left_of end)) s) (sym there) (under h.read);
  members = h.members;
  place = place ∙ ap length h.same;
}

-- what an error tells, weakened
pub told_more : (told : Option Kind) (offset : Option ℕ) (P Q : Kind → Option ℕ → Type 0) → ((k : Kind) (o : Option ℕ) → P k o → Q k o) → ToldAs told offset P → ToldAs told offset Q
told_more None offset P Q more h = h
told_more (Some k) offset P Q more h = more k offset h

-- a refusal of the reader, under the syntax that is there
pub refusal : (l : Language) (syntax : Option Language) (source : List ℕ) (error : ParseError) → syntax ≡ Some l → IsRefusal l source error → IsRefused syntax source error
refusal l syntax source error there h = told_more (kind_told (kind_of error)) (offset_in error) _ (λ k o. IsFault syntax (chars source) k o) (λ k o fault. record {
  place = fault.0;
  fault = subst (λ s. FaultUnder (chars source) s k fault.0) (sym there) (under_fault fault.1);
  is = fault.2;
}) h

-- an internal error where the syntax is absent
pub absent_syntax : (syntax : Option Language) (source : List ℕ) (error : ParseError) → syntax ≡ None → kind_of error ≡ Internal → offset_in error ≡ None → IsRefused syntax source error
absent_syntax syntax source error none kind offset =
    let told : kind_told (kind_of error) ≡ Some internal = ap kind_told kind in
    let P : Option Kind → Type 0 = λ t. ToldAs t (offset_in error) (λ k o. IsFault syntax (chars source) k o) in
    subst P (sym told) (record { place = None; fault = subst (λ s. FaultUnder (chars source) s internal None) (sym none) absent; is = offset })
