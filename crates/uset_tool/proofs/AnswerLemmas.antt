-- The answers to patterns.
use Rattle.std.proofs.Common.{◌≡◌, ℕ, Bool, true, false, List, Option, Some, subst}
use mathlib.Core.Path.{fun_ext}
use Rattle.std.specs.Str.{chars}
use Rattle.std.specs.String.{string_bytes}
use Rattle.cp_invlist.specs.Ranges.{AreMaximalRanges}
use Rattle.cp_strset.specs.StringSet.{StringSet}
use Rattle.uset_grammar.specs.Outcome.{Kind}
use Rattle.uset_grammar.specs.Tree.{point, string}
use Rattle.uset_grammar.specs.Language.{Language}
use Rattle.uset_grammar.specs.Answers.{IsFault}
use Rattle.uset_fault.specs.declared.error.ParseError.{ParseError}
use Rattle.uset_fault.specs.Errors.{kind_of, offset_in, kind_told, ToldAs}
use Rattle.uset_parse.specs.Reading.{IsRead, IsRefused}
use Rattle.uset_tool.specs.declared.answer.Answer.{Answer}
use Rattle.uset_tool.specs.Answer.{PatternAnswer, read, fault, read_text, fault_text, IsReadAnswer, IsFaultAnswer}
use Rattle.uset_tool.specs.Generated.{SizesAnswer, measured, unread, sizes_text, IsSizesAnswer}

-- the text and the mark of an answer
answer_at : (l : Option Language) (source text : List ℕ) (err : Bool) (answer : Answer) → string_bytes answer.text ≡ text → answer.is_err ≡ err → PatternAnswer l source text err → PatternAnswer l source (string_bytes answer.text) answer.is_err
answer_at l source text err answer text_is err_is h = rw (text_is, err_is) h

pub read_answer : (l : Option Language) (source : List ℕ) (n : ℕ) (set : StringSet) (answer : Answer) → IsRead l source set n → IsReadAnswer n set answer → PatternAnswer l source (string_bytes answer.text) answer.is_err
read_answer l source n set answer h (rs, maximal, canonical, text_is, err_is) =
    answer_at l source (read_text n rs set.strings) false answer text_is err_is
    (read n rs set.strings h.reads h.place (subst (λ (m : ℕ → Bool). AreMaximalRanges m rs) (fun_ext (λ c. h.members (point c))) maximal)
    (record { canonical = canonical; holds_them = λ bytes. h.members (string bytes) }))

-- the fault that an error tells
pub fault_told : (l : Option Language) (source : List ℕ) (error : ParseError) (kind : Kind) → IsRefused l source error → kind_told (kind_of error) ≡ Some kind → IsFault l (chars source) kind (offset_in error)
fault_told l source error kind h told = subst (λ t. ToldAs t (offset_in error) (λ k o. IsFault l (chars source) k o)) told h

pub fault_answer : (l : Option Language) (source : List ℕ) (error : ParseError) (answer : Answer) → IsRefused l source error → IsFaultAnswer error source answer → PatternAnswer l source (string_bytes answer.text) answer.is_err
fault_answer l source error answer h is = answer_at l source (fault_text is.kind (offset_in error) source) true answer is.text is.err (fault (fault_told l source error is.kind h is.told))

-- the same of a pattern that is measured
sizes_at : (l : Option Language) (source text : List ℕ) (err : Bool) (answer : Answer) → string_bytes answer.text ≡ text → answer.is_err ≡ err → SizesAnswer l source text err → SizesAnswer l source (string_bytes answer.text) answer.is_err
sizes_at l source text err answer text_is err_is h = rw (text_is, err_is) h

pub measured_answer : (l : Option Language) (source : List ℕ) (n : ℕ) (set : StringSet) (answer : Answer) → IsRead l source set n → IsSizesAnswer n set.code_points answer → SizesAnswer l source (string_bytes answer.text) answer.is_err
measured_answer l source n set answer h (rs, maximal, text_is, err_is) =
    sizes_at l source (sizes_text n rs) false answer text_is err_is
    (measured n rs h.reads h.place (subst (λ (m : ℕ → Bool). AreMaximalRanges m rs) (fun_ext (λ c. h.members (point c))) maximal))

pub unmeasured_answer : (l : Option Language) (source : List ℕ) (error : ParseError) (answer : Answer) → IsRefused l source error → IsFaultAnswer error source answer → SizesAnswer l source (string_bytes answer.text) answer.is_err
unmeasured_answer l source error answer h is = sizes_at l source (fault_text is.kind (offset_in error) source) true answer is.text is.err (unread (fault_told l source error is.kind h is.told))
