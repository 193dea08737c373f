-- What was appended to the sink for the pattern that a number tells, and where it has a fault.
use Rattle.std.proofs.Common.{◌≡◌, ℕ, Bool, true, false, cond, List, [], ◌∷◌, length, Option, None, Some, IfSome, inl, inr, refl, sym, ap, ◌∙◌, subst, append-nil, arith, sum_by, ◌≤◌}
use Rattle.std.proofs.lemmas.Bool.{false≢true}
use Rattle.std.proofs.lemmas.List.Sums.{sum_by-cons}
use Rattle.std.specs.Str.{chars}
use Rattle.std.specs.Str.Lines.{lines}
use Rattle.cp_invlist.specs.declared.ranges.CodePointRange.{CodePointRange}
use Rattle.cp_invlist.specs.Laws.{OneListOfRanges}
use Rattle.cp_invlist.specs.Size.{range_size}
use Rattle.prop_data.specs.declared.error.LoadError.{LoadError}
use Rattle.prop_data.specs.declared.error.LoadError.TheVariants.{Table, NoMemory as LoadRefused}
use Rattle.prop_data.specs.Database.{IsFault as IsLoadFault}
use Rattle.prop_data.specs.declared.error.TableError.{TableError}
use Rattle.prop_data.specs.Forbidden.{AreAllowed}
use Rattle.prop_data.specs.Laws.{SetsAreAllowed}
use Rattle.prop_data.specs.Tables.{Tables as Members}
use Rattle.prop_data.specs.TableText.{table_fault, tables_in}
use Rattle.uset_grammar.specs.Outcome.{Kind}
use Rattle.uset_grammar.specs.Grammar.{Reads}
use Rattle.uset_grammar.specs.Language.{Language}
use Rattle.uset_grammar.specs.Answers.{ReadsUnder, under, IsFault}
use Rattle.uset_reader.specs.Laws.{OneAnswer}
use Rattle.uset_reader.specs.Syntaxes.{language_of}
use Rattle.uset_variables.specs.Variables.{no_variables}
use Rattle.uset_tool.specs.declared.status.Status.{Status}
use Rattle.uset_tool.specs.declared.status.Status.TheVariants.{Done, SomeErr, Tables}
use Rattle.uset_tool.specs.Generated.{pattern_of, SizesAnswer, measured, unread}
use Rattle.uset_tool.specs.Laws.{GeneratedPatternsAreRead}
use Rattle.uset_tool.specs.Words.{generate, table_fault_text}
use Rattle.uset_tool.specs.Run.{Generates, faulty_database, generated, Results, SaysSizes, Answers, usage, too_long, not_text, evaluates, AppendsWhole, AppendsAnswer, is_of_text, SaysError, said, failed, refused, LacksSyntax}
use Rattle.uset_tool.proofs.Once.{not_both, sizes_once}
use Rattle.uset_tool.proofs.RunLemmas.{memory_refused, says_writes, no_fault_here, fault_or, one_command}

-- each range has a code point
pub length-le-sizes : (rs : List CodePointRange) → length rs ≤ sum_by range_size rs
length-le-sizes [] = omega arith
length-le-sizes (r ∷ rs) = omega (arith, sum_by-cons range_size r rs, length-le-sizes rs)

-- of a table text with a fault that is the one answer
one_fault_of_database : (n : ℕ) (input : List ℕ) (fault : TableError) → table_fault (lines input) ≡ Some fault → (t : List ℕ) (s : Status) → Generates n input t s → t ≡ table_fault_text fault
one_fault_of_database n input fault e _ _ (faulty_database other f) = ap table_fault_text (ap (λ o. fault_or fault o) (sym f ∙ e))
one_fault_of_database n input fault e _ _ (generated none text err answer) = absurd (no_fault_here _ fault none e)

-- why the table text gave no database was said
pub generate_error_writes : (n : ℕ) (input : List ℕ) (error : LoadError) (old new : Option (List ℕ)) (result : Status) → IsLoadFault (lines input) error → SaysError error old new result → AppendsAnswer (Generates n input) old new result
generate_error_writes n input (Table fault) old new result is h =
    says_writes (Generates n input) old new (table_fault_text fault) Tables result h (faulty_database fault is) (one_fault_of_database n input fault is) (λ k. k)
generate_error_writes n input LoadRefused old new result is (same, refused_is) = rw (same, refused_is) (memory_refused (Generates n input) old)

-- the laws by which the pattern has one answer
module _ (allowed : SetsAreAllowed) (one : OneAnswer) (one_list : OneListOfRanges) where
  one_sizes : (n : ℕ) (input : List ℕ) → table_fault (lines input) ≡ None → (text : List ℕ) (err : Bool) → SizesAnswer (language_of no_variables (tables_in (lines input))) (pattern_of n) text err →
      (t : List ℕ) (s : Status) → Generates n input t s → t ≡ text
  one_sizes n input none text err answer _ _ (faulty_database fault e) = absurd (no_fault_here _ fault none e)
  one_sizes n input none text err answer _ _ (generated same other is_err answer_too) =
      (sizes_once (one (tables_in (lines input)) (allowed (lines input) none) no_variables (chars (pattern_of n))) one_list other text is_err err answer_too answer).0

  -- the sizes or the fault were said
  pub sizes_write : (n : ℕ) (input : List ℕ) (tables : Members) (old new : Option (List ℕ)) (result : Status) → table_fault (lines input) ≡ None → tables ≡ tables_in (lines input) → SaysSizes tables n old new result → AppendsAnswer (Generates n input) old new result
  sizes_write n input tables old new result none same (inr (unchanged, refused_is)) = rw (unchanged, refused_is) (memory_refused (Generates n input) old)
  sizes_write n input tables old new result none same (inl (text, err, answer, h)) =
      let here : SizesAnswer (language_of no_variables (tables_in (lines input))) (pattern_of n) text err = subst (λ t. SizesAnswer (language_of no_variables t) (pattern_of n) text err) same answer in
      says_writes (Generates n input) old new text (cond err SomeErr Done) result h (generated none text err here) (one_sizes n input none text err here) (whole err)
    where
      whole : (e : Bool) → AppendsWhole (Generates n input) old new (cond e SomeErr Done) → AppendsAnswer (Generates n input) old new (cond e SomeErr Done)
      whole true k = k
      whole false k = k

marked_status : (err : Bool) → is_of_text (cond err SomeErr Done) ≡ true
marked_status true = refl
marked_status false = refl

pub sizes_status : (tables : Members) (n : ℕ) (old new : Option (List ℕ)) (result : Status) → SaysSizes tables n old new result → is_of_text result ≡ true
sizes_status tables n old new _ (inl (text, err, answer, said h)) = marked_status err
sizes_status tables n old new _ (inl (text, err, answer, failed h)) = refl
sizes_status tables n old new _ (inl (text, err, answer, refused h)) = refl
sizes_status tables n old new result (inr (unchanged, refused_is)) = ap is_of_text refused_is

-- The pattern has a fault only where a table of the syntax is absent.
module _ (law : GeneratedPatternsAreRead) (allowed : SetsAreAllowed) (one : OneAnswer) where
  fault_lacks : (n : ℕ) (tables : Members) → AreAllowed tables → {kind : Kind} {offset : Option ℕ} → IsFault (language_of no_variables tables) (chars (pattern_of n)) kind offset → language_of no_variables tables ≡ None
  fault_lacks n tables fine {kind} {offset} h = by (language_of no_variables tables) refl
    where
      by : (o : Option Language) → language_of no_variables tables ≡ o → language_of no_variables tables ≡ None
      by None e = e
      by (Some l) e =
          let (tree, reads) = law n tables fine l e [] in
          let here : Reads l (chars (pattern_of n)) tree [] = subst (λ t. Reads l t tree []) (append-nil (chars (pattern_of n))) reads in
          let (answer, is) = one tables fine no_variables (chars (pattern_of n)) in
          absurd (not_both answer is (subst (ReadsUnder (chars (pattern_of n)) tree []) (sym e) (under here)) h)

  sizes_lack : (n : ℕ) (tables : Members) → AreAllowed tables → (text : List ℕ) (err : Bool) → err ≡ true → SizesAnswer (language_of no_variables tables) (pattern_of n) text err → language_of no_variables tables ≡ None
  sizes_lack n tables fine _ _ is_err (measured k rs h place maximal) = absurd (false≢true is_err)
  sizes_lack n tables fine _ _ is_err (unread h) = fault_lacks n tables fine h

  is_marked : (err : Bool) → cond err SomeErr Done ≡ SomeErr → err ≡ true
  is_marked true h = refl
  is_marked false h = absurd (let k = h in cc)

  result_lacks : (n : ℕ) (input t : List ℕ) (s : Status) → s ≡ SomeErr → Generates n input t s → language_of no_variables (tables_in (lines input)) ≡ None
  result_lacks n input _ _ some (faulty_database fault e) = absurd (let k = some in cc)
  result_lacks n input _ _ some (generated none text err answer) =
      sizes_lack n (tables_in (lines input)) (allowed (lines input) none) text err (is_marked err some) answer

  answer_lacks : (words : List (List ℕ)) (input t : List ℕ) (s : Status) → s ≡ SomeErr → Answers words input t s → LacksSyntax words input
  answer_lacks words input _ _ some (usage unknown) = absurd (let k = some in cc)
  answer_lacks words input _ _ some (too_long known over) = absurd (let k = some in cc)
  answer_lacks words input _ _ some (not_text known within no_text) = absurd (let k = some in cc)
  answer_lacks words input t s some (evaluates command known within text h) = λ n is.
      result_lacks n input t s some (subst (λ c. Results c input t s) (one_command words command (generate n) known is) h)

  pub lacking_run : (words : List (List ℕ)) (left old new : Option (List ℕ)) (result : Status) →
      IfSome left (λ input. AppendsAnswer (Answers words input) old new result) → IfSome left (λ input. result ≡ SomeErr → LacksSyntax words input)
  lacking_run words None old new result h = tt
  lacking_run words (Some input) old new result h = λ some.
      let (text, answer, appended) = subst (AppendsAnswer (Answers words input) old new) some h in
      answer_lacks words input text SomeErr refl answer
