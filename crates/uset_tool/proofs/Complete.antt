-- An input has one answer, and without a fault of source or sink the status is its, or memory was refused.
use Rattle.std.proofs.Common.{◌≡◌, ℕ, Bool, true, false, cond, List, ◌++◌, Option, None, Some, IfSome, refl, ap, subst, inl, inr, arith}
use Rattle.std.proofs.lemmas.Bool.{both_ways}
use Rattle.std.specs.Str.{chars}
use Rattle.std.specs.Str.Lines.{lines}
use Rattle.prop_data.specs.TableText.{table_fault, tables_in}
use Rattle.uset_tool.specs.Words.{Command, evaluate, count_tables, generate, table_fault_text}
use Rattle.uset_variables.specs.Variables.{no_variables}
use Rattle.uset_tool.specs.declared.status.Status.{Status}
use Rattle.uset_tool.specs.declared.status.Status.TheVariants.{Done, SomeErr, Usage, Tables, ReadFault, WriteFault, NoMemory, NotText, TooLong}
use Rattle.uset_tool.specs.Device.{Rose, NoFault}
use Rattle.uset_tool.specs.Generated.{pattern_of}
use Rattle.uset_tool.specs.Run.{table_lines, script_lines, text_lines, Evaluates, faulty_tables, script, Counts, faulty_text, counted, Generates, faulty_database, generated, Results, Answers, usage, too_long, not_text, evaluates, IsWhole, IsWritten, Writes, AppendsWhole, AppendsAnswer, HasStatus, IsSettled, IsAccepted, IsAnswered}
use Rattle.uset_tool.specs.Laws.{OneAnswer}
use Rattle.uset_tool.proofs.Existence.{answer_exists}
use Rattle.uset_tool.proofs.Once.{RunLaws, laws_of, script_once, sizes_once}
use Rattle.uset_tool.proofs.RunLemmas.{no_fault_here, of_command, one_command}

evaluated_once : RunLaws → (input t u : List ℕ) (r s : Status) → Evaluates input t r → Evaluates input u s → (t ≡ u) × (r ≡ s)
evaluated_once laws input _ _ _ _ (faulty_tables fault e) (faulty_tables other f) = let same : fault ≡ other = cc in (ap table_fault_text same, refl)
evaluated_once laws input _ _ _ _ (faulty_tables fault e) (script none text errs answer) = absurd (no_fault_here _ fault none e)
evaluated_once laws input _ _ _ _ (script none text errs answer) (faulty_tables fault e) = absurd (no_fault_here _ fault none e)
evaluated_once laws input _ _ _ _ (script none text errs answer) (script none_too other are_errs answer_too) =
    let once = script_once (laws_of laws (tables_in (table_lines input)) (laws.allowed_sets (table_lines input) none)) no_variables (script_lines input) text other errs are_errs answer answer_too in
    (once.0, ap (λ b. cond b SomeErr Done) once.1)

counted_once : (input t u : List ℕ) (r s : Status) → Counts input t r → Counts input u s → (t ≡ u) × (r ≡ s)
counted_once input _ _ _ _ (faulty_text fault e) (faulty_text other f) = let same : fault ≡ other = cc in (ap table_fault_text same, refl)
counted_once input _ _ _ _ (faulty_text fault e) (counted none) = absurd (no_fault_here _ fault none e)
counted_once input _ _ _ _ (counted none) (faulty_text fault e) = absurd (no_fault_here _ fault none e)
counted_once input _ _ _ _ (counted none) (counted same) = (refl, refl)

generated_once : RunLaws → (n : ℕ) (input t u : List ℕ) (r s : Status) → Generates n input t r → Generates n input u s → (t ≡ u) × (r ≡ s)
generated_once laws n input _ _ _ _ (faulty_database fault e) (faulty_database other f) = let same : fault ≡ other = cc in (ap table_fault_text same, refl)
generated_once laws n input _ _ _ _ (faulty_database fault e) (generated none text err answer) = absurd (no_fault_here _ fault none e)
generated_once laws n input _ _ _ _ (generated none text err answer) (faulty_database fault e) = absurd (no_fault_here _ fault none e)
generated_once laws n input _ _ _ _ (generated none text err answer) (generated none_too other is_err answer_too) =
    let one = laws.one_answer (tables_in (lines input)) (laws.allowed_sets (lines input) none) no_variables (chars (pattern_of n)) in
    let once = sizes_once one laws.one_list_of_ranges text other err is_err answer answer_too in
    (once.0, ap (λ b. cond b SomeErr Done) once.1)

result_once : RunLaws → (command : Command) (input t u : List ℕ) (r s : Status) → Results command input t r → Results command input u s → (t ≡ u) × (r ≡ s)
result_once laws evaluate input t u r s h k = evaluated_once laws input t u r s h k
result_once laws count_tables input t u r s h k = counted_once input t u r s h k
result_once laws (generate n) input t u r s h k = generated_once laws n input t u r s h k

answered_once : RunLaws → (words : List (List ℕ)) (input t u : List ℕ) (r s : Status) → Answers words input t r → Answers words input u s → (t ≡ u) × (r ≡ s)
answered_once laws words input _ _ _ _ (usage a) (usage b) = (refl, refl)
answered_once laws words input _ _ _ _ (usage a) (too_long known b) = absurd (both_ways _ a known)
answered_once laws words input _ _ _ _ (usage a) (not_text known b c) = absurd (both_ways _ a known)
answered_once laws words input _ _ _ _ (usage a) (evaluates command known b c d) = absurd (both_ways _ a (of_command words command known))
answered_once laws words input _ _ _ _ (too_long known over) (usage b) = absurd (both_ways _ b known)
answered_once laws words input _ _ _ _ (too_long known over) (too_long b c) = (refl, refl)
answered_once laws words input _ _ _ _ (too_long known over) (not_text b within c) = absurd (omega (arith, over, within))
answered_once laws words input _ _ _ _ (too_long known over) (evaluates command b within c d) = absurd (omega (arith, over, within))
answered_once laws words input _ _ _ _ (not_text known within no_text) (usage b) = absurd (both_ways _ b known)
answered_once laws words input _ _ _ _ (not_text known within no_text) (too_long b over) = absurd (omega (arith, over, within))
answered_once laws words input _ _ _ _ (not_text known within no_text) (not_text b c d) = (refl, refl)
answered_once laws words input _ _ _ _ (not_text known within no_text) (evaluates command b c text d) = absurd (both_ways _ no_text text)
answered_once laws words input _ _ _ _ (evaluates command known within text h) (usage b) = absurd (both_ways _ b (of_command words command known))
answered_once laws words input _ _ _ _ (evaluates command known within text h) (too_long b over) = absurd (omega (arith, over, within))
answered_once laws words input _ _ _ _ (evaluates command known within text h) (not_text b c no_text) = absurd (both_ways _ no_text text)
answered_once laws words input t u r s (evaluates command known within text h) (evaluates other b c d k) =
    result_once laws command input t u r s h (subst (λ o. Results o input u s) (one_command words other command b known) k)

-- an input has one answer, and no other
pub one_answer_law : RunLaws → OneAnswer
one_answer_law laws = λ words input.
    let (text, status, answer) = answer_exists laws words input in
    (text, status, answer, λ other s h. answered_once laws words input other text s status h answer)

-- a status of an answer is that of the answer
has_status : (A : List ℕ → Status → Type 0) (old new : Option (List ℕ)) (result : Status) → AppendsAnswer A old new result → HasStatus A result
has_status A old new Done (text, answer, appended) = (text, answer)
has_status A old new SomeErr (text, answer, appended) = (text, answer)
has_status A old new Usage (text, answer, appended) = (text, answer)
has_status A old new Tables (text, answer, appended) = (text, answer)
has_status A old new NotText (text, answer, appended) = (text, answer)
has_status A old new TooLong (text, answer, appended) = (text, answer)
has_status A old new ReadFault h = tt
has_status A old new WriteFault h = tt
has_status A old new NoMemory h = tt

-- a whole answer has its status
whole_settles : (words : List (List ℕ)) (input : List ℕ) (old new : Option (List ℕ)) (result : Status) → AppendsWhole (Answers words input) old new result → IsSettled (Answers words input) result
whole_settles words input old new result (t, answer, appended) = (t, result, answer, inl refl)

settled : OneAnswer → (words : List (List ℕ)) (input : List ℕ) (old new : Option (List ℕ)) (result : Status) → (result ≡ ReadFault → ⊥) → (result ≡ WriteFault → ⊥) → AppendsAnswer (Answers words input) old new result → IsSettled (Answers words input) result
settled one words input old new Done no_read no_write h = whole_settles words input old new Done h
settled one words input old new SomeErr no_read no_write h = whole_settles words input old new SomeErr h
settled one words input old new Usage no_read no_write h = whole_settles words input old new Usage h
settled one words input old new Tables no_read no_write h = whole_settles words input old new Tables h
settled one words input old new NotText no_read no_write h = whole_settles words input old new NotText h
settled one words input old new TooLong no_read no_write h = whole_settles words input old new TooLong h
settled one words input old new ReadFault no_read no_write h = absurd (no_read refl)
settled one words input old new WriteFault no_read no_write h = absurd (no_write refl)
settled one words input old new NoMemory no_read no_write h = let (text, status, answer, only) = one words input in (text, status, answer, inr refl)

script_status : (errs : Bool) → IsAnswered (cond errs SomeErr Done)
script_status true = inr (inl refl)
script_status false = inl refl

result_status : (command : Command) (input t : List ℕ) (s : Status) → table_fault (text_lines command input) ≡ None → Results command input t s → IsAnswered s
result_status evaluate input _ _ fine (faulty_tables fault e) = absurd (no_fault_here _ fault fine e)
result_status evaluate input _ _ fine (script none text errs answer) = script_status errs
result_status count_tables input _ _ fine (faulty_text fault e) = absurd (no_fault_here _ fault fine e)
result_status count_tables input _ _ fine (counted none) = inl refl
result_status (generate n) input _ _ fine (faulty_database fault e) = absurd (no_fault_here _ fault fine e)
result_status (generate n) input _ _ fine (generated none text err answer) = script_status err

accepted_status : (words : List (List ℕ)) (input t : List ℕ) (s : Status) → IsAccepted words input → Answers words input t s → IsAnswered s
accepted_status words input _ _ ok (usage b) = absurd (both_ways _ b (of_command words ok.command ok.known))
accepted_status words input _ _ ok (too_long b over) = absurd (omega (arith, over, ok.within))
accepted_status words input _ _ ok (not_text b c no_text) = absurd (both_ways _ no_text ok.text)
accepted_status words input t s ok (evaluates command b c d h) =
    result_status ok.command input t s ok.tables (subst (λ o. Results o input t s) (one_command words command ok.command b ok.known) h)

complete : (words : List (List ℕ)) (input : List ℕ) (old new : Option (List ℕ)) (result : Status) → (result ≡ ReadFault → ⊥) → (result ≡ WriteFault → ⊥) → IsAccepted words input → AppendsAnswer (Answers words input) old new result → IsAnswered result
complete words input old new Done no_read no_write ok (t, answer, appended) = accepted_status words input t Done ok answer
complete words input old new SomeErr no_read no_write ok (t, answer, appended) = accepted_status words input t SomeErr ok answer
complete words input old new Usage no_read no_write ok (t, answer, appended) = accepted_status words input t Usage ok answer
complete words input old new Tables no_read no_write ok (t, answer, appended) = accepted_status words input t Tables ok answer
complete words input old new NotText no_read no_write ok (t, answer, appended) = accepted_status words input t NotText ok answer
complete words input old new TooLong no_read no_write ok (t, answer, appended) = accepted_status words input t TooLong ok answer
complete words input old new ReadFault no_read no_write ok h = absurd (no_read refl)
complete words input old new WriteFault no_read no_write ok h = absurd (no_write refl)
complete words input old new NoMemory no_read no_write ok h = inr (inr refl)

-- a whole answer is one that was written, where the sink tells what was
whole_writes : (A : List ℕ → Status → Type 0) (old new : Option (List ℕ)) (status : Status) → ((before now : List ℕ) → IsWhole A before now status → IsWritten A before now status) → AppendsWhole A old new status → Writes A old new status
whole_writes A None new status whole h = tt
whole_writes A (Some before) new status whole (text, answer, appended) = (before ++ text, appended, whole before (before ++ text) (text, answer, refl))

answer_writes : (A : List ℕ → Status → Type 0) (old new : Option (List ℕ)) (status : Status) → AppendsAnswer A old new status → Writes A old new status
answer_writes A old new Done h = whole_writes A old new Done (λ before now k. k) h
answer_writes A old new SomeErr h = whole_writes A old new SomeErr (λ before now k. k) h
answer_writes A old new Usage h = whole_writes A old new Usage (λ before now k. k) h
answer_writes A old new Tables h = whole_writes A old new Tables (λ before now k. k) h
answer_writes A old new NotText h = whole_writes A old new NotText (λ before now k. k) h
answer_writes A old new TooLong h = whole_writes A old new TooLong (λ before now k. k) h
answer_writes A old new ReadFault h = h
answer_writes A old new WriteFault h = h
answer_writes A old new NoMemory h = h

-- the same, whatever source and sink tell
pub written_run : (words : List (List ℕ)) (left old new : Option (List ℕ)) (result : Status) →
    IfSome left (λ input. AppendsAnswer (Answers words input) old new result) → IfSome left (λ input. Writes (Answers words input) old new result)
written_run words None old new result h = tt
written_run words (Some input) old new result h = answer_writes (Answers words input) old new result h

pub status_run : (words : List (List ℕ)) (left old new : Option (List ℕ)) (result : Status) →
    IfSome left (λ input. AppendsAnswer (Answers words input) old new result) → IfSome left (λ input. HasStatus (Answers words input) result)
status_run words None old new result h = tt
status_run words (Some input) old new result h = has_status (Answers words input) old new result h

pub settled_run : OneAnswer → (words : List (List ℕ)) (left old new : Option (List ℕ)) (result : Status) (a b c d : ℕ) → (result ≡ ReadFault → Rose a b) → (result ≡ WriteFault → Rose c d) →
    IfSome left (λ input. AppendsAnswer (Answers words input) old new result) →
    IfSome left (λ input. NoFault a b → NoFault c d → IsSettled (Answers words input) result)
settled_run one words None old new result a b c d read write h = tt
settled_run one words (Some input) old new result a b c d read write h =
    λ no_read no_write. settled one words input old new result (λ e. no_read (read e)) (λ e. no_write (write e)) h

pub complete_run : (words : List (List ℕ)) (left old new : Option (List ℕ)) (result : Status) (a b c d : ℕ) → (result ≡ ReadFault → Rose a b) → (result ≡ WriteFault → Rose c d) →
    IfSome left (λ input. AppendsAnswer (Answers words input) old new result) →
    IfSome left (λ input. NoFault a b → NoFault c d → IsAccepted words input → IsAnswered result)
complete_run words None old new result a b c d read write h = tt
complete_run words (Some input) old new result a b c d read write h =
    λ no_read no_write ok. complete words input old new result (λ e. no_read (read e)) (λ e. no_write (write e)) ok h
