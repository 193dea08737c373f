-- What was appended to the sink, and the answers of the input.
use Rattle.std.proofs.Common.{◌≡◌, ℕ, ◌+◌, ◌<◌, ◌≤◌, Bool, true, false, List, [], length, drop, Option, None, Some, is_some, IfSome, inl, inr, refl, sym, ap, ◌∙◌, subst, append-nil, arith}
use Rattle.std.proofs.lemmas.Bool.{both_ways, false≢true, false_from_ne_true}
use Rattle.std.specs.Str.{is_utf8, IsUtf8}
use Rattle.std.proofs.lemmas.Str.{IsUtf8-from_is_utf8, is_utf8-from_IsUtf8}
use Rattle.prop_data.specs.declared.error.LoadError.{LoadError}
use Rattle.prop_data.specs.declared.error.LoadError.TheVariants.{Table, NoMemory as LoadRefused}
use Rattle.prop_data.specs.Database.{IsFault as IsLoadFault}
use Rattle.prop_data.specs.declared.error.TableError.{TableError}
use Rattle.prop_data.specs.Tables.{Tables as Members}
use Rattle.prop_data.specs.TableText.{table_fault, tables_in}
use Rattle.uset_tool.specs.declared.status.Status.{Status}
use Rattle.uset_tool.specs.declared.status.Status.TheVariants.{Done, SomeErr, Usage, Tables, ReadFault, WriteFault, NoMemory, NotText, TooLong}
use Rattle.uset_variables.specs.Variables.{no_variables}
use Rattle.std.specs.Str.Lines.{lines}
use Rattle.uset_tool.specs.Answer.{ScriptAnswer}
use Rattle.uset_tool.specs.Counts.{counts_text}
use Rattle.uset_tool.specs.Device.{limit, TakesAll, IsFront, IsProperFront}
use Rattle.uset_tool.specs.Words.{Command, command_of, is_known, table_fault_text, usage_text, not_text_text, too_long_text}
use Rattle.uset_tool.specs.Run.{table_lines, script_lines, Evaluates, faulty_tables, script, Counts, faulty_text, counted, Results, SaysCounts, Answers, usage, too_long, not_text, evaluates, AppendsWhole, AppendsAnswer, is_of_text, Says, SaysError, said, failed, refused, ScriptWrites}

-- nothing was appended yet of a text that has something
pub nothing_yet : (old : Option (List ℕ)) (text : List ℕ) → 0 < length text → IfSome old (λ before. (now : List ℕ) × (old ≡ Some now) × IsProperFront before now text)
nothing_yet None text some = tt
nothing_yet (Some before) text some =
    (before, refl, record { front = []; rest = text; parts = refl; proper = some; appended = sym (append-nil before) })

-- nothing was appended, and memory was refused
pub memory_refused : (A : List ℕ → Status → Type 0) (old : Option (List ℕ)) → AppendsAnswer A old old NoMemory
memory_refused A None = tt
memory_refused A (Some before) =
    (before, refl, λ text status h. record { front = []; rest = text; parts = refl; appended = sym (append-nil before) })

-- a text was said that is the one answer
pub says_writes : (A : List ℕ → Status → Type 0) (old new : Option (List ℕ)) (text : List ℕ) (wanted result : Status) → Says old new text wanted result → A text wanted →
    ((t : List ℕ) (s : Status) → A t s → t ≡ text) → (AppendsWhole A old new wanted → AppendsAnswer A old new wanted) → AppendsAnswer A old new result
says_writes A old new text wanted _ (said appended) answer one whole = whole (text, answer, appended)
says_writes A None new text wanted _ (failed stopped) answer one whole = tt
says_writes A None new text wanted _ (refused stopped) answer one whole = tt
says_writes A (Some before) new text wanted _ (failed stopped) answer one whole =
    let (now, new_is, front) = stopped in
    (now, new_is, λ t s h. subst (λ u. IsProperFront before now u) (sym (one t s h)) front)
says_writes A (Some before) new text wanted _ (refused stopped) answer one whole =
    let (now, new_is, front) = stopped in
    (now, new_is, λ t s h. subst (λ u. IsFront before now u) (sym (one t s h)) (record { front = front.front; rest = front.rest; parts = front.parts; appended = front.appended }))

pub no_fault_here : (o : Option TableError) (fault : TableError) → o ≡ None → o ≡ Some fault → ⊥
no_fault_here o fault none e = cc

abbrev pub fault_or : TableError → Option TableError → TableError
fault_or d None = d
fault_or d (Some fault) = fault

-- of a text with a faulty table text the fault is the one answer
one_fault_text : (input : List ℕ) (fault : TableError) → table_fault (table_lines input) ≡ Some fault → (t : List ℕ) (s : Status) → Evaluates input t s → t ≡ table_fault_text fault
one_fault_text input fault e _ _ (faulty_tables other f) =
    ap table_fault_text (ap (λ o. fault_or fault o) (sym f ∙ e))
one_fault_text input fault e t _ (script none _ errs answer) = absurd (no_fault_here _ fault none e)

-- what holds of each answer of the script holds of each answer of the input
script_stops : (input : List ℕ) (tables : Members) (ls : List (List ℕ)) → table_fault (table_lines input) ≡ None → tables ≡ tables_in (table_lines input) → ls ≡ script_lines input →
    (t : List ℕ) (s : Status) (P : List ℕ → Type 0) → ((text : List ℕ) (errs : Bool) → ScriptAnswer tables no_variables ls text errs → P text) → Evaluates input t s → P t
script_stops input tables ls none same_tables same_lines _ _ P stops (faulty_tables fault e) = absurd (no_fault_here _ fault none e)
script_stops input tables ls none same_tables same_lines t _ P stops (script _ _ errs answer) = stops t errs (rw (same_tables, same_lines) answer)

-- a script that has these tables and lines was answered
pub script_writes : (input : List ℕ) (tables : Members) (ls : List (List ℕ)) (old new : Option (List ℕ)) (status : Status) → table_fault (table_lines input) ≡ None → tables ≡ tables_in (table_lines input) → ls ≡ script_lines input →
    ScriptWrites tables ls old new status → AppendsAnswer (Evaluates input) old new status
script_writes input tables ls old new Done none same_tables same_lines (text, answer, appended) =
    (text, script none text false (rw (← same_tables, ← same_lines) answer), appended)
script_writes input tables ls old new SomeErr none same_tables same_lines (text, answer, appended) =
    (text, script none text true (rw (← same_tables, ← same_lines) answer), appended)
script_writes input tables ls None new WriteFault none same_tables same_lines h = tt
script_writes input tables ls (Some before) new WriteFault none same_tables same_lines (now, new_is, stops) =
    (now, new_is, λ t s h. script_stops input tables ls none same_tables same_lines t s (λ text. IsProperFront before now text) stops h)
script_writes input tables ls None new NoMemory none same_tables same_lines h = tt
script_writes input tables ls (Some before) new NoMemory none same_tables same_lines (now, new_is, stops) =
    (now, new_is, λ t s h. script_stops input tables ls none same_tables same_lines t s (λ text. IsFront before now text) stops h)
script_writes input tables ls old new Usage none same_tables same_lines h = absurd h
script_writes input tables ls old new Tables none same_tables same_lines h = absurd h
script_writes input tables ls old new ReadFault none same_tables same_lines h = absurd h
script_writes input tables ls old new NotText none same_tables same_lines h = absurd h
script_writes input tables ls old new TooLong none same_tables same_lines h = absurd h

-- the words of a command are known
pub of_command : (words : List (List ℕ)) (command : Command) → command_of words ≡ Some command → is_known words ≡ true
of_command words command h = ap is_some h

pub one_command : (words : List (List ℕ)) (command other : Command) → command_of words ≡ Some command → command_of words ≡ Some other → command ≡ other
one_command words command other h k = cc

evaluated : (words : List (List ℕ)) (command : Command) (input t : List ℕ) (s : Status) → command_of words ≡ Some command → length input ≤ limit → is_utf8 input ≡ true → Answers words input t s → Results command input t s
evaluated words command input _ _ known within text (usage unknown) = absurd (both_ways _ unknown (of_command words command known))
evaluated words command input _ _ known within text (too_long h over) = absurd (omega (arith, over, within))
evaluated words command input _ _ known within text (not_text h k no_text) = absurd (both_ways _ no_text text)
evaluated words command input t s known within text (evaluates other h k l answer) = subst (λ c. Results c input t s) (one_command words other command h known) answer

-- the answers of an input that is text are those of its command
pub eval_writes : (words : List (List ℕ)) (command : Command) (input : List ℕ) (old new : Option (List ℕ)) (status : Status) → command_of words ≡ Some command → length input ≤ limit → is_utf8 input ≡ true → is_of_text status ≡ true →
    AppendsAnswer (Results command input) old new status → AppendsAnswer (Answers words input) old new status
eval_writes words command input old new Done known within text of_text (t, answer, appended) = (t, evaluates command known within text answer, appended)
eval_writes words command input old new SomeErr known within text of_text (t, answer, appended) = (t, evaluates command known within text answer, appended)
eval_writes words command input old new Tables known within text of_text (t, answer, appended) = (t, evaluates command known within text answer, appended)
eval_writes words command input None new WriteFault known within text of_text h = tt
eval_writes words command input (Some before) new WriteFault known within text of_text (now, new_is, stops) = (now, new_is, λ t s h. stops t s (evaluated words command input t s known within text h))
eval_writes words command input None new NoMemory known within text of_text h = tt
eval_writes words command input (Some before) new NoMemory known within text of_text (now, new_is, stops) = (now, new_is, λ t s h. stops t s (evaluated words command input t s known within text h))
eval_writes words command input old new Usage known within text of_text h = absurd (false≢true of_text)
eval_writes words command input old new ReadFault known within text of_text h = absurd (false≢true of_text)
eval_writes words command input old new NotText known within text of_text h = absurd (false≢true of_text)
eval_writes words command input old new TooLong known within text of_text h = absurd (false≢true of_text)

-- the one answer to words that are no known list, to an input that is too long, and to one that is no text
pub one_usage : (words : List (List ℕ)) (input : List ℕ) → is_known words ≡ false → (t : List ℕ) (s : Status) → Answers words input t s → t ≡ usage_text
one_usage words input unknown _ _ (usage h) = refl
one_usage words input unknown _ _ (too_long known h) = absurd (both_ways _ unknown known)
one_usage words input unknown _ _ (not_text known within h) = absurd (both_ways _ unknown known)
one_usage words input unknown _ _ (evaluates command known within text h) = absurd (both_ways _ unknown (of_command words command known))

pub one_too_long : (words : List (List ℕ)) (input : List ℕ) → is_known words ≡ true → limit < length input → (t : List ℕ) (s : Status) → Answers words input t s → t ≡ too_long_text
one_too_long words input known over _ _ (usage unknown) = absurd (both_ways _ unknown known)
one_too_long words input known over _ _ (too_long h k) = refl
one_too_long words input known over _ _ (not_text h within k) = absurd (omega (arith, over, within))
one_too_long words input known over _ _ (evaluates command h within text k) = absurd (omega (arith, over, within))

pub one_not_text : (words : List (List ℕ)) (input : List ℕ) → is_known words ≡ true → length input ≤ limit → is_utf8 input ≡ false → (t : List ℕ) (s : Status) → Answers words input t s → t ≡ not_text_text
one_not_text words input known within no_text _ _ (usage unknown) = absurd (both_ways _ unknown known)
one_not_text words input known within no_text _ _ (too_long h over) = absurd (omega (arith, over, within))
one_not_text words input known within no_text _ _ (not_text h k l) = refl
one_not_text words input known within no_text _ _ (evaluates command h k text l) = absurd (both_ways _ no_text text)

-- the runs that say one text, and those that answer an input, whatever the source tells
pub usage_run : (words : List (List ℕ)) (left old new : Option (List ℕ)) (result : Status) → is_known words ≡ false → Says old new usage_text Usage result → IfSome left (λ input. AppendsAnswer (Answers words input) old new result)
usage_run words None old new result unknown h = tt
usage_run words (Some input) old new result unknown h =
    says_writes (Answers words input) old new usage_text Usage result h (usage unknown) (one_usage words input unknown) (λ k. k)

pub too_long_run : (words : List (List ℕ)) (left rest old new : Option (List ℕ)) (result : Status) → is_known words ≡ true → IfSome left (λ bytes. (limit < length bytes) × (rest ≡ Some (drop (limit + 1) bytes))) →
    Says old new too_long_text TooLong result → IfSome left (λ input. AppendsAnswer (Answers words input) old new result)
too_long_run words None rest old new result known over h = tt
too_long_run words (Some input) rest old new result known over h =
    says_writes (Answers words input) old new too_long_text TooLong result h (too_long known over.0) (one_too_long words input known over.0) (λ k. k)

pub not_text_run : (words : List (List ℕ)) (left rest old new : Option (List ℕ)) (bytes : List ℕ) (result : Status) → is_known words ≡ true → TakesAll left rest bytes → length bytes ≤ limit → (IsUtf8 bytes → ⊥) →
    Says old new not_text_text NotText result → IfSome left (λ input. AppendsAnswer (Answers words input) old new result)
not_text_run words None rest old new bytes result known taken within no_text h = tt
not_text_run words (Some input) rest old new bytes result known taken within no_text h =
    let here : is_utf8 input ≡ false = ap is_utf8 taken.0 ∙ false_from_ne_true (is_utf8 bytes) (λ e. no_text (IsUtf8-from_is_utf8 bytes e)) in
    let short : length input ≤ limit = omega (arith, ap length taken.0, within) in
    says_writes (Answers words input) old new not_text_text NotText result h (not_text known short here) (one_not_text words input known short here) (λ k. k)

pub text_run : (words : List (List ℕ)) (command : Command) (left rest old new : Option (List ℕ)) (bytes text : List ℕ) (result : Status) → command_of words ≡ Some command → TakesAll left rest bytes → length bytes ≤ limit → text ≡ bytes → IsUtf8 bytes →
    is_of_text result ≡ true → AppendsAnswer (Results command text) old new result → IfSome left (λ input. AppendsAnswer (Answers words input) old new result)
text_run words command None rest old new bytes text result known taken within same is_text of_text h = tt
text_run words command (Some input) rest old new bytes text result known taken within same is_text of_text h =
    let all : text ≡ input = same ∙ sym taken.0 in
    let here : is_utf8 input ≡ true = ap is_utf8 taken.0 ∙ is_utf8-from_IsUtf8 bytes is_text in
    let short : length input ≤ limit = omega (arith, ap length taken.0, within) in
    eval_writes words command input old new result known short here of_text (subst (λ t. AppendsAnswer (Results command t) old new result) all h)

-- why the table text gave no database was said
pub load_error_writes : (input : List ℕ) (error : LoadError) (old new : Option (List ℕ)) (result : Status) → IsLoadFault (table_lines input) error → SaysError error old new result → AppendsAnswer (Evaluates input) old new result
load_error_writes input (Table fault) old new result is h =
    says_writes (Evaluates input) old new (table_fault_text fault) Tables result h (faulty_tables fault is) (one_fault_text input fault is) (λ k. k)
load_error_writes input LoadRefused old new result is (same, refused_is) = rw (same, refused_is) (memory_refused (Evaluates input) old)

-- of a table text with a fault that is the one answer
one_fault_of_text : (input : List ℕ) (fault : TableError) → table_fault (lines input) ≡ Some fault → (t : List ℕ) (s : Status) → Counts input t s → t ≡ table_fault_text fault
one_fault_of_text input fault e _ _ (faulty_text other f) = ap table_fault_text (ap (λ o. fault_or fault o) (sym f ∙ e))
one_fault_of_text input fault e _ _ (counted none) = absurd (no_fault_here _ fault none e)

one_count : (input : List ℕ) → table_fault (lines input) ≡ None → (t : List ℕ) (s : Status) → Counts input t s → t ≡ counts_text (tables_in (lines input))
one_count input none _ _ (faulty_text fault e) = absurd (no_fault_here _ fault none e)
one_count input none _ _ (counted same) = refl

-- why a table text alone gave no database was said
pub count_error_writes : (input : List ℕ) (error : LoadError) (old new : Option (List ℕ)) (result : Status) → IsLoadFault (lines input) error → SaysError error old new result → AppendsAnswer (Counts input) old new result
count_error_writes input (Table fault) old new result is h =
    says_writes (Counts input) old new (table_fault_text fault) Tables result h (faulty_text fault is) (one_fault_of_text input fault is) (λ k. k)
count_error_writes input LoadRefused old new result is (same, refused_is) = rw (same, refused_is) (memory_refused (Counts input) old)

-- its tables were counted
pub counts_write : (input : List ℕ) (tables : Members) (old new : Option (List ℕ)) (result : Status) → table_fault (lines input) ≡ None → tables ≡ tables_in (lines input) → SaysCounts tables old new result → AppendsAnswer (Counts input) old new result
counts_write input tables old new result none same (inl h) =
    says_writes (Counts input) old new (counts_text (tables_in (lines input))) Done result (subst (λ t. Says old new (counts_text t) Done result) same h) (counted none) (one_count input none) (λ k. k)
counts_write input tables old new result none same (inr (unchanged, refused_is)) = rw (unchanged, refused_is) (memory_refused (Counts input) old)

pub counts_status : (tables : Members) (old new : Option (List ℕ)) (result : Status) → SaysCounts tables old new result → is_of_text result ≡ true
counts_status tables old new _ (inl (said h)) = refl
counts_status tables old new _ (inl (failed h)) = refl
counts_status tables old new _ (inl (refused h)) = refl
counts_status tables old new result (inr (unchanged, refused_is)) = ap is_of_text refused_is
