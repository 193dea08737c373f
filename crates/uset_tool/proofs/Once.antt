-- Each line has one answer.
use Rattle.std.proofs.Common.{◌≡◌, ℕ, Bool, false, ◌||◌, List, [], ◌∷◌, ◌++◌, refl, sym, ap, ap₂, ◌∙◌, subst, append_assoc, append-nil, length-append, Option, None, Some, IfSome, Ok, Err, arith}
use Rattle.std.proofs.lemmas.Bool.{both_ways}
use Rattle.std.specs.Str.{chars}
use Rattle.std.proofs.Math.Bool.{or_assoc, or-false}
use Rattle.cp_invlist.specs.Laws.{OneListOfRanges}
use Rattle.cp_strset.specs.Laws.{OneListOfStrings}
use Rattle.cp_invlist.specs.Ranges.{AreMaximalRanges}
use Rattle.prop_data.specs.Forbidden.{AreAllowed}
use Rattle.prop_data.specs.Laws.{SetsAreAllowed, SetsAreBounded}
use Rattle.prop_data.specs.Tables.{Tables}
use Rattle.uset_grammar.specs.Text.{Text}
use Rattle.uset_grammar.specs.Outcome.{Kind}
use Rattle.uset_grammar.specs.Tree.{Tree, point, string, has}
use Rattle.uset_grammar.specs.Language.{Language, set as set_value}
use Rattle.uset_grammar.specs.Place.{size}
use Rattle.uset_grammar.specs.Answers.{Answer, ReadsUnder, IsFault, IsAnswer}
use Rattle.uset_grammar.specs.Laws.{FiniteSets, RestsAreLast}
use Rattle.uset_resolve.specs.Laws.{SourcesAreBounded}
use Rattle.uset_parse.specs.Brackets.{BracketsAreAscii}
use Rattle.uset_reader.specs.Laws.{OneAnswer}
use Rattle.uset_reader.specs.Syntaxes.{language_of}
use Rattle.uset_tool.specs.declared.sink.WriteError.{WriteError}
use Rattle.uset_tool.specs.declared.sink.WriteError.TheVariants.{Failed, NoMemory}
use Rattle.uset_tool.specs.Answered.{StopsWithin, StopsGathering, Gathers, AnswersScript}
use Rattle.uset_tool.specs.Device.{Appends, IsProperFront, IsFront}
use Rattle.uset_tool.specs.Generated.{sizes_text, SizesAnswer, measured, unread}
use Rattle.uset_tool.specs.Script.{Definition, ScriptLine, silent, pattern, binding, bad, script_line}
use Rattle.uset_tool.specs.Answer.{Variables, with_binding, PatternAnswer, read, fault, read_text, fault_text, text_after_text, DefinitionAnswer, a_character, a_string, a_set, text_after, no_set, BindingAnswer, bound_before, free, LineAnswer, ScriptAnswer, ends, answers}

-- under these tables: the laws of the language, of maximal ranges and of lists of strings
pub record Laws (tables : Tables) : Type 0 where
  pub one_answer : (variables : Variables) (source : Text) → (a : Answer) × IsAnswer (language_of variables tables) source a
  pub one_list_of_ranges : OneListOfRanges
  pub one_list : OneListOfStrings

-- the same laws under all tables that a table text may mean, and those by which there is an answer
pub record RunLaws : Type 0 where
  pub one_answer : OneAnswer
  pub allowed_sets : SetsAreAllowed
  pub brackets_are_ascii : BracketsAreAscii
  pub bounded_sets : SetsAreBounded
  pub bounded_sources : SourcesAreBounded
  pub finite_sets : FiniteSets
  pub rests_are_last : RestsAreLast
  pub one_list_of_ranges : OneListOfRanges
  pub one_list : OneListOfStrings

pub laws_of : RunLaws → (tables : Tables) → AreAllowed tables → Laws tables
laws_of laws tables allowed = record {
  one_answer = λ variables source. laws.one_answer tables allowed variables source;
  one_list_of_ranges = laws.one_list_of_ranges;
  one_list = laws.one_list;
}

-- one source has one reading, one fault, and not both
one_reading : {l : Option Language} {source : Text} {tree other : Tree} {rest left : Text} (a : Answer) → IsAnswer l source a → ReadsUnder source tree rest l → ReadsUnder source other left l → (tree ≡ other) × (rest ≡ left)
one_reading {tree} {other} {rest} {left} a is h k =
    let first = (is.reads tree rest).1 h in
    let second = (is.reads other left).1 k in
    (cc, cc)

one_fault : {l : Option Language} {source : Text} {kind other : Kind} {offset place : Option ℕ} (a : Answer) → IsAnswer l source a → IsFault l source kind offset → IsFault l source other place → (kind ≡ other) × (offset ≡ place)
one_fault {kind} {other} {offset} {place} a is h k =
    let first = (is.faults kind offset).1 h in
    let second = (is.faults other place).1 k in
    (cc, cc)

pub not_both : {l : Option Language} {source : Text} {tree : Tree} {rest : Text} {kind : Kind} {offset : Option ℕ} (a : Answer) → IsAnswer l source a → ReadsUnder source tree rest l → IsFault l source kind offset → ⊥
not_both {tree} {rest} {kind} {offset} a is h k =
    let first = (is.reads tree rest).1 h in
    let second = (is.faults kind offset).1 k in
    cc

pattern_once : {tables : Tables} → Laws tables → (variables : Variables) (source a b : List ℕ) (e f : Bool) → PatternAnswer (language_of variables tables) source a e → PatternAnswer (language_of variables tables) source b f → (a ≡ b) × (e ≡ f)
pattern_once laws variables source _ _ _ _ (read {tree} {rest} n rs ss h place maximal strings) (read {tree = other} {rest = left} k qs ts h_too place_too maximal_too strings_too) =
    let (answer, is) = laws.one_answer variables (chars source) in
    let one = one_reading answer is h h_too in
    let same_n : n ≡ k = omega (arith, ap size one.1) in
    let same_ranges : rs ≡ qs = laws.one_list_of_ranges (λ c. has tree (point c)) rs qs maximal (subst (λ t. AreMaximalRanges (λ c. has t (point c)) qs) (sym one.0) maximal_too) in
    let same_strings : ss ≡ ts =
    laws.one_list ss ts strings.canonical strings_too.canonical
    (λ bytes. strings.holds_them bytes ∙ (ap (λ t. has t (string bytes)) one.0 ∙ sym (strings_too.holds_them bytes))) in
    (λ i. read_text (same_n i) (same_ranges i) (same_strings i), refl)
pattern_once laws variables source _ _ _ _ (read n rs ss h place maximal strings) (fault k) = let (answer, is) = laws.one_answer variables (chars source) in absurd (not_both answer is h k)
pattern_once laws variables source _ _ _ _ (fault k) (read n rs ss h place maximal strings) = let (answer, is) = laws.one_answer variables (chars source) in absurd (not_both answer is h k)
pattern_once laws variables source _ _ _ _ (fault h) (fault k) =
    let (answer, is) = laws.one_answer variables (chars source) in
    let one = one_fault answer is h k in
    (ap₂ (λ kind offset. fault_text kind offset source) one.0 one.1, refl)

-- a pattern that is measured has one answer
pub sizes_once : {l : Option Language} {source : List ℕ} → (a : Answer) × IsAnswer l (chars source) a → OneListOfRanges →
    (t u : List ℕ) (e f : Bool) → SizesAnswer l source t e → SizesAnswer l source u f → (t ≡ u) × (e ≡ f)
sizes_once (answer, is) one_list _ _ _ _ (measured {tree} {rest} n rs h place maximal) (measured {tree = other} {rest = left} k qs h_too place_too maximal_too) =
    let one = one_reading answer is h h_too in
    let same_n : n ≡ k = omega (arith, ap size one.1) in
    let same_ranges : rs ≡ qs = one_list (λ c. has tree (point c)) rs qs maximal (subst (λ t. AreMaximalRanges (λ c. has t (point c)) qs) (sym one.0) maximal_too) in
    (λ i. sizes_text (same_n i) (same_ranges i), refl)
sizes_once (answer, is) one_list _ _ _ _ (measured n rs h place maximal) (unread k) = absurd (not_both answer is h k)
sizes_once (answer, is) one_list _ _ _ _ (unread k) (measured n rs h place maximal) = absurd (not_both answer is h k)
sizes_once {source} (answer, is) one_list _ _ _ _ (unread h) (unread k) =
    let one = one_fault answer is h k in
    (ap₂ (λ kind offset. fault_text kind offset source) one.0 one.1, refl)

none_is_some : {c : ℕ} {t : Text} → [] ≡ c ∷ t → ⊥
none_is_some h = cc

definition_once : {tables : Tables} → Laws tables → (variables : Variables) (name : List ℕ) (d : Definition) (a b : List ℕ) (e f : Bool) (new other : Variables) →
    DefinitionAnswer tables variables name d a e new → DefinitionAnswer tables variables name d b f other → (a ≡ b) × (e ≡ f) × (new ≡ other)
definition_once laws variables name _ _ _ _ _ _ _ a_character a_character = (refl, refl, refl)
definition_once laws variables name _ _ _ _ _ _ _ a_string a_string = (refl, refl, refl)
definition_once laws variables name _ _ _ _ _ _ _ (a_set {source} h) (a_set k) =
    let (answer, is) = laws.one_answer variables (chars source) in
    (refl, refl, ap (λ t. with_binding name (set_value (has t)) variables) (one_reading answer is h k).0)
definition_once laws variables name _ _ _ _ _ _ _ (a_set {source} h) (text_after n k place) =
    let (answer, is) = laws.one_answer variables (chars source) in let one = one_reading answer is h k in absurd (none_is_some one.1)
definition_once laws variables name _ _ _ _ _ _ _ (a_set {source} h) (no_set k) = let (answer, is) = laws.one_answer variables (chars source) in absurd (not_both answer is h k)
definition_once laws variables name _ _ _ _ _ _ _ (text_after {source} n h place) (a_set k) =
    let (answer, is) = laws.one_answer variables (chars source) in let one = one_reading answer is k h in absurd (none_is_some one.1)
definition_once laws variables name _ _ _ _ _ _ _ (text_after {source} n h place) (text_after k h_too place_too) =
    let (answer, is) = laws.one_answer variables (chars source) in
    let same : n ≡ k = omega (arith, ap size (one_reading answer is h h_too).1) in
    (ap text_after_text same, refl, refl)
definition_once laws variables name _ _ _ _ _ _ _ (text_after {source} n h place) (no_set k) = let (answer, is) = laws.one_answer variables (chars source) in absurd (not_both answer is h k)
definition_once laws variables name _ _ _ _ _ _ _ (no_set {source} h) (a_set k) = let (answer, is) = laws.one_answer variables (chars source) in absurd (not_both answer is k h)
definition_once laws variables name _ _ _ _ _ _ _ (no_set {source} h) (text_after n k place) = let (answer, is) = laws.one_answer variables (chars source) in absurd (not_both answer is k h)
definition_once laws variables name _ _ _ _ _ _ _ (no_set {source} h) (no_set k) =
    let (answer, is) = laws.one_answer variables (chars source) in
    let one = one_fault answer is h k in
    (ap₂ (λ kind offset. fault_text kind offset source) one.0 one.1, refl, refl)

binding_once : {tables : Tables} → Laws tables → (variables : Variables) (name : List ℕ) (d : Definition) (a b : List ℕ) (e f : Bool) (new other : Variables) →
    BindingAnswer tables variables name d a e new → BindingAnswer tables variables name d b f other → (a ≡ b) × (e ≡ f) × (new ≡ other)
binding_once laws variables name d _ _ _ _ _ _ (bound_before h) (bound_before k) = (refl, refl, refl)
binding_once laws variables name d _ _ _ _ _ _ (bound_before h) (free k answer) = absurd (both_ways _ k h)
binding_once laws variables name d _ _ _ _ _ _ (free h answer) (bound_before k) = absurd (both_ways _ h k)
binding_once laws variables name d a b e f new other (free h answer) (free k answer_too) = definition_once laws variables name d a b e f new other answer answer_too

line_once : {tables : Tables} → Laws tables → (variables : Variables) (line : ScriptLine) (a b : List ℕ) (e f : Bool) (new other : Variables) →
    LineAnswer tables variables line a e new → LineAnswer tables variables line b f other → (a ≡ b) × (e ≡ f) × (new ≡ other)
line_once laws variables silent a b e f new other h k = (h.0 ∙ sym k.0, h.1 ∙ sym k.1, h.2 ∙ sym k.2)
line_once laws variables (pattern source) a b e f new other h k = let one = pattern_once laws variables source a b e f h.0 k.0 in (one.0, one.1, h.1 ∙ sym k.1)
line_once laws variables (binding name d) a b e f new other h k = binding_once laws variables name d a b e f new other h k
line_once laws variables bad a b e f new other h k = (h.0 ∙ sym k.0, h.1 ∙ sym k.1, h.2 ∙ sym k.2)

pub script_once : {tables : Tables} → Laws tables → (variables : Variables) (ls : List (List ℕ)) (a b : List ℕ) (e f : Bool) → ScriptAnswer tables variables ls a e → ScriptAnswer tables variables ls b f → (a ≡ b) × (e ≡ f)
script_once laws variables _ _ _ _ _ ends ends = (refl, refl)
script_once {tables} laws variables _ _ _ _ _ (answers {new} {line} {lines} first rest err errs h more) (answers {new = new_too} other left is_err are_errs k more_too) =
    let one = line_once laws variables (script_line line) first other err is_err new new_too h k in
    let two = script_once laws new lines rest left errs are_errs more (subst (λ v. ScriptAnswer tables v lines left are_errs) (sym one.2) more_too) in
    (λ i. one.0 i ++ two.0 i, λ i. one.1 i || two.1 i)

-- the answers to the first lines of a script, the variables behind them, and the lines to come
pub record SoFar (tables : Tables) (before : Variables) (all : List (List ℕ)) (variables : Variables) (rest : List (List ℕ)) (text : List ℕ) (errs : Bool) : Type 0 where
  pub joins : (more : List ℕ) (e : Bool) → ScriptAnswer tables variables rest more e → ScriptAnswer tables before all (text ++ more) (errs || e)
  pub splits : (whole : List ℕ) (e : Bool) → ScriptAnswer tables before all whole e → (more : List ℕ) × (more_errs : Bool) × ScriptAnswer tables variables rest more more_errs × (whole ≡ text ++ more)

pub begins : (tables : Tables) (before : Variables) (all : List (List ℕ)) → SoFar tables before all before all [] false
begins tables before all = record { joins = λ more e h. h; splits = λ whole e h. (whole, e, h, refl) }

-- what the answers to a line and to the lines behind it are made of
line_parts : {tables : Tables} → Laws tables → (variables new : Variables) (line : List ℕ) (lines : List (List ℕ)) (first whole : List ℕ) (err errs : Bool) →
    LineAnswer tables variables (script_line line) first err new → ScriptAnswer tables variables (line ∷ lines) whole errs →
    (more : List ℕ) × (more_errs : Bool) × ScriptAnswer tables new lines more more_errs × (whole ≡ first ++ more)
line_parts {tables} laws variables new line lines first _ err _ h (answers {new = other_new} other left is_err are_errs k more) =
    let one = line_once laws variables (script_line line) first other err is_err new other_new h k in
    (left, are_errs, subst (λ v. ScriptAnswer tables v lines left are_errs) (sym one.2) more, ap (λ t. t ++ left) (sym one.0))

-- one more line is answered
pub goes_on : {tables : Tables} → Laws tables → (before variables new : Variables) (all lines rest : List (List ℕ)) (line text first : List ℕ) (errs err : Bool) → SoFar tables before all variables lines text errs → lines ≡ line ∷ rest →
    LineAnswer tables variables (script_line line) first err new → SoFar tables before all new rest (text ++ first) (errs || err)
goes_on {tables} laws before variables new all lines rest line text first errs err at parts h = record {
  joins = λ more e k.
      let whole = at.joins (first ++ more) (err || e) (subst (λ ls. ScriptAnswer tables variables ls (first ++ more) (err || e)) (sym parts) (answers first more err e h k)) in
      let same_text = append_assoc text first more in
      let same_errs = sym (or_assoc errs err e) in
      subst (λ t. ScriptAnswer tables before all t ((errs || err) || e)) (sym same_text) (subst (λ b. ScriptAnswer tables before all (text ++ (first ++ more)) b) same_errs whole);
  splits = λ whole e k.
      let (more, more_errs, more_is, whole_is) = at.splits whole e k in
      let (left, left_errs, left_is, left_parts) = line_parts laws variables new line rest first more err more_errs h (subst (λ ls. ScriptAnswer tables variables ls more more_errs) parts more_is) in
      (left, left_errs, left_is, whole_is ∙ (ap (λ t. text ++ t) left_parts ∙ sym (append_assoc text first left)));
}

-- the answers to the first lines: what of them was written, and what is pending
pub record Holds (tables : Tables) (before : Variables) (all : List (List ℕ)) (variables : Variables) (rest : List (List ℕ)) (errs : Bool) (pending : List ℕ) (old now : Option (List ℕ)) : Type 0 where
  pub text : List ℕ
  pub written : List ℕ
  pub answered : SoFar tables before all variables rest text errs
  pub parts : text ≡ written ++ pending
  pub appended : Appends old now written

pub holds_none : (tables : Tables) (before : Variables) (all : List (List ℕ)) (old : Option (List ℕ)) → Holds tables before all before all false [] old old
holds_none tables before all None = record { text = []; written = []; answered = begins tables before all; parts = refl; appended = tt }
holds_none tables before all (Some told) = record { text = []; written = []; answered = begins tables before all; parts = refl; appended = ap Some (sym (append-nil told)) }

Appends-more : (old middle new : Option (List ℕ)) (first second : List ℕ) → Appends old middle first → Appends middle new second → Appends old new (first ++ second)
Appends-more None middle new first second a b = tt
Appends-more (Some before) middle new first second a b = (rw a at b) ∙ ap Some (append_assoc before first second)

-- one more line is answered, and gathered with what is pending
pub holds_more : {tables : Tables} → Laws tables → (before variables then_bound : Variables) (all lines rest : List (List ℕ)) (line first pending after : List ℕ) (errs err : Bool) (old middle new : Option (List ℕ)) →
    Holds tables before all variables lines errs pending old middle → lines ≡ line ∷ rest → LineAnswer tables variables (script_line line) first err then_bound → Gathers middle new pending first after →
    Holds tables before all then_bound rest (errs || err) after old new
holds_more laws before variables then_bound all lines rest line first pending after errs err old middle new held parts h gathered = record {
  text = held.text ++ first;
  written = held.written ++ gathered.written;
  answered = goes_on laws before variables then_bound all lines rest line held.text first errs err held.answered parts h;
  parts =
      ap (λ t. t ++ first) held.parts
      ∙ (append_assoc held.written pending first ∙ (ap (λ t. held.written ++ t) gathered.parts ∙ sym (append_assoc held.written gathered.written after)));
  appended = Appends-more old middle new held.written gathered.written held.appended gathered.appended;
}

-- what was written before, and a front of what was to be written then, are a front of the whole
Front-behind : (before written now first more text : List ℕ) → text ≡ written ++ (first ++ more) → IsProperFront (before ++ written) now first → IsProperFront before now text
Front-behind before written now first more text parts h = record {
  front = written ++ h.front;
  rest = h.rest ++ more;
  parts =
      parts ∙ (ap (λ t. written ++ (t ++ more)) h.parts ∙ (ap (λ t. written ++ t) (append_assoc h.front h.rest more) ∙ sym (append_assoc written h.front (h.rest ++ more))));
  proper = omega (arith, length-append h.rest more, h.proper);
  appended = h.appended ∙ append_assoc before written h.front;
}

Front-within : (before written now first more text : List ℕ) → text ≡ written ++ (first ++ more) → IsFront (before ++ written) now first → IsFront before now text
Front-within before written now first more text parts h = record {
  front = written ++ h.front;
  rest = h.rest ++ more;
  parts =
      parts ∙ (ap (λ t. written ++ (t ++ more)) h.parts ∙ (ap (λ t. written ++ t) (append_assoc h.front h.rest more) ∙ sym (append_assoc written h.front (h.rest ++ more))));
  appended = h.appended ∙ append_assoc before written h.front;
}

stops_behind : (e : WriteError) (before written now first more text : List ℕ) → text ≡ written ++ (first ++ more) → StopsWithin e (before ++ written) now first → StopsWithin e before now text
stops_behind Failed before written now first more text parts h = Front-behind before written now first more text parts h
stops_behind NoMemory before written now first more text parts h = Front-within before written now first more text parts h

proper_is_front : (e : WriteError) (before now text : List ℕ) → IsProperFront before now text → StopsWithin e before now text
proper_is_front Failed before now text h = h
proper_is_front NoMemory before now text h = record { front = h.front; rest = h.rest; parts = h.parts; appended = h.appended }

-- the writing of what is pending, and of an answer behind it, stopped
pub gathering_stops : {tables : Tables} → Laws tables → (start variables then_bound : Variables) (all lines rest : List (List ℕ)) (line first pending : List ℕ) (errs err : Bool) (old middle new : Option (List ℕ)) (e : WriteError) →
    Holds tables start all variables lines errs pending old middle → lines ≡ line ∷ rest → LineAnswer tables variables (script_line line) first err then_bound →
    StopsGathering middle new (pending ++ first) e → AnswersScript tables start all old new (Err e)
gathering_stops laws start variables then_bound all lines rest line first pending errs err None middle new e held parts h stopped = tt
gathering_stops {tables} laws start variables then_bound all lines rest line first pending errs err (Some before) middle new e held parts h stopped =
    let (now, new_is, front) = rw held.appended at stopped in (
      now,
      new_is,
      λ text es k.
          let (more, more_errs, more_is, text_is) = held.answered.splits text es k in
          let (left, left_errs, left_is, left_parts) = line_parts laws variables then_bound line rest first more err more_errs h (subst (λ ls. ScriptAnswer tables variables ls more more_errs) parts more_is) in
          let whole : text ≡ held.written ++ ((pending ++ first) ++ left) =
          text_is
          ∙ (ap (λ t. t ++ more) held.parts
          ∙ (append_assoc held.written pending more
          ∙ ap (λ t. held.written ++ t) (ap (λ t. pending ++ t) left_parts ∙ sym (append_assoc pending first left)))) in
          stops_behind e before held.written now (pending ++ first) left text whole front,
    )

-- memory was refused before a line was answered
pub answering_stops : (tables : Tables) (start variables : Variables) (all lines : List (List ℕ)) (pending : List ℕ) (errs : Bool) (old middle : Option (List ℕ)) →
    Holds tables start all variables lines errs pending old middle → AnswersScript tables start all old middle (Err NoMemory)
answering_stops tables start variables all lines pending errs None middle held = tt
answering_stops tables start variables all lines pending errs (Some before) middle held = (
  before ++ held.written,
  held.appended,
  λ text es k.
      let (more, more_errs, more_is, text_is) = held.answered.splits text es k in
      record {
        front = held.written;
        rest = pending ++ more;
        parts = text_is ∙ (ap (λ t. t ++ more) held.parts ∙ append_assoc held.written pending more);
        appended = refl;
      },
)

-- the writing of the last of the answers stopped
pub last_stops : (tables : Tables) (start variables : Variables) (all : List (List ℕ)) (pending : List ℕ) (errs : Bool) (old middle new : Option (List ℕ)) (e : WriteError) →
    Holds tables start all variables [] errs pending old middle → IfSome middle (λ told. (now : List ℕ) × (new ≡ Some now) × IsProperFront told now pending) → AnswersScript tables start all old new (Err e)
last_stops tables start variables all pending errs None middle new e held stopped = tt
last_stops tables start variables all pending errs (Some before) middle new e held stopped =
    let (now, new_is, front) = rw held.appended at stopped in (
      now,
      new_is,
      λ text es k.
          let (more, more_errs, more_is, text_is) = held.answered.splits text es k in
          let whole : text ≡ held.written ++ (pending ++ more) = text_is ∙ (ap (λ t. t ++ more) held.parts ∙ append_assoc held.written pending more) in
          proper_is_front e before now text (Front-behind before held.written now pending more text whole front),
    )

-- all lines are answered, and the last of the answers was written
pub all_answered : (tables : Tables) (start variables : Variables) (all : List (List ℕ)) (pending : List ℕ) (errs : Bool) (old middle new : Option (List ℕ)) → Holds tables start all variables [] errs pending old middle → Appends middle new pending →
    AnswersScript tables start all old new (Ok errs)
all_answered tables start variables all pending errs old middle new held written =
    let text = held.text in (
      text,
      subst (λ t. ScriptAnswer tables start all t errs) (append-nil text) (subst (λ b. ScriptAnswer tables start all (text ++ []) b) (or-false errs) (held.answered.joins [] false ends)),
      subst (λ t. Appends old new t) (sym held.parts) (Appends-more old middle new held.written pending held.appended written),
    )
