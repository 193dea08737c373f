-- Each input has an answer.
use mathlib.Core.Logic.{◌⊎◌}
use Rattle.std.proofs.Common.{inl, inr, ◌≡◌, ℕ, ◌+◌, ◌<◌, ◌≤◌, Bool, true, false, cond, ◌&&◌, ◌||◌, ◌==◌, nat_lt, nat_le, List, [], ◌∷◌, ◌++◌, length, encode_utf8_all, codes, option_map, option_and_then, is_some, Option, Some, None, refl, sym, ap, ◌∙◌, subst, arith}
use Rattle.std.proofs.lemmas.Bool.{cases_Bool, cases_lt, eqb-true, and_parts}
use Rattle.std.proofs.lemmas.Bool.Decides.{nat_tests}
use Rattle.std.proofs.lemmas.List.{length-append}
use Rattle.std.proofs.lemmas.Str.{encodes-append, encodes-chars, scalars-chars, IsUtf8-from_is_utf8, IsUtf8-from_ascii}
use Rattle.std.specs.List.{list_all}
use Rattle.std.specs.Str.{IsUtf8, is_utf8, chars, all_scalars, bytes_eq}
use lib.Utf8.{scalar}
use Rattle.std.specs.Str.Lines.{lines}
use Rattle.text_lines.specs.Numbers.{hex}
use Rattle.prop_data.specs.declared.error.TableError.{TableError}
use Rattle.prop_data.specs.Forbidden.{AreAllowed}
use Rattle.prop_data.specs.Tables.{Tables}
use Rattle.prop_data.specs.TableText.{table_fault, tables_in}
use Rattle.uset_grammar.specs.Text.{Text, ◌>>=◌}
use Rattle.uset_grammar.specs.Tree.{Tree, point, string, has}
use Rattle.uset_grammar.specs.Place.{size}
use Rattle.uset_grammar.specs.Finite.{IsBounded, IsFinite, IsFiniteValue, IsFiniteLanguage}
use Rattle.uset_grammar.specs.Language.{Value, character, set as set_value, Language}
use Rattle.uset_grammar.specs.Answers.{Answer, read as reading, refused, ReadsUnder, under, IsAnswer}
use Rattle.uset_resolve.specs.Laws.{SourcesAreBounded}
use Rattle.uset_reader.specs.Syntaxes.{language_by, language_of}
use Rattle.uset_tool.specs.Script.{stripped, at_space, onto_front, as_character, character_of, spaced, both, characters_of, string_of, Definition, character as character_definition, string as string_definition, set as set_definition, definition_by, definition_of, ScriptLine, silent, pattern, binding, bad, binding_or_bad, named, let_or_bad, pattern_or, is_silent, script_line}
use Rattle.uset_tool.specs.Answer.{Variables, with_binding, string_or_character, PatternAnswer, read, fault, read_text, fault_text, bound_text, is_bound_text, text_after_text, bad_line_text, DefinitionAnswer, a_character, a_string, a_set, text_after, no_set, bound_before, free, LineAnswer, ScriptAnswer, ends, answers}
use Rattle.uset_variables.specs.Variables.{no_variables}
use Rattle.uset_tool.specs.declared.status.Status.{Status}
use Rattle.uset_tool.specs.declared.status.Status.TheVariants.{Done, SomeErr, Usage, Tables as Tables_status, NotText, TooLong}
use Rattle.uset_tool.specs.Counts.{counts_text}
use Rattle.uset_tool.specs.Device.{limit}
use Rattle.uset_tool.specs.Generated.{pattern_of, sizes_text, SizesAnswer, measured, unread}
use Rattle.uset_tool.specs.Words.{Command, evaluate, count_tables, generate, command_of, table_fault_text, usage_text, not_text_text, too_long_text}
use Rattle.uset_tool.specs.Run.{table_lines, script_lines, Evaluates, faulty_tables, script, Counts, faulty_text, counted, Generates, faulty_database, generated, Results, Answers, usage, too_long, not_text, evaluates}
use Rattle.uset_tool.proofs.Once.{RunLaws}
use Rattle.uset_tool.proofs.GeneratedPatterns.{pattern_is_ascii}
use Rattle.uset_tool.proofs.LineLemmas.{stripped-is}
use Rattle.uset_tool.proofs.Listing.{maximal_ranges, strings_in_order}
use Rattle.uset_tool.proofs.TextLines.{behind_ascii, parted, AreTexts, lines_are_texts, past_are_texts}

-- what names are bound to is finite
abbrev AreFinite : Variables → Type 0
AreFinite variables = (name : Text) (v : Value) → variables name ≡ Some v → IsFiniteValue v

-- the sets of tables are bounded
abbrev AreBounded : Tables → Type 0
AreBounded tables = (t : ℕ) (members : ℕ → Bool) → tables.sets t ≡ Some members → (bound : ℕ) × ((c : ℕ) → bound ≤ c → members c ≡ false)

-- the language of tables is finite
module _ (sources : SourcesAreBounded) (tables : Tables) (bounded : AreBounded tables) where
  sets_end : (t : ℕ) (members : ℕ → Bool) → tables.sets t ≡ Some members → IsBounded members
  sets_end t members h = let end = bounded t members h in record { bound = end.0; beyond = end.1 }

  language_finite : (variables : Variables) → AreFinite variables → (l : Language) → language_of variables tables ≡ Some l → IsFiniteLanguage l
  language_finite variables fine l h = by (tables.sets 51) (tables.sets 68) (tables.sets 67) h
    where
      by : (w s c : Option (ℕ → Bool)) → (w >>= λ white_space. s >>= λ start. c >>= λ continue. Some (language_by white_space start continue variables tables)) ≡ Some l → IsFiniteLanguage l
      by None s c g = absurd (let k = g in cc)
      by (Some w) None c g = absurd (let k = g in cc)
      by (Some w) (Some s) None g = absurd (let k = g in cc)
      by (Some w) (Some s) (Some c) g =
          let is : ◌≡◌ {A = Language} (language_by w s c variables tables) l = (let k = g in cc) in
          subst IsFiniteLanguage is (record { variables = fine; properties = sources tables sets_end })

bound_finite : (name : List ℕ) (v : Value) → IsFiniteValue v → {variables : Variables} → AreFinite variables → AreFinite (with_binding name v variables)
bound_finite name v h {variables} fine = λ n w e. by n w (bytes_eq name (encode_utf8_all n)) e
  where
    by : (n : Text) (w : Value) (x : Bool) → cond x (Some v) (variables n) ≡ Some w → IsFiniteValue w
    by n w true e = subst IsFiniteValue (let is : v ≡ w = cc in is) h
    by n w false e = fine n w e

-- What is read can be shown.

finite_under : RunLaws → {source rest : Text} {tree : Tree} (l : Option Language) → ((some : Language) → l ≡ Some some → IsFiniteLanguage some) → all_scalars source ≡ true →
    ReadsUnder source tree rest l → IsFinite (has tree) × ((front : Text) × (source ≡ front ++ rest))
finite_under laws {source} {rest} {tree} _ fine characters (under {l} h) =
    (laws.finite_sets l (fine l refl) source tree rest characters h, laws.rests_are_last l source tree rest h)

-- the bytes in front of the rest
sizes : (source front rest : List ℕ) → IsUtf8 source → chars source ≡ front ++ rest → size front + size rest ≡ length source
sizes source front rest u parts =
    sym (length-append (encode_utf8_all front) (encode_utf8_all rest))
    ∙ (ap length (sym (encodes-append front rest)) ∙ (ap size (sym parts) ∙ ap length (encodes-chars source u)))

module _ (laws : RunLaws) (tables : Tables) (allowed : AreAllowed tables) (bounded : AreBounded tables) (variables : Variables) (fine : AreFinite variables) (source : List ℕ) (u : IsUtf8 source) where
  abbrev Here : Option Language
  Here = language_of variables tables

  read_here : (tree : Tree) (rest : Text) → ReadsUnder (chars source) tree rest Here → IsFinite (has tree) × ((front : Text) × (chars source ≡ front ++ rest))
  read_here tree rest h = finite_under laws Here (language_finite laws.bounded_sources tables bounded variables fine) (scalars-chars source u) h

  pattern_by : (a : Answer) → IsAnswer Here (chars source) a → (text : List ℕ) × (err : Bool) × PatternAnswer Here source text err
  pattern_by (reading tree rest) is =
      let h = (is.reads tree rest).0 refl in
      let (f, (front, parts)) = read_here tree rest h in
      let (rs, maximal) = maximal_ranges (λ c. has tree (point c)) f.code_points in
      let (ss, canonical, holding) = strings_in_order (λ bytes. has tree (string bytes)) f.texts f.are_strings f.only in
      (read_text (size front) rs ss, false, read (size front) rs ss h (sizes source front rest u parts) maximal (record { canonical = canonical; holds_them = holding }))
  pattern_by (refused kind offset) is = (fault_text kind offset source, true, fault ((is.faults kind offset).0 refl))

  pattern_answer : (text : List ℕ) × (err : Bool) × PatternAnswer Here source text err
  pattern_answer = let (a, is) = laws.one_answer tables allowed variables (chars source) in pattern_by a is

  -- the answer where the name is free, and that what is bound then is finite
  abbrev Defined : List ℕ → Type 0
  Defined name = (text : List ℕ) × (err : Bool) × (new : Variables) × DefinitionAnswer tables variables name (set_definition source) text err new × AreFinite new

  -- a `let` line of a set: what is bound is finite
  defined_by : (name : List ℕ) (a : Answer) → IsAnswer Here (chars source) a → Defined name
  defined_by name (reading tree []) is =
      let h = (is.reads tree []).0 refl in
      let (f, (front, parts)) = read_here tree [] h in
      (bound_text name, false, with_binding name (set_value (has tree)) variables, a_set h, bound_finite name (set_value (has tree)) f fine)
  defined_by name (reading tree (c ∷ rest)) is =
      let h = (is.reads tree (c ∷ rest)).0 refl in
      let (f, (front, parts)) = read_here tree (c ∷ rest) h in
      (text_after_text (size front), true, variables, text_after (size front) h (sizes source front (c ∷ rest) u parts), fine)
  defined_by name (refused kind offset) is =
      (fault_text kind offset source, true, variables, no_set ((is.faults kind offset).0 refl), fine)

  set_defined : (name : List ℕ) → Defined name
  set_defined name = let (a, is) = laws.one_answer tables allowed variables (chars source) in defined_by name a is

-- a pattern that has an answer has one where it is measured
sizes_answer : {l : Option Language} {source text : List ℕ} {err : Bool} → PatternAnswer l source text err → (t : List ℕ) × (e : Bool) × SizesAnswer l source t e
sizes_answer (read n rs ss h place maximal strings) = (sizes_text n rs, false, measured n rs h place maximal)
sizes_answer {source} (fault {kind} {offset} h) = (fault_text kind offset source, true, unread h)

-- What a line of a script holds is text.

behind_word : (word rest : List ℕ) → list_all (λ c. nat_lt c 128) word ≡ true → IsUtf8 (word ++ rest) → IsUtf8 rest
behind_word [] rest low u = u
behind_word (c ∷ word) rest low u =
    let p = and_parts (nat_lt c 128) (list_all (λ c. nat_lt c 128) word) low in
    behind_word word rest p.1 (behind_ascii c (word ++ rest) (grind (arith, nat_tests, p.0)) u)

stripped_text : (word line rest : List ℕ) → list_all (λ c. nat_lt c 128) word ≡ true → IsUtf8 line → stripped word line ≡ Some rest → IsUtf8 rest
stripped_text word line rest low u h = behind_word word rest low (subst IsUtf8 (stripped-is word line rest h) u)

at_space_is : (text front behind : List ℕ) → at_space text ≡ Some (front, behind) → text ≡ front ++ 0x20 ∷ behind
at_space_is [] front behind h = absurd (let g = h in cc)
at_space_is (c ∷ text) front behind h = by (c == 0x20) refl h (λ f b g. at_space_is text f b g)
  where
    by : (x : Bool) → (c == 0x20) ≡ x → cond x (Some ([], text)) (option_map (onto_front c) (at_space text)) ≡ Some (front, behind) →
        ((f b : List ℕ) → at_space text ≡ Some (f, b) → text ≡ f ++ 0x20 ∷ b) → c ∷ text ≡ front ++ 0x20 ∷ behind
    by true e g more =
        let is : ◌≡◌ {A = List ℕ × List ℕ} ([], text) (front, behind) = cc in
        ap (λ z. z ∷ text) (eqb-true c 0x20 e) ∙ ap (λ z. z.0 ++ 0x20 ∷ z.1) is
    by false e g more = mapped (at_space text) refl g
      where
        mapped : (o : Option (List ℕ × List ℕ)) → at_space text ≡ o → option_map (onto_front c) o ≡ Some (front, behind) → c ∷ text ≡ front ++ 0x20 ∷ behind
        mapped None k g = absurd (let j = g in cc)
        mapped (Some (f, b)) k g =
            let is : ◌≡◌ {A = List ℕ × List ℕ} (c ∷ f, b) (front, behind) = cc in
            ap (λ z. c ∷ z) (more f b k) ∙ ap (λ z. z.0 ++ 0x20 ∷ z.1) is

character_scalar : (n c : ℕ) → as_character n ≡ Some c → scalar c ≡ true
character_scalar n c h = by (nat_lt n 0xD800 || (nat_le 0xE000 n && nat_le n 0x10_FFFF)) refl h
  where
    by : (x : Bool) → (nat_lt n 0xD800 || (nat_le 0xE000 n && nat_le n 0x10_FFFF)) ≡ x → cond x (Some n) None ≡ Some c → scalar c ≡ true
    by true e g = subst (λ m. scalar m ≡ true) (let is : n ≡ c = cc in is) (grind (arith, nat_tests, e))
    by false e g = absurd (let k = g in cc)

field_scalar : (field : List ℕ) (c : ℕ) → character_of field ≡ Some c → scalar c ≡ true
field_scalar field c h = by (hex field) h
  where
    by : (o : Option ℕ) → option_and_then as_character o ≡ Some c → scalar c ≡ true
    by None g = absurd (let k = g in cc)
    by (Some n) g = character_scalar n c g

fields_scalars : (fields : List (List ℕ)) (t : Text) → characters_of fields ≡ Some t → all_scalars t ≡ true
fields_scalars [] t h = subst (λ z. all_scalars z ≡ true) (let is : ◌≡◌ {A = Text} [] t = cc in is) refl
fields_scalars (field ∷ fields) t h = by (character_of field) (characters_of fields) refl h (λ cs f. fields_scalars fields cs f)
  where
    by : (o : Option ℕ) (p : Option (List ℕ)) → character_of field ≡ o → both o p ≡ Some t → ((cs : Text) → p ≡ Some cs → all_scalars cs ≡ true) → all_scalars t ≡ true
    by None p e g more = absurd (let k = g in cc)
    by (Some c) None e g more = absurd (let k = g in cc)
    by (Some c) (Some cs) e g more =
        subst (λ z. all_scalars z ≡ true) (let is : c ∷ cs ≡ t = cc in is)
        (ap (λ b. b && all_scalars cs) (field_scalar field c e) ∙ more cs refl)

string_scalars : (text t : Text) → string_of text ≡ Some t → all_scalars t ≡ true
string_scalars [] t h = subst (λ z. all_scalars z ≡ true) (let is : ◌≡◌ {A = Text} [] t = cc in is) refl
string_scalars (c ∷ text) t h = by (c == 0x20) h
  where
    by : (x : Bool) → cond x (characters_of (spaced text)) None ≡ Some t → all_scalars t ≡ true
    by true g = fields_scalars (spaced text) t g
    by false g = absurd (let k = g in cc)

-- patterns are texts, and strings are of characters
abbrev IsTextual : Definition → Type 0
IsTextual (character_definition c) = Unit {0}
IsTextual (string_definition t) = all_scalars t ≡ true
IsTextual (set_definition source) = IsUtf8 source

abbrev HoldsTexts : ScriptLine → Type 0
HoldsTexts silent = Unit {0}
HoldsTexts (pattern source) = IsUtf8 source
HoldsTexts (binding name d) = IsTextual d
HoldsTexts bad = Unit {0}

binding_texts : (name : List ℕ) (o : Option Definition) → ((d : Definition) → o ≡ Some d → IsTextual d) → HoldsTexts (binding_or_bad name o)
binding_texts name None h = tt
binding_texts name (Some d) h = h d refl

definition_texts : (text : List ℕ) → IsUtf8 text → (d : Definition) → definition_of text ≡ Some d → IsTextual d
definition_texts text u d h = by (stripped (codes "char ") text) (stripped (codes "str") text) (stripped (codes "set ") text) refl h
  where
    by : (a b c : Option (List ℕ)) → stripped (codes "set ") text ≡ c → definition_by a b c ≡ Some d → IsTextual d
    by (Some field) b c e g = one (character_of field) g
      where
        one : (o : Option ℕ) → option_map character_definition o ≡ Some d → IsTextual d
        one None g = absurd (let k = g in cc)
        one (Some n) g = subst IsTextual (let is : character_definition n ≡ d = cc in is) tt
    by None (Some fields) c e g = one (string_of fields) refl g
      where
        one : (o : Option (List ℕ)) → string_of fields ≡ o → option_map string_definition o ≡ Some d → IsTextual d
        one None k g = absurd (let j = g in cc)
        one (Some t) k g = subst IsTextual (let is : string_definition t ≡ d = cc in is) (string_scalars fields t k)
    by None None (Some source) e g = subst IsTextual (let is : set_definition source ≡ d = cc in is) (stripped_text (codes "set ") text source refl u e)
    by None None None e g = absurd (let k = g in cc)

named_texts : (text : List ℕ) → IsUtf8 text → HoldsTexts (named (at_space text))
named_texts text u = by (at_space text) refl
  where
    by : (o : Option (List ℕ × List ℕ)) → at_space text ≡ o → HoldsTexts (named o)
    by None e = tt
    by (Some ([], behind)) e = tt
    by (Some (c ∷ name, behind)) e =
        binding_texts (c ∷ name) (definition_of behind)
        (definition_texts behind (parted (c ∷ name) behind 0x20 (omega arith) (subst IsUtf8 (at_space_is text (c ∷ name) behind e) u)).1)

line_texts : (line : List ℕ) → IsUtf8 line → HoldsTexts (script_line line)
unfolding script_line
line_texts line u = by (is_silent line) (stripped (codes "pat ") line) (stripped (codes "let ") line) refl refl
  where
    by : (x : Bool) (p q : Option (List ℕ)) → stripped (codes "pat ") line ≡ p → stripped (codes "let ") line ≡ q →
        HoldsTexts (cond x silent (pattern_or p (let_or_bad q)))
    by true p q e f = tt
    by false (Some source) q e f = stripped_text (codes "pat ") line source refl u e
    by false None None e f = tt
    by false None (Some text) e f = named_texts text (stripped_text (codes "let ") line text refl u f)

-- Each line, each script and each input has an answer.

module _ (laws : RunLaws) (tables : Tables) (allowed : AreAllowed tables) (bounded : AreBounded tables) where
  abbrev Lines : Variables → ScriptLine → Type 0
  Lines variables line = (text : List ℕ) × (err : Bool) × (new : Variables) × LineAnswer tables variables line text err new × AreFinite new

  string_value_finite : (t : Text) → all_scalars t ≡ true → IsFiniteValue (string_or_character t)
  string_value_finite [] h = record { characters = h; not_one = λ e. cc }
  string_value_finite (c ∷ []) h = tt
  string_value_finite (c ∷ d ∷ t) h = record { characters = h; not_one = λ e. cc }

  definition_line : (variables : Variables) → AreFinite variables → (name : List ℕ) (d : Definition) → IsTextual d →
      (text : List ℕ) × (err : Bool) × (new : Variables) × DefinitionAnswer tables variables name d text err new × AreFinite new
  definition_line variables fine name (character_definition c) h =
      (bound_text name, false, with_binding name (character c) variables, a_character, bound_finite name (character c) tt fine)
  definition_line variables fine name (string_definition t) h =
      (bound_text name, false, with_binding name (string_or_character t) variables, a_string, bound_finite name (string_or_character t) (string_value_finite t h) fine)
  definition_line variables fine name (set_definition source) h = set_defined laws tables allowed bounded variables fine source h name

  line_answer : (variables : Variables) → AreFinite variables → (line : ScriptLine) → HoldsTexts line → Lines variables line
  line_answer variables fine silent h = ([], false, variables, (refl, refl, refl), fine)
  line_answer variables fine (pattern source) h =
      let (text, err, answer) = pattern_answer laws tables allowed bounded variables fine source h in
      (text, err, variables, (answer, refl), fine)
  line_answer variables fine (binding name d) h = by (cases_Bool (is_some (variables (chars name))))
    where
      by : (is_some (variables (chars name)) ≡ true) ⊎ (is_some (variables (chars name)) ≡ false) → Lines variables (binding name d)
      by (inl taken) = (is_bound_text name, true, variables, bound_before taken, fine)
      by (inr unbound) =
          let (text, err, new, answer, more) = definition_line variables fine name d h in
          (text, err, new, free unbound answer, more)
  line_answer variables fine bad h = (bad_line_text, true, variables, (refl, refl, refl), fine)

  script_answer : (variables : Variables) → AreFinite variables → (ls : List (List ℕ)) → AreTexts ls → (text : List ℕ) × (errs : Bool) × ScriptAnswer tables variables ls text errs
  script_answer variables fine [] h = ([], false, ends)
  script_answer variables fine (line ∷ ls) (first, more) =
      let (text, err, new, answer, finite) = line_answer variables fine (script_line line) (line_texts line first) in
      let (rest, errs, behind) = script_answer new finite ls more in
      (text ++ rest, err || errs, answers text rest err errs answer behind)

module _ (laws : RunLaws) where
  evaluation : (input : List ℕ) → IsUtf8 input → (text : List ℕ) × (status : Status) × Evaluates input text status
  evaluation input u = by (table_fault (table_lines input)) refl
    where
      by : (o : Option TableError) → table_fault (table_lines input) ≡ o → (text : List ℕ) × (status : Status) × Evaluates input text status
      by (Some f) e = (table_fault_text f, Tables_status, faulty_tables f e)
      by None e =
          let tables = tables_in (table_lines input) in
          let (text, errs, answer) = script_answer laws tables (laws.allowed_sets (table_lines input) e) (laws.bounded_sets (table_lines input)) no_variables (λ name v h. absurd (let g = h in cc)) (script_lines input) (past_are_texts (codes "end") (lines input) (lines_are_texts input u)) in
          (text, cond errs SomeErr Done, script e text errs answer)

  counts : (input : List ℕ) → (text : List ℕ) × (status : Status) × Counts input text status
  counts input = by (table_fault (lines input)) refl
    where
      by : (o : Option TableError) → table_fault (lines input) ≡ o → (text : List ℕ) × (status : Status) × Counts input text status
      by (Some f) e = (table_fault_text f, Tables_status, faulty_text f e)
      by None e = (counts_text (tables_in (lines input)), Done, counted e)

  generation : (n : ℕ) (input : List ℕ) → (text : List ℕ) × (status : Status) × Generates n input text status
  generation n input = by (table_fault (lines input)) refl
    where
      by : (o : Option TableError) → table_fault (lines input) ≡ o → (text : List ℕ) × (status : Status) × Generates n input text status
      by (Some f) e = (table_fault_text f, Tables_status, faulty_database f e)
      by None e =
          let text = IsUtf8-from_ascii (pattern_of n) (pattern_is_ascii laws.brackets_are_ascii n) in
          let (some, err, answer) = pattern_answer laws (tables_in (lines input)) (laws.allowed_sets (lines input) e) (laws.bounded_sets (lines input)) no_variables (λ name v h. absurd (let g = h in cc)) (pattern_of n) text in
          let (told, is_err, sized) = sizes_answer answer in
          (told, cond is_err SomeErr Done, generated e told is_err sized)

  result : (command : Command) (input : List ℕ) → IsUtf8 input → (text : List ℕ) × (status : Status) × Results command input text status
  result evaluate input u = evaluation input u
  result count_tables input u = counts input
  result (generate n) input u = generation n input

  -- words and an input have an answer
  pub answer_exists : (words : List (List ℕ)) (input : List ℕ) → (text : List ℕ) × (status : Status) × Answers words input text status
  answer_exists words input = by (command_of words) refl (cases_lt limit (length input)) (cases_Bool (is_utf8 input))
    where
      by : (o : Option Command) → command_of words ≡ o → (limit < length input) ⊎ (length input ≤ limit) → (is_utf8 input ≡ true) ⊎ (is_utf8 input ≡ false) →
          (text : List ℕ) × (status : Status) × Answers words input text status
      by None e h k = (usage_text, Usage, usage (ap is_some e))
      by (Some command) e (inl over) k = (too_long_text, TooLong, too_long (ap is_some e) over)
      by (Some command) e (inr within) (inr no_text) = (not_text_text, NotText, not_text (ap is_some e) within no_text)
      by (Some command) e (inr within) (inl is_text) =
          let (text, status, answer) = result command input (IsUtf8-from_is_utf8 input is_text) in
          (text, status, evaluates command e within is_text answer)
