-- What the program answers to the lines of a script, as bytes.
use Rattle.std.specs.Prelude.{◌≡◌, ℕ, ◌+◌, ◌-◌, Bool, true, false, ◌||◌, ◌==◌, List, [], ◌∷◌, ◌++◌, length, replicate, encode_utf8_all, codes, decimal, Option, Some, is_some, if◌then◌else◌}
use Rattle.std.specs.Fmt.{digits}
use Rattle.std.specs.List.{flat_map}
use Rattle.std.specs.Str.{chars, bytes_eq}
use Rattle.std.specs.String.{string_bytes}
use Rattle.cp_invlist.specs.declared.ranges.CodePointRange.{CodePointRange}
use Rattle.cp_invlist.specs.InversionList.{contains}
use Rattle.cp_invlist.specs.Ranges.{AreMaximalRanges}
use Rattle.cp_strset.specs.StringList.{holds, AreCanonical}
use Rattle.cp_strset.specs.StringSet.{StringSet}
use Rattle.prop_data.specs.Tables.{Tables}
use Rattle.uset_grammar.specs.Text.{Text}
use Rattle.uset_grammar.specs.Outcome.{Kind}
use Rattle.uset_grammar.specs.Tree.{Tree, point, string, has}
use Rattle.uset_grammar.specs.Language.{Value, character, string as string_value, set as set_value, Language}
use Rattle.uset_grammar.specs.Place.{size}
use Rattle.uset_grammar.specs.Shown.{shown}
use Rattle.uset_grammar.specs.Answers.{ReadsUnder, IsFault}
use Rattle.uset_fault.specs.declared.error.ParseError.{ParseError}
use Rattle.uset_fault.specs.Errors.{kind_of, offset_in, kind_told}
use Rattle.uset_reader.specs.Syntaxes.{language_of}
use Rattle.uset_tool.specs.declared.answer.Answer.{Answer}
use Rattle.uset_tool.specs.Script.{ScriptLine, silent, pattern, binding, bad, script_line, Definition, character as character_definition, string as string_definition, set as set_definition}

-- a code point in upper-case hexadecimal digits, at least four
abbrev pub code_point_text : ℕ → List ℕ
code_point_text c = let text = digits 16 true c in replicate (4 - length text) 0x30 ++ text

-- a blank, the first code point, and a hyphen and the last where it is another
abbrev pub range_text : CodePointRange → List ℕ
range_text r =
    codes " " ++ (code_point_text r.start ++ (if r.start == r.end then [] else codes "-" ++ code_point_text r.end))

abbrev pub line_end : List ℕ
line_end = 0x0A ∷ []

-- a low line, and a code point
abbrev pub further_text : ℕ → List ℕ
further_text c = codes "_" ++ code_point_text c

-- code points with a low line between two
abbrev pub linked : List ℕ → List ℕ
linked [] = []
linked (c ∷ cs) = code_point_text c ++ flat_map further_text cs

-- a blank, and the characters of a string in braces
abbrev pub string_text : List ℕ → List ℕ
string_text bytes = codes " {" ++ (linked (chars bytes) ++ codes "}")

-- the answer to a pattern of which n bytes are read, with the maximal ranges and the strings of its members
abbrev pub read_text : ℕ → List CodePointRange → List (List ℕ) → List ℕ
read_text n rs ss = codes "ok " ++ (decimal n ++ (flat_map range_text rs ++ (flat_map string_text ss ++ line_end)))

-- the answer to a pattern with a fault of this kind at this offset
abbrev pub fault_text : Kind → Option ℕ → List ℕ → List ℕ
fault_text kind offset source = codes "err " ++ (encode_utf8_all (shown kind offset (chars source)) ++ line_end)

abbrev pub bad_line_text : List ℕ
bad_line_text = codes "err bad line" ++ line_end

-- the strings that a set has, in order
pub record AreStrings (members : List ℕ → Bool) (ss : List (List ℕ)) : Type 0 where
  pub canonical : AreCanonical ss
  pub holds_them : (bytes : List ℕ) → holds ss bytes ≡ members bytes

-- What each name is bound to.
abbrev pub Variables : Type 0
Variables = Text → Option Value

-- the same, and the name with these bytes is bound to the value
abbrev pub with_binding : List ℕ → Value → Variables → Variables
with_binding name value variables = λ n. if bytes_eq name (encode_utf8_all n) then Some value else variables n

-- the value of a string: of exactly one character it is that character
abbrev pub string_or_character : Text → Value
string_or_character [] = string_value []
string_or_character (c ∷ []) = character c
string_or_character (c ∷ d ∷ t) = string_value (c ∷ d ∷ t)

-- The answer to a pattern, and whether it is an `err` line.
pub data PatternAnswer (l : Option Language) (source : List ℕ) : List ℕ → Bool → Type 0 where
  read : {tree : Tree} {rest : Text} (n : ℕ) (rs : List CodePointRange) (ss : List (List ℕ)) →
      ReadsUnder (chars source) tree rest l →
      n + size rest ≡ length source → AreMaximalRanges (λ c. has tree (point c)) rs →
      AreStrings (λ bytes. has tree (string bytes)) ss → PatternAnswer l source (read_text n rs ss) false
  fault : {kind : Kind} {offset : Option ℕ} → IsFault l (chars source) kind offset →
      PatternAnswer l source (fault_text kind offset source) true

-- a name that is bound now, one that was bound before, and a pattern that ends before its line
abbrev pub bound_text : List ℕ → List ℕ
bound_text name = codes "bound " ++ (name ++ line_end)

abbrev pub is_bound_text : List ℕ → List ℕ
is_bound_text name = codes "err " ++ (name ++ (codes " is bound" ++ line_end))

abbrev pub text_after_text : ℕ → List ℕ
text_after_text n = codes "err text after the set at byte " ++ (decimal n ++ line_end)

-- The answer to a name that is bound to nothing, with what it is to be bound to, whether it is an `err` line, and the
-- variables behind it.
pub data DefinitionAnswer (tables : Tables) (variables : Variables) (name : List ℕ) : Definition → List ℕ → Bool →
    Variables → Type 0 where
  a_character : {c : ℕ} →
      DefinitionAnswer tables variables name (character_definition c) (bound_text name) false
      (with_binding name (character c) variables)
  a_string : {t : List ℕ} →
      DefinitionAnswer tables variables name (string_definition t) (bound_text name) false
      (with_binding name (string_or_character t) variables)
  a_set : {source : List ℕ} {tree : Tree} → ReadsUnder (chars source) tree [] (language_of variables tables) →
      DefinitionAnswer tables variables name (set_definition source) (bound_text name) false
      (with_binding name (set_value (has tree)) variables)
  text_after : {source : List ℕ} {tree : Tree} {c : ℕ} {rest : Text} (n : ℕ) →
      ReadsUnder (chars source) tree (c ∷ rest) (language_of variables tables) →
      n + size (c ∷ rest) ≡ length source →
      DefinitionAnswer tables variables name (set_definition source) (text_after_text n) true variables
  no_set : {source : List ℕ} {kind : Kind} {offset : Option ℕ} →
      IsFault (language_of variables tables) (chars source) kind offset →
      DefinitionAnswer tables variables name (set_definition source) (fault_text kind offset source) true variables

-- The answer to a `let` line: a name is bound once.
pub data BindingAnswer (tables : Tables) (variables : Variables) (name : List ℕ) (d : Definition) : List ℕ → Bool →
    Variables → Type 0 where
  bound_before : is_some (variables (chars name)) ≡ true →
      BindingAnswer tables variables name d (is_bound_text name) true variables
  free : {text : List ℕ} {err : Bool} {new : Variables} → is_some (variables (chars name)) ≡ false →
      DefinitionAnswer tables variables name d text err new → BindingAnswer tables variables name d text err new

-- the answer to a line of a script, and the variables behind it
abbrev pub LineAnswer : Tables → Variables → ScriptLine → List ℕ → Bool → Variables → Type 0
LineAnswer tables variables silent text err new = (text ≡ []) × (err ≡ false) × (new ≡ variables)
LineAnswer tables variables (pattern source) text err new =
    PatternAnswer (language_of variables tables) source text err × (new ≡ variables)
LineAnswer tables variables (binding name d) text err new = BindingAnswer tables variables name d text err new
LineAnswer tables variables bad text err new = (text ≡ bad_line_text) × (err ≡ true) × (new ≡ variables)

-- the answers to the lines of a script, one behind another, and whether an `err` line is among them
pub data ScriptAnswer (tables : Tables) : Variables → List (List ℕ) → List ℕ → Bool → Type 0 where
  ends : {variables : Variables} → ScriptAnswer tables variables [] [] false
  answers : {variables new : Variables} {line : List ℕ} {lines : List (List ℕ)} (first rest : List ℕ)
      (err errs : Bool) →
      LineAnswer tables variables (script_line line) first err new → ScriptAnswer tables new lines rest errs →
      ScriptAnswer tables variables (line ∷ lines) (first ++ rest) (err || errs)

-- the maximal ranges of the set were appended
abbrev pub AppendsMembers : List ℕ → List ℕ → (ℕ → Bool) → Type 0
AppendsMembers old new members =
    (rs : List CodePointRange) × AreMaximalRanges members rs × (new ≡ old ++ flat_map range_text rs)

-- the answer for a set of which so many bytes are read
abbrev pub IsReadAnswer : ℕ → StringSet → Answer → Type 0
IsReadAnswer n set answer =
    (rs : List CodePointRange) × AreMaximalRanges (contains set.code_points) rs × AreCanonical set.strings ×
    (string_bytes answer.text ≡ read_text n rs set.strings) × (answer.is_err ≡ false)

-- the answer for a fault of a source, which want of memory is not
pub record IsFaultAnswer (error : ParseError) (source : List ℕ) (answer : Answer) : Type 0 where
  pub kind : Kind
  pub told : kind_told (kind_of error) ≡ Some kind
  pub text : string_bytes answer.text ≡ fault_text kind (offset_in error) source
  pub err : answer.is_err ≡ true

-- the answer for a name that is bound now, and the variables before and behind it
pub record IsBound (name : List ℕ) (value : Value) (old new : Variables) (answer : Answer) : Type 0 where
  pub text : string_bytes answer.text ≡ bound_text name
  pub err : answer.is_err ≡ false
  pub bound : new ≡ with_binding name value old
