-- What names are bound to, and the answers to lines that bind them.
use Rattle.std.proofs.Common.{◌≡◌, ℕ, ◌+◌, ◌<◌, Bool, true, false, List, [], ◌∷◌, length, encode_utf8_all, Option, Some, None, is_some, option_map, Result, Ok, Err, IfOk, Bor, refl, sym, ap, ◌∙◌, subst, arith}
use mathlib.Core.Path.{fun_ext}
use Rattle.std.proofs.lemmas.Str.{encodes-chars, length-le-encodes}
use Rattle.std.specs.Option.{option_copied}
use Rattle.std.specs.Str.{IsUtf8, chars}
use Rattle.std.specs.String.{string_bytes}
use Rattle.std.proofs.lemmas.List.{nil_from_length}
use Rattle.cp_strset.specs.StringList.{sole_of}
use Rattle.cp_strset.specs.StringSet.{StringSet}
use Rattle.prop_data.specs.Tables.{Tables}
use Rattle.uset_grammar.specs.Text.{Text}
use Rattle.uset_grammar.specs.Tree.{Tree, has}
use Rattle.uset_grammar.specs.Language.{character, string, set}
use Rattle.uset_grammar.specs.Place.{size}
use Rattle.uset_grammar.specs.Answers.{ReadsUnder}
use Rattle.uset_fault.specs.declared.error.ParseError.{ParseError}
use Rattle.uset_fault.specs.Errors.{offset_in}
use Rattle.uset_variables.specs.declared.map.VariableMap.{VariableMap}
use Rattle.uset_variables.specs.declared.value.VariableValue.{VariableValue}
use Rattle.uset_variables.specs.declared.value.VariableValue.TheVariants.{String as Spelled}
use Rattle.uset_variables.specs.Values.{value_seen, kept, character_or}
use Rattle.uset_variables.specs.Variables.{bound, variables_of, no_variables, IsSame}
use Rattle.uset_gather.specs.Gathered.{in_set}
use Rattle.uset_reader.specs.Syntaxes.{language_of}
use Rattle.uset_parse.specs.Reading.{IsRead, HasTextBehind, IsRefused}
use Rattle.uset_tool.specs.declared.answer.Answer.{Answer}
use Rattle.uset_tool.specs.Script.{Definition, character as character_definition, string as string_definition, set as set_definition}
use Rattle.uset_tool.specs.Answer.{Variables, with_binding, string_or_character, bound_text, is_bound_text, text_after_text, fault_text, DefinitionAnswer, a_character, a_string, a_set, text_after, no_set, BindingAnswer, bound_before, IsBound, IsFaultAnswer}
use Rattle.uset_tool.proofs.AnswerLemmas.{fault_told}

-- a map that binds no name
pub nothing_bound : (map : VariableMap) → ((name : List ℕ) → bound map name ≡ None) → variables_of map ≡ no_variables
nothing_bound map h = fun_ext (λ name. ap (option_map value_seen) (h (encode_utf8_all name)))

-- a map that binds the same names to the same values
pub same_variables : (old new : VariableMap) → IsSame old new → variables_of new ≡ variables_of old
same_variables old new h = fun_ext (λ name. ap (option_map value_seen) (h (encode_utf8_all name)))

-- what a name is bound to, by its bytes
pub bound_name : (map : VariableMap) (name : List ℕ) → IsUtf8 name → variables_of map (chars name) ≡ option_map value_seen (bound map name)
bound_name map name text = ap (λ bytes. option_map value_seen (bound map bytes)) (encodes-chars name text)

kept_as : (bytes : List ℕ) (cs : Text) → chars bytes ≡ cs → value_seen (character_or (Spelled bytes) (sole_of cs)) ≡ string_or_character cs
kept_as bytes [] is = ap string is
kept_as bytes (c ∷ []) is = refl
kept_as bytes (c ∷ d ∷ t) is = ap string is

-- a string as it is kept
pub kept_string : (bytes : List ℕ) → value_seen (kept (Spelled bytes)) ≡ string_or_character (chars bytes)
kept_string bytes = kept_as bytes (chars bytes) refl

-- the answer, with its text, its mark and the variables behind it
definition_at : (tables : Tables) (old new after : Variables) (name : List ℕ) (d : Definition) (text : List ℕ) (err : Bool) (answer : Answer) → string_bytes answer.text ≡ text → answer.is_err ≡ err → new ≡ after →
    DefinitionAnswer tables old name d text err after → DefinitionAnswer tables old name d (string_bytes answer.text) answer.is_err new
definition_at tables old new after name d text err answer text_is err_is new_is h = rw (text_is, err_is, new_is) h

pub character_answer : (tables : Tables) (old new : Variables) (name : List ℕ) (c : ℕ) (answer : Answer) → IsBound name (character c) old new answer →
    DefinitionAnswer tables old name (character_definition c) (string_bytes answer.text) answer.is_err new
character_answer tables old new name c answer is = definition_at tables old new _ name _ (bound_text name) false answer is.text is.err is.bound a_character

pub string_answer : (tables : Tables) (old new : Variables) (name bytes : List ℕ) (answer : Answer) → IsBound name (value_seen (kept (Spelled bytes))) old new answer →
    DefinitionAnswer tables old name (string_definition (chars bytes)) (string_bytes answer.text) answer.is_err new
string_answer tables old new name bytes answer is =
    definition_at tables old new _ name _ (bound_text name) false answer is.text is.err (is.bound ∙ ap (λ v. with_binding name v old) (kept_string bytes)) a_string

-- the pattern is the whole source
pub set_answer : (tables : Tables) (old new : Variables) (name source : List ℕ) (s : StringSet) (answer : Answer) → IsRead (language_of old tables) source s (length source) →
    IsBound name (set (in_set s)) old new answer → DefinitionAnswer tables old name (set_definition source) (string_bytes answer.text) answer.is_err new
set_answer tables old new name source s answer h is =
    let none : h.rest ≡ [] = nil_from_length h.rest (omega (arith, h.place, length-le-encodes h.rest)) in
    let same : in_set s ≡ has h.tree = fun_ext h.members in
    definition_at tables old new _ name _ (bound_text name) false answer is.text is.err (is.bound ∙ ap (λ m. with_binding name (set m) old) same)
    (a_set (subst (λ r. ReadsUnder (chars source) h.tree r (language_of old tables)) none h.reads))

something_behind : (tables : Tables) (old : Variables) (name source : List ℕ) (n : ℕ) (tree : Tree) (rest : Text) → ReadsUnder (chars source) tree rest (language_of old tables) → n + size rest ≡ length source → n < length source →
    DefinitionAnswer tables old name (set_definition source) (text_after_text n) true old
something_behind tables old name source n tree [] h place more = absurd (omega (arith, place, more))
something_behind tables old name source n tree (c ∷ rest) h place more = text_after n h place

-- text stands behind the pattern
pub text_after_answer : (tables : Tables) (old : Variables) (name source : List ℕ) (n : ℕ) (answer : Answer) → HasTextBehind (language_of old tables) source n →
    string_bytes answer.text ≡ text_after_text n → answer.is_err ≡ true → DefinitionAnswer tables old name (set_definition source) (string_bytes answer.text) answer.is_err old
text_after_answer tables old name source n answer h text err =
    definition_at tables old old old name _ (text_after_text n) true answer text err refl (something_behind tables old name source n h.front.tree h.front.rest h.front.reads h.front.place h.more)

-- the pattern has a fault
pub no_set_answer : (tables : Tables) (old : Variables) (name source : List ℕ) (error : ParseError) (answer : Answer) → IsRefused (language_of old tables) source error → IsFaultAnswer error source answer →
    DefinitionAnswer tables old name (set_definition source) (string_bytes answer.text) answer.is_err old
no_set_answer tables old name source error answer h is =
    definition_at tables old old old name _ (fault_text is.kind (offset_in error) source) true answer is.text is.err refl
    (no_set (fault_told (language_of old tables) source error is.kind h is.told))

-- a name that was bound before
pub bound_answer : (tables : Tables) (old : Variables) (name : List ℕ) (d : Definition) (answer : Answer) → is_some (old (chars name)) ≡ true → string_bytes answer.text ≡ is_bound_text name → answer.is_err ≡ true →
    BindingAnswer tables old name d (string_bytes answer.text) answer.is_err old
bound_answer tables old name d answer some text err = rw (text, err) (bound_before some)

-- the same of results, where there is an answer
pub text_after_result : {E : Type 0} (tables : Tables) (old : Variables) (name source : List ℕ) (n : ℕ) (result : Result Answer E) → HasTextBehind (language_of old tables) source n →
    IfOk result (λ a. string_bytes a.text ≡ text_after_text n) → IfOk result (λ a. a.is_err ≡ true) →
    IfOk result (λ a. DefinitionAnswer tables old name (set_definition source) (string_bytes a.text) a.is_err old)
text_after_result tables old name source n (Ok a) h text err = text_after_answer tables old name source n a h text err
text_after_result tables old name source n (Err e) h text err = tt

pub bound_result : {E : Type 0} (tables : Tables) (old : Variables) (name : List ℕ) (d : Definition) (result : Result Answer E) → is_some (old (chars name)) ≡ true →
    IfOk result (λ a. string_bytes a.text ≡ is_bound_text name) → IfOk result (λ a. a.is_err ≡ true) → IfOk result (λ a. BindingAnswer tables old name d (string_bytes a.text) a.is_err old)
bound_result tables old name d (Ok a) some text err = bound_answer tables old name d a some text err
bound_result tables old name d (Err e) some text err = tt

is_some-map : {A B : Type 0} (f : A → B) (o : Option A) → is_some (option_map f o) ≡ is_some o
is_some-map f None = refl
is_some-map f (Some x) = refl

-- whether a name is bound, by what a look-up finds
found_is_bound : (map : VariableMap) (name : List ℕ) (found : Option (Bor VariableValue)) → IsUtf8 name → option_copied found ≡ bound map name → is_some (variables_of map (chars name)) ≡ is_some found
found_is_bound map name found text is =
    ap is_some (bound_name map name text) ∙ (is_some-map value_seen (bound map name) ∙ (ap is_some (sym is) ∙ copied found))
  where
    copied : (o : Option (Bor VariableValue)) → is_some (option_copied o) ≡ is_some o
    copied None = refl
    copied (Some v) = refl

pub name_is_bound : (map : VariableMap) (name : List ℕ) → IsUtf8 name → (found : Option (Bor VariableValue)) → option_copied found ≡ bound map name → is_some found ≡ true → is_some (variables_of map (chars name)) ≡ true
name_is_bound map name text found is some = found_is_bound map name found text is ∙ some

pub name_is_free : (map : VariableMap) (name : List ℕ) → IsUtf8 name → (found : Option (Bor VariableValue)) → option_copied found ≡ bound map name → is_some found ≡ false → is_some (variables_of map (chars name)) ≡ false
name_is_free map name text found is none = found_is_bound map name found text is ∙ none
