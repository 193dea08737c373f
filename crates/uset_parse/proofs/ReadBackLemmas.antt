-- A set that is written and read back.
use Rattle.std.proofs.Common.{◌≡◌, ℕ, ◌+◌, List, [], length, map, Option, Some, None, is_some, true, refl, sym, ap, ap₂, ◌∙◌, subst, append-nil, arith, get_or, String, Global}
use Rattle.std.specs.Prelude.{All}
use Rattle.std.specs.Str.{IsUtf8, chars}
use Rattle.std.specs.String.{string_bytes}
use Rattle.std.proofs.lemmas.List.Elements.{All-map}
use Rattle.std.proofs.lemmas.Str.{IsUtf8-string_bytes}
use Rattle.cp_invlist.specs.InversionList.{IsInversionList}
use Rattle.cp_invlist.specs.Laws.{OneListOfMembers}
use Rattle.cp_strset.specs.Laws.{OneListOfStrings}
use Rattle.cp_strset.specs.PatternText.{IsPatternOf}
use Rattle.cp_strset.specs.StringList.{AreCanonical}
use Rattle.cp_strset.specs.StringSet.{StringSet}
use Rattle.prop_data.specs.Forbidden.{AreAllowed}
use Rattle.prop_data.specs.Tables.{Tables}
use Rattle.uset_grammar.specs.Text.{Text}
use Rattle.uset_grammar.specs.Outcome.{Kind, internal}
use Rattle.uset_grammar.specs.Tree.{Tree, Member, point, string, has}
use Rattle.uset_grammar.specs.Language.{Language, Value}
use Rattle.uset_grammar.specs.Grammar.{Reads}
use Rattle.uset_grammar.specs.Place.{size, offset_of}
use Rattle.uset_grammar.specs.Answers.{read, refused, ReadsUnder, under, FaultUnder, absent, IsFault}
use Rattle.uset_gather.specs.Gathered.{in_set}
use Rattle.uset_reader.specs.Laws.{OneAnswer}
use Rattle.uset_reader.specs.Syntaxes.{language_of}
use Rattle.uset_fault.specs.declared.error.ParseError.{ParseError}
use Rattle.uset_fault.specs.Errors.{kind_of, offset_in, kind_told}
use Rattle.uset_parse.specs.Reading.{IsRead, IsRefused}
use Rattle.uset_parse.specs.ReadBack.{IsReadBack, IsStringSet, IsWholeSet, Inverse, LacksSyntax}
use Rattle.uset_parse.proofs.ReadingLemmas.{told_more}

-- the bytes of strings are texts
texts : (strings : List (String Global)) → All IsUtf8 (map string_bytes strings)
texts strings = All-map IsUtf8 string_bytes strings (λ k d below. IsUtf8-string_bytes (get_or strings k d))

-- what a set keeps, by what its accessors say
pub kept_by : (set : StringSet) (list : List ℕ) (strings : List (String Global)) → IsInversionList list → list ≡ set.code_points → map string_bytes strings ≡ set.strings → AreCanonical set.strings → IsStringSet set
kept_by set list strings in_order same bytes canonical = record {
  code_points = subst IsInversionList same in_order;
  strings = canonical;
  texts = subst (All IsUtf8) bytes (texts strings);
}

-- what is read is read under a syntax that is there
syntax_of : (l : Option Language) (source : Text) (tree : Tree) (rest : Text) → ReadsUnder source tree rest l → (k : Language) × (l ≡ Some k)
syntax_of _ source tree rest (under {l} h) = (l, refl)

pub has_syntax : (l : Option Language) (pattern : List ℕ) (got : StringSet) (n : ℕ) → IsRead l pattern got n → is_some l ≡ true
has_syntax l pattern got n h = ap is_some (syntax_of l (chars pattern) h.tree h.rest h.reads).1

-- no fault is there without a place but the one of an absent syntax
absent_kind : (source : Text) (k : Kind) (p : Option Text) → FaultUnder source None k p → (k ≡ internal) × (p ≡ None)
absent_kind source _ _ absent = (refl, refl)

module _ (inverse : Inverse) (one : OneAnswer) (tables : Tables) (allowed : AreAllowed tables) (variable : Text → Option Value) (set : StringSet) (kept : IsStringSet set) (pattern : List ℕ) (written : IsPatternOf set pattern) where
  back : (l : Language) → language_of variable tables ≡ Some l → IsReadBack l (chars pattern) (in_set set) []
  back l there = subst (λ bytes. IsReadBack l (chars bytes) (in_set set) []) (sym written.is) (inverse tables allowed variable l there set kept written.ranges written.maximal [])

  answer : (l : Language) (there : language_of variable tables ≡ Some l) → (one tables allowed variable (chars pattern)).0 ≡ read (back l there).tree []
  answer l there =
      let b = back l there in
      let reads : Reads l (chars pattern) b.tree [] = subst (λ t. Reads l t b.tree []) (append-nil (chars pattern)) b.reads in
      ((one tables allowed variable (chars pattern)).1.reads b.tree []).1 (subst (λ k. ReadsUnder (chars pattern) b.tree [] k) (sym there) (under reads))

  -- what is read of the pattern is the set, and all of it
  pub reads_whole : OneListOfMembers → OneListOfStrings →
      (got : StringSet) (n : ℕ) → IsInversionList got.code_points → AreCanonical got.strings → IsRead (language_of variable tables) pattern got n → IsWholeSet set got n
  reads_whole one_set one_list got n in_order canonical h =
      let l = syntax_of (language_of variable tables) (chars pattern) h.tree h.rest h.reads in
      let b = back l.0 l.1 in
      let is : read h.tree h.rest ≡ read b.tree [] = sym (((one tables allowed variable (chars pattern)).1.reads h.tree h.rest).1 h.reads) ∙ answer l.0 l.1 in
      let tree : h.tree ≡ b.tree = cc in
      let rest : h.rest ≡ [] = cc in
      let same : (m : Member) → in_set got m ≡ in_set set m = λ m. h.members m ∙ ap (λ t. has t m) tree ∙ b.same m in
      let place : n + size [] ≡ length pattern = subst (λ r. n + size r ≡ length pattern) rest h.place in
      let points = one_set got.code_points set.code_points in_order kept.code_points (λ c. same (point c)) in
      let strings = one_list got.strings set.strings canonical kept.strings (λ bytes. same (string bytes)) in
      record {
        pattern = pattern;
        written = written;
        same = ap₂ (λ (a : List ℕ) (b : List (List ℕ)). let s : StringSet = record { code_points = a; strings = b } in s) points strings;
        whole = omega (arith, place);
      }

  fault_lacks : (l : Option Language) → language_of variable tables ≡ l → (k : Kind) (o : Option ℕ) → IsFault (language_of variable tables) (chars pattern) k o → (language_of variable tables ≡ None) × (k ≡ internal) × (o ≡ None)
  fault_lacks None there k o h =
      let is = absent_kind (chars pattern) k h.place (subst (λ l. FaultUnder (chars pattern) l k h.place) there h.fault) in
      (there, is.0, h.is ∙ ap (offset_of k) is.1)
  fault_lacks (Some l) there k o h =
      let is : refused k o ≡ read (back l there).tree [] = sym (((one tables allowed variable (chars pattern)).1.faults k o).1 h) ∙ answer l there in
      absurd (cc)

  -- the pattern is refused only where the syntax is absent
  pub refused_lacks : (error : ParseError) → IsRefused (language_of variable tables) pattern error → LacksSyntax (language_of variable tables) error
  refused_lacks error h =
      told_more (kind_told (kind_of error)) (offset_in error) (IsFault (language_of variable tables) (chars pattern)) (λ k o. (language_of variable tables ≡ None) × (k ≡ internal) × (o ≡ None)) (fault_lacks (language_of variable tables) refl) h
