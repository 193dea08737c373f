-- Sets are read back under the tables of a database.
use Rattle.std.proofs.Common.{◌≡◌, ℕ, ◌+◌, ◌≤◌, Bool, true, false, ◌&&◌, List, [], ◌∷◌, Option, Some, None, refl, ◌∙◌, subst, arith, le_refl}
use Rattle.std.specs.Prelude.{All}
use Rattle.std.specs.Str.{IsUtf8}
use Rattle.std.proofs.lemmas.Bool.Decides.{nat_tests}
use Rattle.std.proofs.lemmas.List.Elements.{All-nil, All-cons}
use Rattle.cp_invlist.specs.InversionList.{contains, is_code_point}
use Rattle.cp_invlist.specs.Laws.{MembersAreCodePoints, RangesHoldMembers}
use Rattle.cp_invlist.specs.Ranges.{in_ranges, AreRangesFrom}
use Rattle.cp_invlist.specs.declared.ranges.CodePointRange.{CodePointRange}
use Rattle.cp_strset.specs.StringList.{AreCanonical}
use Rattle.cp_strset.specs.StringSet.{StringSet}
use Rattle.prop_data.specs.Forbidden.{is_forbidden, AreAllowed}
use Rattle.prop_data.specs.Tables.{Tables}
use Rattle.uset_grammar.specs.Text.{Text, ◌>>=◌, ◌∈◌}
use Rattle.uset_grammar.specs.Escape.{is_hex}
use Rattle.uset_grammar.specs.Tree.{Member, point, string}
use Rattle.uset_grammar.specs.Language.{Language, Value}
use Rattle.uset_gather.specs.Gathered.{in_set}
use Rattle.uset_reader.specs.Syntaxes.{language_by}
use Rattle.uset_parse.specs.ReadBack.{LeavesEscapes, IsRange, IsLongText, is_written, Inverse}
use Rattle.uset_parse.proofs.PatternRead.{escapes_are_read}

-- the white space of a database

sign_forbidden : (c : ℕ) → c ∈ "[]{}\\u-" ≡ true → is_forbidden 51 c ≡ true
sign_forbidden c h = grind (arith, nat_tests, h)

pub leaves_by : (tables : Tables) → AreAllowed tables → (variable : Text → Option Value) (white_space start continue : Option (ℕ → Bool)) → tables.sets 51 ≡ white_space → (l : Language) →
    (white_space >>= λ w. start >>= λ s. continue >>= λ c. Some (language_by w s c variable tables)) ≡ Some l → LeavesEscapes l.white_space
unfolding is_hex
leaves_by tables allows variable None start continue there l h = cc
leaves_by tables allows variable (Some w) None continue there l h = cc
leaves_by tables allows variable (Some w) (Some s) None there l h = cc
leaves_by tables allows variable (Some w) (Some s) (Some c) there l h =
    let is : language_by w s c variable tables ≡ l = cc in
    subst (λ k. LeavesEscapes k.white_space) is (record {
      no_sign = λ d sign. allows 51 w there d (sign_forbidden d sign);
      no_digit = λ d digit. allows 51 w there d (grind (arith, nat_tests, digit));
    })

-- maximal ranges of code points

is_below : (c : ℕ) → is_code_point c ≡ true → c ≤ 0x10_FFFF
is_below c h = grind (arith, nat_tests, h)

module _ (m : ℕ → Bool) where
  all_ranges : (n : ℕ) (rs : List CodePointRange) → ((c : ℕ) → m c ≡ true → is_code_point c ≡ true) → AreRangesFrom m n rs → All IsRange rs
  all_ranges n [] within h = All-nil IsRange
  all_ranges n (r ∷ rs) within h =
      All-cons IsRange r rs (record { order = h.1; code_points = is_below r.end (within r.end (h.3 r.end h.1 (le_refl r.end))) }) (all_ranges (r.end + 1) rs within h.5)

-- the strings of a set
long_texts : (ss : List (List ℕ)) → AreCanonical ss → All IsUtf8 ss → All IsLongText ss
long_texts ss canonical texts = λ k d below. record { text = texts k d below; not_one = canonical.none_of_one k d below }

left_holds : (a b : Bool) → (a && b) ≡ a → a ≡ true → b ≡ true
left_holds true b h k = h
left_holds false b h k = absurd (let g = k in cc)

-- what ranges and strings hold is what the set has
same_members : (set : StringSet) (rs : List CodePointRange) → ((c : ℕ) → in_ranges rs c ≡ contains set.code_points c) → (m : Member) → is_written rs set.strings m ≡ in_set set m
same_members set rs held (point c) = held c
same_members set rs held (string bytes) = refl

pub inverse_law : MembersAreCodePoints → RangesHoldMembers → Inverse
inverse_law code_points hold = λ tables allows variable l there set is_set rs maximal rest.
    let leaves = leaves_by tables allows variable (tables.sets 51) (tables.sets 68) (tables.sets 67) refl l there in
    let m = contains set.code_points in
    let within : (c : ℕ) → m c ≡ true → is_code_point c ≡ true = λ c h. left_holds (m c) (is_code_point c) (code_points set.code_points c is_set.code_points) h in
    let back = escapes_are_read l leaves rs set.strings (all_ranges m 0 rs within maximal) (long_texts set.strings is_set.strings is_set.texts) rest in
    record { tree = back.tree; reads = back.reads; same = λ x. back.same x ∙ same_members set rs (hold m rs maximal) x }
