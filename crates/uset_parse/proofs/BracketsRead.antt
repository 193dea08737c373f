-- A bracket of brackets is read, and what it denotes is the union of their ranges.
use Rattle.std.proofs.Common.{◌≡◌, ℕ, Bool, false, ◌||◌, List, [], ◌∷◌, ◌++◌, refl, sym, ap, ◌∙◌, subst, arith, append_assoc, codes}
use Rattle.std.specs.Prelude.{All}
use Rattle.std.specs.Fmt.{digits}
use Rattle.std.specs.List.{flat_map}
use Rattle.std.specs.Str.{IsAscii}
use Rattle.std.proofs.Math.Bool.{or_assoc, or-false}
use Rattle.std.proofs.lemmas.List.Elements.{All-head, All-tail}
use Rattle.std.proofs.lemmas.Str.{chars-IsAscii, IsAscii-append}
use Rattle.std.proofs.lemmas.Str.Ascii.{IsAscii-cons}
use Rattle.cp_invlist.specs.Ranges.{in_range, in_ranges}
use Rattle.cp_invlist.specs.declared.ranges.CodePointRange.{CodePointRange}
use Rattle.cp_strset.specs.PatternText.{escaped}
use Rattle.uset_grammar.specs.Text.{Text}
use Rattle.uset_grammar.specs.Tree.{Tree, Member, point, string, Steps, done, add, join, bracket, has, gathers}
use Rattle.uset_grammar.specs.Item.{nested}
use Rattle.uset_grammar.specs.Body.{empty, joins, goes_on}
use Rattle.uset_grammar.specs.Language.{Language}
use Rattle.uset_grammar.specs.Grammar.{ReadsItems, nests, Reads, a_bracket}
use Rattle.uset_parse.specs.ReadBack.{LeavesEscapes, IsRange, is_written}
use Rattle.uset_parse.specs.Brackets.{bracket_text, brackets_text, BracketsAreAscii, BracketsAreRead, BracketsAreReadUnder}
use Rattle.uset_parse.proofs.DatabasePatterns.{leaves_by}
use Rattle.uset_parse.proofs.EscapedItems.{IsPart, nothing_part, two_part, both_parts}
use Rattle.uset_parse.proofs.PatternRead.{IsAscii-flat_map, one_ascii, IsAscii-escaped, Opens, plain_opening, backslash_opens, bracket_opens, bracket_opens_inside, bracket_closes}

-- the text is ASCII

IsAscii-bracket_text : (r : CodePointRange) → IsRange r → IsAscii (bracket_text r)
IsAscii-bracket_text r h =
    let start = IsAscii-escaped r.start (omega (arith, h.order, h.code_points)) in
    let end = IsAscii-append (escaped r.end) (codes "]") (IsAscii-escaped r.end h.code_points) (one_ascii 0x5D (omega arith)) in
    let behind = IsAscii-cons 0x2D (escaped r.end ++ codes "]") (omega arith) end in
    IsAscii-cons 0x5B (escaped r.start ++ 0x2D ∷ (escaped r.end ++ codes "]")) (omega arith)
    (IsAscii-append (escaped r.start) (0x2D ∷ (escaped r.end ++ codes "]")) start behind)

pub brackets_are_ascii : BracketsAreAscii
brackets_are_ascii = λ rs h.
    IsAscii-cons 0x5B (flat_map bracket_text rs ++ codes "]") (omega arith)
    (IsAscii-append (flat_map bracket_text rs) (codes "]") (IsAscii-flat_map bracket_text IsRange rs IsAscii-bracket_text h) (one_ascii 0x5D (omega arith)))

-- the bracket of a range, and the steps that join those of ranges in front of others
abbrev bracket_tree : CodePointRange → Tree
bracket_tree r = bracket false false (add r.start r.end done)

abbrev join_each : List CodePointRange → Steps → Steps
join_each [] steps = steps
join_each (r ∷ rs) steps = join (bracket_tree r) (join_each rs steps)

-- members

point_by_brackets : (c : ℕ) (rs : List CodePointRange) (b : Bool) → gathers (join_each rs done) (point c) b ≡ (b || in_ranges rs c)
point_by_brackets c [] b = sym (or-false b)
point_by_brackets c (r ∷ rs) b = point_by_brackets c rs (b || in_range r c) ∙ or_assoc b (in_range r c) (in_ranges rs c)

string_by_brackets : (bytes : List ℕ) (rs : List CodePointRange) (b : Bool) → gathers (join_each rs done) (string bytes) b ≡ b
string_by_brackets bytes [] b = refl
string_by_brackets bytes (r ∷ rs) b = string_by_brackets bytes rs (b || false) ∙ or-false b

members_are : (rs : List CodePointRange) (m : Member) → has (bracket false false (join_each rs done)) m ≡ is_written rs [] m
members_are rs (point c) = point_by_brackets c rs false
members_are rs (string bytes) = string_by_brackets bytes rs false

-- reading

module _ (l : Language) (leaves : LeavesEscapes l.white_space) where
  bracket_part : (r : CodePointRange) → IsRange r → IsPart l leaves (bracket_text r) (join (bracket_tree r))
  bracket_part r h = record {
    part = λ more rest is s items body.
        let inside = (two_part l leaves r.start r.end h.order h.code_points).part (0x5D ∷ more) more [] done (bracket_closes l leaves more) empty in
        let range : Text = escaped r.start ++ 0x2D ∷ escaped r.end in
        let opens : Opens l.white_space (range ++ 0x5D ∷ more) = backslash_opens l leaves (0x75 ∷ 0x7B ∷ (((digits 16 false r.start ++ 0x7D ∷ []) ++ 0x2D ∷ escaped r.end) ++ 0x5D ∷ more)) in
        let parts : bracket_text r ++ more ≡ 0x5B ∷ (range ++ 0x5D ∷ more) =
        ap (λ t. 0x5B ∷ t) (append_assoc (escaped r.start) (0x2D ∷ (escaped r.end ++ codes "]")) more
        ∙ ap (λ t. escaped r.start ++ 0x2D ∷ t) (append_assoc (escaped r.end) (codes "]") more)
        ∙ sym (append_assoc (escaped r.start) (0x2D ∷ escaped r.end) (0x5D ∷ more))) in (
          nested (bracket_tree r) ∷ is,
          subst (λ t. ReadsItems l t (nested (bracket_tree r) ∷ is) rest) (sym parts)
              (nests {o = plain_opening} (bracket_opens_inside l leaves (range ++ 0x5D ∷ more) opens) inside.1 inside.2 items),
          joins (goes_on body),
        );
  }

  brackets_part : (rs : List CodePointRange) → All IsRange rs → IsPart l leaves (flat_map bracket_text rs) (join_each rs)
  brackets_part [] h = nothing_part l leaves
  brackets_part (r ∷ rs) h =
      both_parts l leaves (bracket_text r) (flat_map bracket_text rs) (join (bracket_tree r)) (join_each rs) (bracket_part r (All-head IsRange r rs h)) (brackets_part rs (All-tail IsRange r rs h))

  -- what stands behind the first `[`
  brackets_open : (rs : List CodePointRange) (rest : Text) → Opens l.white_space (flat_map bracket_text rs ++ 0x5D ∷ rest)
  brackets_open [] rest = record { head = 0x5D; tail = rest; parts = refl; no_white = leaves.no_sign 0x5D refl; no_colon = refl; no_caret = refl; no_hyphen = refl }
  brackets_open (r ∷ rs) rest = record {
    head = 0x5B;
    tail = ((escaped r.start ++ 0x2D ∷ (escaped r.end ++ 0x5D ∷ [])) ++ flat_map bracket_text rs) ++ 0x5D ∷ rest;
    parts = refl;
    no_white = leaves.no_sign 0x5B refl;
    no_colon = refl;
    no_caret = refl;
    no_hyphen = refl;
  }

  brackets_read : (rs : List CodePointRange) → All IsRange rs → (rest : Text) → Reads l (brackets_text rs ++ rest) (bracket false false (join_each rs done)) rest
  brackets_read rs h rest =
      let all = (brackets_part rs h).part (0x5D ∷ rest) rest [] done (bracket_closes l leaves rest) empty in
      let parts : brackets_text rs ++ rest ≡ 0x5B ∷ (flat_map bracket_text rs ++ 0x5D ∷ rest) = ap (λ t. 0x5B ∷ t) (append_assoc (flat_map bracket_text rs) (codes "]") rest) in
      subst (λ t. Reads l t (bracket false false (join_each rs done)) rest) (sym parts)
      (a_bracket {o = plain_opening} (bracket_opens l leaves (flat_map bracket_text rs ++ 0x5D ∷ rest) (brackets_open rs rest)) all.1 all.2)

pub brackets_are_read : BracketsAreRead
brackets_are_read = λ l leaves rs h rest.
    let ascii = chars-IsAscii (brackets_text rs) (brackets_are_ascii rs h) in
    let tree = bracket false false (join_each rs done) in
    record {
      tree = tree;
      reads = subst (λ t. Reads l (t ++ rest) tree rest) (sym ascii) (brackets_read l leaves rs h rest);
      same = members_are rs;
    }

pub brackets_are_read_under : BracketsAreReadUnder
brackets_are_read_under = λ tables allows variable l there rs h rest.
    brackets_are_read l (leaves_by tables allows variable (tables.sets 51) (tables.sets 68) (tables.sets 67) refl l there) rs h rest
