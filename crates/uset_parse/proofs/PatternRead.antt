-- A pattern in escapes is read back: it is ASCII, its bracket is read, and what this denotes has its members.
use Rattle.std.proofs.Common.{◌≡◌, ℕ, ◌^◌, ◌≤◌, ◌<◌, Bool, true, false, cond, ◌||◌, List, [], ◌∷◌, ◌++◌, Some, None, refl, sym, ap, ◌∙◌, subst, arith, append_assoc, encode_utf8_all, is_some, codes}
use Rattle.std.specs.Prelude.{◌==◌, All}
use Rattle.std.specs.Char.{digit_value}
use Rattle.std.specs.Fmt.{digits}
use Rattle.std.specs.List.{flat_map}
use Rattle.std.specs.Str.{IsAscii, all_scalars, bytes_eq, chars}
use Rattle.std.specs.Str.Parse.{AllDigits}
use Rattle.std.proofs.Math.Bool.{or_assoc, or-false}
use Rattle.std.proofs.lemmas.Bool.Decides.{nat_tests}
use Rattle.std.proofs.lemmas.Fmt.{digits_is_IsNumeral}
use Rattle.std.proofs.lemmas.List.Elements.{All-head, All-tail}
use Rattle.std.proofs.lemmas.Str.{encodes-chars, scalars-chars, chars-IsAscii, IsAscii-append}
use Rattle.std.proofs.lemmas.Str.Ascii.{IsAscii-nil, IsAscii-cons}
use Rattle.std.proofs.lemmas.Bool.{and_parts}
use lib.Utf8.{scalar}
use Rattle.cp_invlist.specs.Ranges.{in_range, in_ranges}
use Rattle.cp_invlist.specs.declared.ranges.CodePointRange.{CodePointRange}
use Rattle.cp_strset.specs.PatternText.{escaped, range_text, string_text, pattern_text}
use Rattle.cp_strset.specs.StringList.{holds}
use Rattle.uset_grammar.specs.Text.{Text, skip, behind, optional_code}
use Rattle.uset_grammar.specs.Tree.{Member, point, string, Steps, done, bracket, has, gathers}
use Rattle.uset_grammar.specs.Item.{Opening}
use Rattle.uset_grammar.specs.Body.{empty}
use Rattle.uset_grammar.specs.Language.{Language}
use Rattle.uset_grammar.specs.Front.{ahead, sign, header, opening, begins_unit, front, first, of_bracket, of_property}
use Rattle.uset_grammar.specs.Grammar.{ReadsItems, ends, Reads, a_bracket}
use Rattle.uset_parse.specs.ReadBack.{LeavesEscapes, IsRange, IsLongText, is_written, EscapesAreRead}
use Rattle.uset_parse.proofs.EscapedItems.{add_ranges, add_strings, scalar_below, ranges_part, strings_part, stays}

-- the text is ASCII

pub IsAscii-flat_map : {X : Type 0} (f : X → Text) (P : X → Type 0) (xs : List X) → ((x : X) → P x → IsAscii (f x)) → All P xs → IsAscii (flat_map f xs)
IsAscii-flat_map f P [] one h = IsAscii-nil
IsAscii-flat_map f P (x ∷ xs) one h =
    IsAscii-append (f x) (flat_map f xs) (one x (All-head P x xs h)) (IsAscii-flat_map f P xs one (All-tail P x xs h))

digit_low : (c : ℕ) → digit_value c < 16 → c < 128
digit_low c h = grind (arith, nat_tests, h)

IsAscii-hex : (ds : Text) → AllDigits 16 ds → IsAscii ds
IsAscii-hex [] h = IsAscii-nil
IsAscii-hex (c ∷ ds) h = IsAscii-cons c ds (digit_low c h.0) (IsAscii-hex ds h.1)

pub one_ascii : (c : ℕ) → c < 128 → IsAscii (c ∷ [])
one_ascii c h = IsAscii-cons c [] h IsAscii-nil

backslash_ascii : IsAscii (codes "\\u{")
backslash_ascii = IsAscii-cons 0x5C (codes "u{") (omega arith) (IsAscii-cons 0x75 (codes "{") (omega arith) (one_ascii 0x7B (omega arith)))

pub IsAscii-escaped : (n : ℕ) → n ≤ 0x10_FFFF → IsAscii (escaped n)
IsAscii-escaped n h =
    let high : n < 16 ^ 64 = omega (arith, h) in
    let hex = IsAscii-hex (digits 16 false n) (digits_is_IsNumeral 16 false (omega arith) (omega arith) n high).0.1 in
    IsAscii-append (codes "\\u{") (digits 16 false n ++ codes "}") backslash_ascii (IsAscii-append (digits 16 false n) (codes "}") hex (one_ascii 0x7D (omega arith)))

IsAscii-range_text : (r : CodePointRange) → IsRange r → IsAscii (range_text r)
IsAscii-range_text r h = by (r.start == r.end)
  where
    first : IsAscii (escaped r.start)
    first = IsAscii-escaped r.start (omega (arith, h.order, h.code_points))

    by : (t : Bool) → IsAscii (cond t (escaped r.start) (escaped r.start ++ 0x2D ∷ escaped r.end))
    by true = first
    by false = IsAscii-append (escaped r.start) (0x2D ∷ escaped r.end) first (IsAscii-cons 0x2D (escaped r.end) (omega arith) (IsAscii-escaped r.end h.code_points))

IsAscii-escapes : (cs : Text) → all_scalars cs ≡ true → IsAscii (flat_map escaped cs)
IsAscii-escapes [] h = IsAscii-nil
IsAscii-escapes (c ∷ cs) h =
    let p = and_parts (scalar c) (all_scalars cs) h in
    IsAscii-append (escaped c) (flat_map escaped cs) (IsAscii-escaped c (scalar_below c p.0)) (IsAscii-escapes cs p.1)

IsAscii-string_text : (s : List ℕ) → IsLongText s → IsAscii (string_text s)
IsAscii-string_text s h =
    let inner = IsAscii-escapes (chars s) (scalars-chars s h.text) in
    IsAscii-cons 0x7B (flat_map escaped (chars s) ++ codes "}") (omega arith) (IsAscii-append (flat_map escaped (chars s)) (codes "}") inner (one_ascii 0x7D (omega arith)))

IsAscii-pattern_text : (rs : List CodePointRange) → All IsRange rs → (ss : List (List ℕ)) → All IsLongText ss → IsAscii (pattern_text rs ss)
IsAscii-pattern_text rs hr ss hs =
    let ranges = IsAscii-flat_map range_text IsRange rs IsAscii-range_text hr in
    let strings = IsAscii-flat_map string_text IsLongText ss IsAscii-string_text hs in
    let behind = IsAscii-append (flat_map string_text ss) (codes "]") strings (one_ascii 0x5D (omega arith)) in
    IsAscii-cons 0x5B (flat_map range_text rs ++ (flat_map string_text ss ++ codes "]")) (omega arith)
    (IsAscii-append (flat_map range_text rs) (flat_map string_text ss ++ codes "]") ranges behind)

-- members

module _ (c : ℕ) where
  point_by_ranges : (rs : List CodePointRange) (steps : Steps) (b : Bool) → gathers (add_ranges rs steps) (point c) b ≡ gathers steps (point c) (b || in_ranges rs c)
  point_by_ranges [] steps b = ap (gathers steps (point c)) (sym (or-false b))
  point_by_ranges (r ∷ rs) steps b = point_by_ranges rs steps (b || in_range r c) ∙ ap (gathers steps (point c)) (or_assoc b (in_range r c) (in_ranges rs c))

  point_by_strings : (ss : List (List ℕ)) (b : Bool) → gathers (add_strings ss done) (point c) b ≡ b
  point_by_strings [] b = refl
  point_by_strings (s ∷ ss) b = point_by_strings ss (b || false) ∙ or-false b

module _ (bytes : List ℕ) where
  string_by_ranges : (rs : List CodePointRange) (steps : Steps) (b : Bool) → gathers (add_ranges rs steps) (string bytes) b ≡ gathers steps (string bytes) b
  string_by_ranges [] steps b = refl
  string_by_ranges (r ∷ rs) steps b = string_by_ranges rs steps (b || false) ∙ ap (gathers steps (string bytes)) (or-false b)

  string_by_strings : (ss : List (List ℕ)) (b : Bool) → All IsLongText ss → gathers (add_strings ss done) (string bytes) b ≡ (b || holds ss bytes)
  string_by_strings [] b h = sym (or-false b)
  string_by_strings (s ∷ ss) b h =
      string_by_strings ss (b || bytes_eq (encode_utf8_all (chars s)) bytes) (All-tail IsLongText s ss h)
      ∙ ap (λ t. (b || bytes_eq t bytes) || holds ss bytes) (encodes-chars s (All-head IsLongText s ss h).text)
      ∙ or_assoc b (bytes_eq s bytes) (holds ss bytes)

-- the bracket

-- The text begins with a character that is no white space and says nothing of the bracket around it.
pub record Opens (white_space : ℕ → Bool) (t : Text) : Type 0 where
  pub head : ℕ
  pub tail : Text
  pub parts : t ≡ head ∷ tail
  pub no_white : white_space head ≡ false
  pub no_colon : (head == 0x3A) ≡ false
  pub no_caret : (head == 0x5E) ≡ false
  pub no_hyphen : (head == 0x2D) ≡ false

abbrev pub plain_opening : Opening
plain_opening = record { negated = false; leading = false }

module _ (l : Language) (leaves : LeavesEscapes l.white_space) where
  -- what is said of a bracket by the text behind its `[`, with another answer where a `:` stands there
  opens_plainly : {X : Type 0} (t : Text) → Opens l.white_space t → (say : Opening → Text → X) (other : X) →
      cond (is_some (behind ":" t)) other (say (header l t).0 (header l t).1) ≡ say plain_opening t
  opens_plainly {X} t h say other =
      let c = h.head in
      let u = h.tail in
      ap (λ t. cond (is_some (behind ":" t)) other (say (header l t).0 (header l t).1)) h.parts
      ∙ ap (λ b. cond (is_some (cond b (Some u) None)) other (say (header l (c ∷ u)).0 (header l (c ∷ u)).1)) h.no_colon
      ∙ ap (λ b. behind_caret (cond b (true, u) (false, c ∷ u))) h.no_caret
      ∙ ap (λ t. behind_white false (optional_code 0x2D t)) (stays l leaves c u h.no_white)
      ∙ ap (λ b. behind_white false (cond b (true, u) (false, c ∷ u))) h.no_hyphen
      ∙ ap (say plain_opening) (sym h.parts)
    where
      behind_white : Bool → Bool × Text → X
      behind_white negated hyphen = say (record { negated = negated; leading = hyphen.0 }) hyphen.1

      behind_caret : Bool × Text → X
      behind_caret caret = behind_white caret.0 (optional_code 0x2D (skip l.white_space caret.1))

  pub bracket_opens : (t : Text) → Opens l.white_space t → first l (0x5B ∷ t) ≡ of_bracket plain_opening t
  unfolding sign
  bracket_opens t h = opens_plainly t h of_bracket of_property

  pub bracket_opens_inside : (t : Text) → Opens l.white_space t → front l (ahead l (0x5B ∷ t)) ≡ opening plain_opening t
  unfolding sign
  bracket_opens_inside t h = ap (front l) (stays l leaves 0x5B t (leaves.no_sign 0x5B refl)) ∙ opens_plainly t h opening begins_unit

  pub backslash_opens : (t : Text) → Opens l.white_space (0x5C ∷ t)
  backslash_opens t = record { head = 0x5C; tail = t; parts = refl; no_white = leaves.no_sign 0x5C refl; no_colon = refl; no_caret = refl; no_hyphen = refl }

  range_opens : (r : CodePointRange) (more : Text) → Opens l.white_space (range_text r ++ more)
  range_opens r more = by (r.start == r.end)
    where
      by : (t : Bool) → Opens l.white_space (cond t (escaped r.start) (escaped r.start ++ 0x2D ∷ escaped r.end) ++ more)
      by true = backslash_opens (0x75 ∷ 0x7B ∷ ((digits 16 false r.start ++ 0x7D ∷ []) ++ more))
      by false = backslash_opens (0x75 ∷ 0x7B ∷ (((digits 16 false r.start ++ 0x7D ∷ []) ++ 0x2D ∷ escaped r.end) ++ more))

  strings_open : (ss : List (List ℕ)) (more : Text) → Opens l.white_space (flat_map string_text ss ++ 0x5D ∷ more)
  strings_open [] more = record { head = 0x5D; tail = more; parts = refl; no_white = leaves.no_sign 0x5D refl; no_colon = refl; no_caret = refl; no_hyphen = refl }
  strings_open (s ∷ ss) more = record {
    head = 0x7B;
    tail = ((flat_map escaped (chars s) ++ 0x7D ∷ []) ++ flat_map string_text ss) ++ 0x5D ∷ more;
    parts = refl;
    no_white = leaves.no_sign 0x7B refl;
    no_colon = refl;
    no_caret = refl;
    no_hyphen = refl;
  }

  pattern_opens : (rs : List CodePointRange) (ss : List (List ℕ)) (more : Text) → Opens l.white_space (flat_map range_text rs ++ (flat_map string_text ss ++ 0x5D ∷ more))
  pattern_opens [] ss more = strings_open ss more
  pattern_opens (r ∷ rs) ss more =
      subst (Opens l.white_space) (sym (append_assoc (range_text r) (flat_map range_text rs) (flat_map string_text ss ++ 0x5D ∷ more)))
      (range_opens r (flat_map range_text rs ++ (flat_map string_text ss ++ 0x5D ∷ more)))

  pub bracket_closes : (rest : Text) → ReadsItems l (0x5D ∷ rest) [] rest
  unfolding sign
  bracket_closes rest = ends (ap (front l) (stays l leaves 0x5D rest (leaves.no_sign 0x5D refl)))

  -- the whole pattern, as bytes
  pattern_reads : (rs : List CodePointRange) → All IsRange rs → (ss : List (List ℕ)) → All IsLongText ss → (rest : Text) →
      Reads l (pattern_text rs ss ++ rest) (bracket false false (add_ranges rs (add_strings ss done))) rest
  pattern_reads rs hr ss hs rest =
      let strings = (strings_part l leaves ss hs).part (0x5D ∷ rest) rest [] done (bracket_closes rest) empty in
      let all = (ranges_part l leaves rs hr).part (flat_map string_text ss ++ 0x5D ∷ rest) rest strings.0 (add_strings ss done) strings.1 strings.2 in
      let parts : pattern_text rs ss ++ rest ≡ 0x5B ∷ (flat_map range_text rs ++ (flat_map string_text ss ++ 0x5D ∷ rest)) =
      ap (λ t. 0x5B ∷ t) (append_assoc (flat_map range_text rs) (flat_map string_text ss ++ codes "]") rest
      ∙ ap (λ t. flat_map range_text rs ++ t) (append_assoc (flat_map string_text ss) (codes "]") rest)) in
      subst (λ t. Reads l t (bracket false false (add_ranges rs (add_strings ss done))) rest) (sym parts)
      (a_bracket {o = plain_opening} (bracket_opens (flat_map range_text rs ++ (flat_map string_text ss ++ 0x5D ∷ rest)) (pattern_opens rs ss rest)) all.1 all.2)

-- the members of the bracket
members_are : (rs : List CodePointRange) (ss : List (List ℕ)) → All IsLongText ss → (m : Member) → has (bracket false false (add_ranges rs (add_strings ss done))) m ≡ is_written rs ss m
members_are rs ss h (point c) = point_by_ranges c rs (add_strings ss done) false ∙ point_by_strings c ss (in_ranges rs c)
members_are rs ss h (string bytes) = string_by_ranges bytes rs (add_strings ss done) false ∙ string_by_strings bytes ss false h

pub escapes_are_read : EscapesAreRead
escapes_are_read = λ l leaves rs ss hr hs rest.
    let ascii = chars-IsAscii (pattern_text rs ss) (IsAscii-pattern_text rs hr ss hs) in
    let tree = bracket false false (add_ranges rs (add_strings ss done)) in
    record {
      tree = tree;
      reads = subst (λ t. Reads l (t ++ rest) tree rest) (sym ascii) (pattern_reads l leaves rs hr ss hs rest);
      same = members_are rs ss hs;
    }
