-- Rows of tables of names.
use Rattle.std.proofs.Common.{◌≡◌, ℕ, ◌<◌, Bool, true, false, not, List, length, [], ◌∷◌, All, is_some, Option, Some, None, unwrap_or, cond, refl, sym, ap, ◌∙◌, arith}
use Rattle.std.proofs.lemmas.Bool.Decides.{nat_tests}
use Rattle.std.proofs.lemmas.Bool.{and_parts, eq-eqb}
use Rattle.std.proofs.lemmas.List.Elements.{All-nil, All-cons}
use Rattle.std.proofs.lemmas.Option.{cond_some}
use Rattle.prop_names.specs.Names.{Names}
use Rattle.prop_names.specs.ValueNames.{not_empty}
use Rattle.prop_data.specs.declared.error.TableErrorKind.TheVariants.{BadName, NamesClash}
use Rattle.prop_values.specs.Subtag.{is_four_letters, in_subtag_case}
use Rattle.prop_data.specs.Headers.{names_table, long_table, short_table}
use Rattle.prop_data.specs.declared.load.texts.Length.{Length}
use Rattle.prop_data.specs.declared.load.texts.Length.TheVariants.{Long, Short}
use Rattle.prop_data.specs.Lengths.{has_subtags}
use Rattle.prop_data.specs.Loading.{table_of_length, last_after}
use Rattle.prop_data.specs.Rows.{as_kept, is_subtags}
use Rattle.prop_data.specs.Changes.{with_names, with_texts}
use Rattle.prop_data.specs.Line.{Row}
use Rattle.prop_data.specs.Numbers.{decimal_number}
use Rattle.prop_data.specs.Tables.{Tables}
use Rattle.prop_data.specs.LineFault.{is_name_character, is_name, accepts_name, clashes, name_fault, row_fault, names_row_fault, accepts_value, kept_of, text_fault, text_row_fault, no_text}

-- the row of a name is tested against the names of its table
pub names_row : (t n : ℕ) (first text : List ℕ) (second : Option (List ℕ)) (names : Names) (tables : Tables) → second ≡ Some text → Some n ≡ decimal_number first →
    row_fault (with_names t names tables) (Some (names_table t)) None (first, second) ≡ name_fault t names n text
names_row t n first text second names tables second_is number_is =
    ap (λ (s : Option (List ℕ)). row_fault (with_names t names tables) (Some (names_table t)) None (first, s)) second_is
    ∙ (ap (λ (b : Bool). names_row_fault t (unwrap_or (cond b (Some names) (tables.names t)) []) (decimal_number first) text) (eq-eqb t t refl)
    ∙ ap (λ (o : Option ℕ). names_row_fault t names o text) (sym number_is))

pub name_fault-none : (t n : ℕ) (names : Names) (text : List ℕ) → accepts_name t n ≡ true → is_name text ≡ true → clashes names text n ≡ false → name_fault t names n text ≡ None
name_fault-none t n names text taken named fits = rw (taken, named, fits) refl

pub name_fault-clash : (t n : ℕ) (names : Names) (text : List ℕ) → accepts_name t n ≡ true → is_name text ≡ true → clashes names text n ≡ true → name_fault t names n text ≡ Some NamesClash
name_fault-clash t n names text taken named clash = rw (taken, named, clash) refl

-- a number that the table of names takes
pub accepted_name-some : (t n v : ℕ) → Some v ≡ cond (accepts_name t n) (Some n) None → (v ≡ n) × (accepts_name t n ≡ true)
accepted_name-some t n v h = let p = cond_some (accepts_name t n) n v (sym h) in (sym p.1, p.0)

-- names are ASCII
pub is_name-ascii : (text : List ℕ) → is_name text ≡ true → All (λ c. c < 128) text
is_name-ascii [] h = All-nil (λ c. c < 128)
is_name-ascii (c ∷ text) h =
    let p = and_parts (is_name_character c) (is_name text) h in
    All-cons (λ c. c < 128) c text (ascii c p.0) (is_name-ascii text p.1)
  where
    ascii : (c : ℕ) → is_name_character c ≡ true → c < 128
    ascii c h = grind (arith, nat_tests)

-- the row of a name is tested against the names of its table
pub text_row : (l : Length) (t n : ℕ) (first text : List ℕ) (second : Option (List ℕ)) (texts : ℕ → Option (List ℕ)) (tables : Tables) → second ≡ Some text → Some n ≡ decimal_number first →
    row_fault (with_texts l t texts tables) (Some (table_of_length l t)) None (first, second) ≡ text_fault (has_subtags l t) t texts n text
text_row Long t n first text second texts tables second_is number_is =
    ap (λ (s : Option (List ℕ)). row_fault (with_texts Long t texts tables) (Some (long_table t)) None (first, s)) second_is
    ∙ (ap (λ (b : Bool). text_row_fault false t (unwrap_or (cond b (Some texts) (tables.long t)) no_text) (decimal_number first) text) (eq-eqb t t refl)
    ∙ ap (λ (o : Option ℕ). text_row_fault false t texts o text) (sym number_is))
text_row Short t n first text second texts tables second_is number_is =
    ap (λ (s : Option (List ℕ)). row_fault (with_texts Short t texts tables) (Some (short_table t)) None (first, s)) second_is
    ∙ (ap (λ (b : Bool). text_row_fault (is_subtags t) t (unwrap_or (cond b (Some texts) (tables.short t)) no_text) (decimal_number first) text) (eq-eqb t t refl)
    ∙ ap (λ (o : Option ℕ). text_row_fault (is_subtags t) t texts o text) (sym number_is))

-- the name of a row that passes its tests, as it is kept
pub text_fault-none : (s : Bool) (t n : ℕ) (texts : ℕ → Option (List ℕ)) (text kept : List ℕ) → accepts_value t n ≡ true → Some kept ≡ kept_of s text → is_some (texts n) ≡ false → text_fault s t texts n text ≡ None
text_fault-none s t n texts text kept taken kept_is new = rw (taken, new, ← kept_is) refl

-- the kept name is the text, or its subtag
pub kept_of-as_kept : (s : Bool) (text kept : List ℕ) → Some kept ≡ kept_of s text → kept ≡ as_kept s text
kept_of-as_kept s text kept h = by_test (is_name text) s h
  where
    subtag : (b : Bool) → Some kept ≡ cond b (Some (in_subtag_case text)) None → kept ≡ in_subtag_case text
    subtag true h = cc
    subtag false h = cc

    same : (t : List ℕ) → Some kept ≡ not_empty t → kept ≡ t
    same [] h = cc
    same (c ∷ cs) h = cc

    by_test : (b s : Bool) → Some kept ≡ cond (not b) None (cond s (cond (is_four_letters text) (Some (in_subtag_case text)) None) (not_empty text)) → kept ≡ as_kept s text
    by_test false s h = cc
    by_test true true h = subtag (is_four_letters text) h
    by_test true false h = same text h

-- no name that is kept is empty
pub kept_of-filled : (s : Bool) (text kept : List ℕ) → Some kept ≡ kept_of s text → 0 < length kept
kept_of-filled s text kept h = by_test (is_name text) s h
  where
    filled : (t : List ℕ) → Some kept ≡ not_empty t → 0 < length kept
    filled [] h = absurd (let g = h in cc)
    filled (c ∷ cs) h = let same : kept ≡ c ∷ cs = cc in omega (arith, ap length same)

    subtag : (t : List ℕ) (b : Bool) → is_four_letters t ≡ b → Some kept ≡ cond b (Some (in_subtag_case t)) None → 0 < length kept
    subtag t false is h = absurd (let g = h in cc)
    subtag [] true is h = absurd (let g = is in cc)
    subtag (x ∷ xs) true is h = let same : kept ≡ in_subtag_case (x ∷ xs) = cc in omega (arith, ap length same)

    by_test : (b s : Bool) → Some kept ≡ cond (not b) None (cond s (cond (is_four_letters text) (Some (in_subtag_case text)) None) (not_empty text)) → 0 < length kept
    by_test false s h = absurd (let g = h in cc)
    by_test true true h = subtag text (is_four_letters text) refl h
    by_test true false h = filled text h

pub text_fault-bad_name : (s : Bool) (t n : ℕ) (texts : ℕ → Option (List ℕ)) (text : List ℕ) → accepts_value t n ≡ true → kept_of s text ≡ None → text_fault s t texts n text ≡ Some BadName
text_fault-bad_name s t n texts text taken bad = rw (taken, bad) refl

pub text_fault-clash : (s : Bool) (t n : ℕ) (texts : ℕ → Option (List ℕ)) (text kept : List ℕ) → accepts_value t n ≡ true → Some kept ≡ kept_of s text → is_some (texts n) ≡ true → text_fault s t texts n text ≡ Some NamesClash
text_fault-clash s t n texts text kept taken kept_is there = rw (taken, there, ← kept_is) refl

-- a number that the property takes
pub accepted-taken : (t n v : ℕ) → Some v ≡ cond (accepts_value t n) (Some n) None → (v ≡ n) × (accepts_value t n ≡ true)
accepted-taken t n v h = let p = cond_some (accepts_value t n) n v (sym h) in (sym p.1, p.0)

-- tables of names have no ranges
pub last_after-texts : (l : Length) (t : ℕ) (r : Row) → None ≡ last_after (Some (table_of_length l t)) r None
last_after-texts Long t r = refl
last_after-texts Short t r = refl
