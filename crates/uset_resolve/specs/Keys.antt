-- The keys of the properties whose values have names, and the words for truth and falsehood (UAX 44, 5.9; UTS 18, 1.2).
use Rattle.std.specs.Prelude.{ℕ, Bool, true, false, not, ◌==◌, ◌||◌, List, [], ◌∷◌, map, filter, find, codes, Option, Some, None, option_map, if◌then◌else◌}
use Rattle.std.specs.Char.{to_ascii_lowercase}
use Rattle.std.specs.List.{list_any}
use Rattle.std.specs.Str.{bytes_eq}

-- What the value behind a key names.
pub data Asked : Type 0 where
  -- a group of general categories
  categories : Asked
  -- a script among the script extensions
  extensions : Asked
  -- a value of another property, by the number of its table
  values : ℕ → Asked

-- a key as names of properties are compared with it: ASCII letters in lower case, without `_`
abbrev pub folded : List ℕ → List ℕ
folded key = map to_ascii_lowercase (filter (λ b. not (b == 0x5F)) key)

-- the text is one of these
abbrev pub is_one_of : List (List ℕ) → List ℕ → Bool
is_one_of texts text = list_any (λ t. bytes_eq t text) texts

-- the long and the short names, folded, and what a value behind them names
abbrev pub named_keys : List (List ℕ × List ℕ × Asked)
named_keys =
    (codes "generalcategory", codes "gc", categories)
    ∷ (codes "graphemeclusterbreak", codes "gcb", values 8)
    ∷ (codes "indicconjunctbreak", codes "incb", values 12)
    ∷ (codes "linebreak", codes "lb", values 7)
    ∷ (codes "script", codes "sc", values 4)
    ∷ (codes "sentencebreak", codes "sb", values 10)
    ∷ (codes "wordbreak", codes "wb", values 9)
    ∷ (codes "eastasianwidth", codes "ea", values 6)
    ∷ (codes "canonicalcombiningclass", codes "ccc", values 11)
    ∷ (codes "scriptextensions", codes "scx", extensions)
    ∷ (codes "block", codes "blk", values 1)
    ∷ []

-- whether the text is one of the names of a key
abbrev pub has_name : List ℕ → List ℕ × List ℕ × Asked → Bool
has_name text k = bytes_eq k.0 text || bytes_eq k.1 text

-- what the key with this name, folded, asks
abbrev pub asked_by : List ℕ → Option Asked
asked_by name = option_map (λ k. k.2) (find (has_name name) named_keys)

-- what a key asks, where it is one of those
abbrev pub key_of : List ℕ → Option Asked
key_of key = asked_by (folded key)

abbrev pub true_words : List (List ℕ)
true_words = codes "true" ∷ codes "t" ∷ codes "yes" ∷ codes "y" ∷ []

abbrev pub false_words : List (List ℕ)
false_words = codes "false" ∷ codes "f" ∷ codes "no" ∷ codes "n" ∷ []

-- whether a word stands for falsehood, where it is a word for that or for truth, ASCII case aside
abbrev pub falsy : List ℕ → Option Bool
falsy word =
    if is_one_of true_words (map to_ascii_lowercase word) then Some false
    else if is_one_of false_words (map to_ascii_lowercase word) then Some true
    else None
