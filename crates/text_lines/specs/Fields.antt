-- The fields of a line, as their bytes.
use Rattle.std.specs.Prelude.{ℕ, Bool, true, false, ◌||◌, ◌==◌, List, [], ◌∷◌, drop, if◌then◌else◌}
use Rattle.std.specs.List.{before_first, onto_first, position_or_len, prefix_len}
use Rattle.std.specs.Str.{bytes_eq}

-- a space or a tab
abbrev pub is_blank : ℕ → Bool
is_blank c = (c == 0x20) || (c == 0x09)

abbrev pub begins_blank : List ℕ → Bool
begins_blank [] = true
begins_blank (c ∷ bytes) = is_blank c

-- the maximal runs of bytes other than space and tab
abbrev pub runs : List ℕ → List (List ℕ)
runs [] = []
runs (c ∷ bytes) =
    if is_blank c then runs bytes
    else if begins_blank bytes then (c ∷ []) ∷ runs bytes
    else onto_first c (runs bytes)

-- the bytes without the blanks in front
abbrev pub unindented : List ℕ → List ℕ
unindented bytes = drop (prefix_len is_blank bytes) bytes

-- the bytes from the first blank on
abbrev pub from_blank : List ℕ → List ℕ
from_blank bytes = drop (position_or_len is_blank bytes) bytes

-- what stands behind the first run
abbrev pub behind_run : List ℕ → List ℕ
behind_run bytes = from_blank (unindented bytes)

-- the fields of a line: the runs before its first `#`
abbrev pub fields : List ℕ → List (List ℕ)
fields line = runs (before_first (λ b. b == 0x23) line)

abbrev pub sole_is : List ℕ → List (List ℕ) → Bool
sole_is word [] = false
sole_is word (field ∷ []) = bytes_eq field word
sole_is word (field ∷ other ∷ more) = false

-- the line has one field, and it is this word
unfoldable pub is_sole : List ℕ → List ℕ → Bool
is_sole word line = sole_is word (fields line)

-- the lines through the first whose one field is the word
abbrev pub through : List ℕ → List (List ℕ) → List (List ℕ)
through word [] = []
through word (line ∷ ls) = if is_sole word line then line ∷ [] else line ∷ through word ls

-- the lines behind that line
abbrev pub past : List ℕ → List (List ℕ) → List (List ℕ)
past word [] = []
past word (line ∷ ls) = if is_sole word line then ls else past word ls
