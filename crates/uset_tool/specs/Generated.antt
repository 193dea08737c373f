-- The pattern that a number tells, and what is answered for a pattern whose set is measured.
use Rattle.std.specs.Prelude.{◌≡◌, ℕ, zero, suc, ◌+◌, ◌*◌, ◌/◌, ◌%◌, ◌^◌, Bool, true, false, List, [], ◌++◌, length, sum_by, codes, decimal, Option}
use Rattle.std.specs.Str.{chars}
use Rattle.std.specs.String.{string_bytes}
use Rattle.cp_invlist.specs.declared.ranges.CodePointRange.{CodePointRange}
use Rattle.cp_invlist.specs.InversionList.{contains}
use Rattle.cp_invlist.specs.Ranges.{AreMaximalRanges}
use Rattle.cp_invlist.specs.Size.{range_size}
use Rattle.cp_strset.specs.PatternText.{escaped}
use Rattle.uset_grammar.specs.Text.{Text}
use Rattle.uset_grammar.specs.Outcome.{Kind}
use Rattle.uset_grammar.specs.Tree.{Tree, point, has}
use Rattle.uset_grammar.specs.Language.{Language}
use Rattle.uset_grammar.specs.Place.{size}
use Rattle.uset_grammar.specs.Answers.{ReadsUnder, IsFault}
use Rattle.uset_tool.specs.declared.answer.Answer.{Answer}
use Rattle.uset_tool.specs.Answer.{line_end, fault_text}

-- the number behind x, in a sequence that looks random
abbrev pub next : ℕ → ℕ
next x = (x * 1103515245 + 12345) % 2 ^ 31

-- the code points of the element of x at place i, the first of which is at most FFFFF
abbrev pub first_point : ℕ → ℕ
first_point x = x / 16 % 2 ^ 20

abbrev pub last_point : ℕ → ℕ → ℕ
last_point x i = first_point x + i % 8

-- the element: a bracket around them as a range in escapes
abbrev pub element : ℕ → ℕ → List ℕ
element x i = codes "[" ++ (escaped (first_point x) ++ (codes "-" ++ (escaped (last_point x i) ++ codes "]")))

-- so many elements from place i on, where x is the number before theirs
abbrev pub elements : ℕ → ℕ → ℕ → List ℕ
elements zero i x = []
elements (suc count) i x = element (next x) i ++ elements count (i + 1) (next x)

-- The pattern of n: a bracket of n elements, whose numbers begin behind n.
abbrev pub pattern_of : ℕ → List ℕ
pattern_of n = codes "[" ++ (elements n 0 n ++ codes "]")

-- how many bytes are read, how many ranges there are, and how many code points they have together
abbrev pub sizes_text : ℕ → List CodePointRange → List ℕ
sizes_text n rs =
    codes "bytes " ++ (decimal n
    ++ (codes "\nranges " ++ (decimal (length rs)
    ++ (codes "\npoints " ++ (decimal (sum_by range_size rs) ++ line_end)))))

-- The answer to a pattern that is measured, and whether it is an `err` line.
pub data SizesAnswer (l : Option Language) (source : List ℕ) : List ℕ → Bool → Type 0 where
  measured : {tree : Tree} {rest : Text} (n : ℕ) (rs : List CodePointRange) → ReadsUnder (chars source) tree rest l →
      n + size rest ≡ length source → AreMaximalRanges (λ c. has tree (point c)) rs →
      SizesAnswer l source (sizes_text n rs) false
  unread : {kind : Kind} {offset : Option ℕ} → IsFault l (chars source) kind offset →
      SizesAnswer l source (fault_text kind offset source) true

-- the answer for a set of which so many bytes are read
abbrev pub IsSizesAnswer : ℕ → List ℕ → Answer → Type 0
IsSizesAnswer n set answer =
    (rs : List CodePointRange) × AreMaximalRanges (contains set) rs × (string_bytes answer.text ≡ sizes_text n rs) ×
    (answer.is_err ≡ false)
