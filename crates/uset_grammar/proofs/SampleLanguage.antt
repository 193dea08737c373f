-- A small language in which sources are worked: some white space, ASCII letters as the beginnings of names, four variables, and no
-- properties but those of the three tables of the syntax.
use Rattle.std.proofs.Common.{◌≡◌, ◌+◌, ℕ, Bool, true, false, ◌&&◌, ◌||◌, ◌==◌, nat_le, List, [], ◌∷◌, Option, Some, None, is_some, if◌then◌else◌, codes, refl, ap, ◌∙◌}
use Rattle.std.proofs.lemmas.Bool.{eqb-true}
use Prim.Native.Char.{code}
use Prim.Native.String.{String}
use Rattle.uset_grammar.specs.Text.{Text, ◌∈◌, is_among}
use Rattle.uset_grammar.specs.Escape.{is_hex}
use Rattle.uset_grammar.specs.Tree.{Member, in_range, is_text}
use Rattle.uset_grammar.specs.Language.{Language, Lawful, Value, character, string as a_string, set, Resolved}

-- the same text
abbrev same : Text → Text → Bool
same [] [] = true
same [] (d ∷ u) = false
same (c ∷ t) [] = false
same (c ∷ t) (d ∷ u) = (c == d) && same t u

abbrev is_one_of : Text → List String → Bool
is_one_of t [] = false
is_one_of t (word ∷ words) = same t (codes word) || is_one_of t words

abbrev lower : ℕ → ℕ
lower c = if nat_le (code "A") c && nat_le c (code "Z") then c + 32 else c

abbrev lowered : Text → Text
lowered [] = []
lowered (c ∷ t) = lower c ∷ lowered t

-- in lower case, without `_`
abbrev folded : Text → Text
folded [] = []
folded (c ∷ t) = if c ∈ "_" then folded t else lower c ∷ folded t

abbrev spaces : List ℕ
spaces = 0x20 ∷ 0x9 ∷ 0xA ∷ 0xB ∷ 0xC ∷ 0xD ∷ 0x85 ∷ 0x200E ∷ 0x200F ∷ 0x2028 ∷ 0x2029 ∷ []

abbrev pub is_space : ℕ → Bool
is_space c = is_among c spaces

abbrev pub begins_name : ℕ → Bool
begins_name c = (nat_le (code "A") c && nat_le c (code "Z")) || (nat_le (code "a") c && nat_le c (code "z"))

abbrev pub continues_name : ℕ → Bool
continues_name c = begins_name c || ((nat_le (code "0") c && nat_le c (code "9")) || c ∈ "_")

-- `[a-z{bc}]`
abbrev pub letters_and_bc : Member → Bool
letters_and_bc m = in_range (code "a") (code "z") m || is_text (codes "bc") m

abbrev bound : Text → Option Value
bound name =
    if same name (codes "a") then Some (character (code "a"))
    else if same name (codes "v") then Some (a_string (codes "ab"))
    else if same name (codes "s") then Some (set letters_and_bc)
    else if same name (codes "ab") then Some (character (code "z"))
    else None

-- the set of a name, byte for byte
abbrev table : Text → Option (ℕ → Bool)
table key =
    if is_one_of key ("XID_Start" ∷ "XIDS" ∷ []) then Some begins_name
    else if is_one_of key ("XID_Continue" ∷ "XIDC" ∷ []) then Some continues_name
    else if is_one_of key ("Pattern_White_Space" ∷ "Pat_WS" ∷ []) then Some is_space
    else None

-- whether the value is a word for falsehood, where it is none or a word of truth
abbrev falsehood : Option Text → Option Bool
falsehood None = Some false
falsehood (Some value) =
    if is_one_of (lowered value) ("true" ∷ "t" ∷ "yes" ∷ "y" ∷ []) then Some false
    else if is_one_of (lowered value) ("false" ∷ "f" ∷ "no" ∷ "n" ∷ []) then Some true
    else None

abbrev resolved : Option (ℕ → Bool) → Option Bool → Option Resolved
resolved None falsy = None
resolved (Some source) None = None
resolved (Some source) (Some falsy) = Some (record { falsy = falsy; source = source })

abbrev pub sample : Language
sample = record {
  white_space = is_space;
  start = begins_name;
  continue = continues_name;
  variable = bound;
  resolve = λ key value. resolved (table key) (falsehood value);
  lacking = λ key value. is_some value && is_one_of (folded key) ("block" ∷ "blk" ∷ []);
}

abbrev AreNoDigits : List ℕ → Type 0
AreNoDigits [] = Unit {0}
AreNoDigits (d ∷ []) = is_hex d ≡ false
AreNoDigits (d ∷ e ∷ ds) = (is_hex d ≡ false) × AreNoDigits (e ∷ ds)

no_digit_among : (ds : List ℕ) → AreNoDigits ds → (c : ℕ) → is_among c ds ≡ true → is_hex c ≡ false
no_digit_among [] h c e = absurd (let g = e in cc)
no_digit_among (d ∷ []) h c e = ap is_hex (eqb-true c d e) ∙ h
no_digit_among (d ∷ e ∷ ds) h c k = by (c == d) refl k (λ g. no_digit_among (e ∷ ds) h.1 c g)
  where
    by : (x : Bool) → (c == d) ≡ x → (x || is_among c (e ∷ ds)) ≡ true → (is_among c (e ∷ ds) ≡ true → is_hex c ≡ false) → is_hex c ≡ false
    by true is k more = ap is_hex (eqb-true c d is) ∙ h.0
    by false is k more = more k

spaces_are_no_digits : AreNoDigits spaces
unfolding is_hex
spaces_are_no_digits = (refl, (refl, (refl, (refl, (refl, (refl, (refl, (refl, (refl, (refl, refl))))))))))

pub lawful : Lawful sample
lawful = record { no_digit = λ c e. no_digit_among spaces spaces_are_no_digits c e; no_brace = refl; no_backslash = refl }
