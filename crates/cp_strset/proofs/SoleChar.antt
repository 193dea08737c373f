-- The one character of a text, as a walk over its first two characters finds it.
use Rattle.std.proofs.Common.{◌≡◌, ℕ, ◌++◌, List, ◌∷◌, length, sym, ◌∙◌, ap, Some, None, encode_utf8}
use Rattle.std.specs.Str.{IsUtf8, chars}
use Rattle.std.proofs.lemmas.List.{nil_from_length}
use Rattle.std.proofs.lemmas.Str.{chars_past_char, chars-nil, IsUtf8-past_char}
use Rattle.cp_strset.specs.StringList.{sole_of}

pub sole_of-one : (bs rest : List ℕ) (c : ℕ) → IsUtf8 bs → bs ≡ encode_utf8 c ++ rest → length rest ≡ 0 → Some c ≡ sole_of (chars bs)
sole_of-one bs rest c text first empty =
    sym (ap sole_of (chars_past_char bs rest c text first ∙ ap (λ cs. c ∷ cs) (ap chars (nil_from_length rest empty) ∙ chars-nil)))

pub sole_of-more : (bs rest last : List ℕ) (c d : ℕ) → IsUtf8 bs → bs ≡ encode_utf8 c ++ rest → rest ≡ encode_utf8 d ++ last → None ≡ sole_of (chars bs)
sole_of-more bs rest last c d text first second =
    sym (
    ap sole_of (
    chars_past_char bs rest c text first
    ∙ ap (λ cs. c ∷ cs) (chars_past_char rest last d (IsUtf8-past_char bs rest c text first) second)
    )
    )
