-- A number padded with zeros.
use Rattle.std.proofs.Common.{◌≡◌, ℕ, ◌-◌, ◌^◌, false, List, [], ◌++◌, length, replicate, arith}
use Rattle.std.proofs.lemmas.List.{append-nil}
use Rattle.std.specs.Fmt.{padded_integral, format_spec, char_count}

-- at least four digits
pub four_digits : (numeral : List ℕ) → padded_integral (format_spec 32 0 4 4 (2 ^ 64 - 1)) false [] numeral ≡ replicate (4 - length numeral) 0x30 ++ numeral
unfolding padded_integral char_count
four_digits numeral =
    let missing : 4 - length numeral - 0 - 0 ≡ 4 - length numeral = omega arith in
    (λ i. replicate (missing i) 0x30 ++ append-nil numeral i)
