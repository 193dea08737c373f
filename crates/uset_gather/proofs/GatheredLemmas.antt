-- What is gathered, member by member.
use Rattle.std.proofs.Common.{◌≡◌, ℕ, ◌≤◌, ◌&&◌, nat_le, List, arith}
use Rattle.std.proofs.lemmas.Bool.Decides.{nat_tests}
use Rattle.cp_invlist.specs.InversionList.{is_code_point}
use Rattle.uset_grammar.specs.Tree.{Member, point, string}

pub each_member : (P : Member → Type 0) → ((c : ℕ) → P (point c)) → ((bytes : List ℕ) → P (string bytes)) → (m : Member) → P m
each_member P points strings (point c) = points c
each_member P points strings (string bytes) = strings bytes

-- a range of code points has code points alone
pub within_code_points : (first last c : ℕ) → last ≤ 0x10FFFF → ((nat_le first c && nat_le c last) && is_code_point c) ≡ (nat_le first c && nat_le c last)
within_code_points first last c within = grind (arith, nat_tests)
