-- The numbers below a limit are those that unpack.
use Rattle.std.proofs.Common.{◌≡◌, ℕ, Bool, true, false, cond, Some, None, nat_lt, refl}
use Rattle.std.specs.Prelude.{is_some}
use Rattle.cp_trie.specs.Values.{below}

pub is_some_chosen : {V : Type 0} (b : Bool) (v : V) → is_some (cond b (Some v) None) ≡ b
is_some_chosen true v = refl
is_some_chosen false v = refl

pub below-is_some : (limit n : ℕ) → is_some (below limit n) ≡ nat_lt n limit
below-is_some limit n = is_some_chosen (nat_lt n limit) n
