use Rattle.std.proofs.Common.{refl}
use Rattle.cp_invlist.specs.InversionList.{contains}
use Rattle.uset_reader.proofs.SyntaxLemmas.{allowed-apart, visible_forbidden}
use Rattle.uset_reader.proofs.syntax.Syntax.of.Goals as goal

pub invariant_of-result : goal.invariant_of-result
invariant_of-result c =
    let allowed = c.in_ok-white_space.ensures.allowed in
    record {
      apart = allowed-apart (contains c.in_ok-white_space.white_space.now) allowed;
      letter = allowed 0x61 refl;
      visible = λ n graphic. allowed n (visible_forbidden n graphic);
    }
