use Rattle.uset_grammar.proofs.FrontRests.{suffix, named_behind, first_variable_behind, single_behind}
use Rattle.uset_grammar.proofs.UnitRests.{unit_behind}
use Rattle.uset_grammar.proofs.TextBefore.{at_is, last_is}
use Rattle.uset_grammar.proofs.UnitInFront.{reader}
use Rattle.uset_grammar.proofs.TurnIsMoveOrFault.{means}
use Rattle.uset_grammar.proofs.OneAnswer.{read_at_last, moves_onward}
use Rattle.uset_grammar.proofs.laws.turns.Goals as goal

pub returns-clause-units : goal.returns-clause-units
returns-clause-units c = reader

pub returns-clause-means : goal.returns-clause-means
returns-clause-means c = λ l units source bs before t e. means l units source bs t (suffix before e)

pub returns-clause-last : goal.returns-clause-last
returns-clause-last c = read_at_last

pub returns-clause-onward : goal.returns-clause-onward
returns-clause-onward c = moves_onward

pub returns-clause-places : goal.returns-clause-places
returns-clause-places c = λ l units source before rest. (at_is source before rest, λ last e. last_is source before rest (record { last = last; parts = e }))

pub returns-clause-behind : goal.returns-clause-behind
returns-clause-behind c = λ l. record {
  names = λ q n r f. named_behind l q n r f;
  first_names = λ t n r f. first_variable_behind l t n r f;
  singles = λ q r i f. single_behind l q r i f;
  units = λ both q r m h. unit_behind l both q m r h;
}
