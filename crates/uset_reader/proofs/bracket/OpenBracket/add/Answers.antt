use Rattle.uset_reader.proofs.BracketLemmas.{added}
use Rattle.uset_reader.proofs.bracket.OpenBracket.add.Goals as goal

pub returns-clause-becomes : goal.returns-clause-becomes
returns-clause-becomes c = added c.add_range.result c.args.self.now.gathered c.add_range.new.self c.args.first c.args.last c.add_range.ensures.becomes c.add_range.ensures.places
