use Rattle.uset_reader.proofs.BracketLemmas.{added}
use Rattle.uset_reader.proofs.bracket.OpenBracket.add_front.Goals as goal

pub returns-in-Some-clause-becomes : goal.returns-in-Some-clause-becomes
returns-in-Some-clause-becomes c =
    rw c.in-Some.is (added c.add_range.result c.args.self.now.gathered c.add_range.new.self c.in-Some.range.start c.in-Some.range.end c.add_range.ensures.becomes c.add_range.ensures.places)
