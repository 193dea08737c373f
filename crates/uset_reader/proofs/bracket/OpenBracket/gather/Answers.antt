use Rattle.std.proofs.lemmas.Result.{on_ok_weaker}
use Rattle.uset_reader.proofs.BracketLemmas.{gathers_several, gathers_text, gathers_named_text, gathers_inner, gathers_named, gathers_again}
use Rattle.uset_reader.proofs.bracket.OpenBracket.gather.Goals as goal

pub returns-in-Several-clause-becomes : goal.returns-in-Several-clause-becomes
returns-in-Several-clause-becomes c =
    rw c.in-Several.is (on_ok_weaker c.add_each.result (gathers_several c.args.operation c.in-Several.codes c.args.self.now.gathered c.add_each.new.self.gathered) (rw c.deref.ensures.value at c.add_each.ensures.becomes))

pub returns-in-Text-clause-becomes : goal.returns-in-Text-clause-becomes
returns-in-Text-clause-becomes c =
    rw c.in-Text.is (on_ok_weaker c.add_text.result (gathers_text c.args.operation c.in-Text.text c.args.self.now.gathered c.add_text.new.self) c.add_text.ensures.becomes)

pub returns-in-Set-Inner-clause-becomes : goal.returns-in-Set-Inner-clause-becomes
returns-in-Set-Inner-clause-becomes c =
    rw (c.in-Set-Inner.is, c.in-Set-Inner.field-0-is) (on_ok_weaker c.gather.result (gathers_inner c.args.operation c.in-Set-Inner.set c.args.self.now.gathered c.gather.new.self) c.gather.ensures.becomes)

pub returns-in-Set-Named-clause-becomes : goal.returns-in-Set-Named-clause-becomes
returns-in-Set-Named-clause-becomes c =
    rw (c.in-Set-Named.is, c.in-Set-Named.field-0-is) (on_ok_weaker c.gather_named-in-Set-Named.result (gathers_named c.args.operation c.in-Set-Named.named c.args.self.now.gathered c.gather_named-in-Set-Named.new.self) (rw c.into_inner-named-in-Set-Named.ensures at c.gather_named-in-Set-Named.ensures.becomes))

pub returns-in-Set-Again-clause-becomes : goal.returns-in-Set-Again-clause-becomes
returns-in-Set-Again-clause-becomes c =
    rw (c.in-Set-Again.is, c.in-Set-Again.field-0-is) (on_ok_weaker c.gather_again.result (gathers_again c.args.operation c.in-Set-Again.place c.args.self.now.gathered c.gather_again.new.self) c.gather_again.ensures.gathers)

pub returns-in-NamedText-clause-becomes : goal.returns-in-NamedText-clause-becomes
returns-in-NamedText-clause-becomes c =
    rw c.in-NamedText.is (on_ok_weaker c.gather_named.result (gathers_named_text c.args.operation c.in-NamedText.named c.args.self.now.gathered c.gather_named.new.self) (rw c.into_inner-named.ensures at c.gather_named.ensures.becomes))
