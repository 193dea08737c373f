use Rattle.uset_reader.specs.declared.item.Item.TheVariants.{Minus, Ampersand, Dollar, Single}
use Rattle.uset_reader.proofs.UnitLemmas.{plain_item}
use Rattle.uset_reader.proofs.item.Single.into_item.Goals as goal

pub returns-in-Minus-clause-item : goal.returns-in-Minus-clause-item
returns-in-Minus-clause-item c = rw c.in-Minus.is (λ l g. plain_item l g Minus tt)

pub returns-in-Ampersand-clause-item : goal.returns-in-Ampersand-clause-item
returns-in-Ampersand-clause-item c = rw c.in-Ampersand.is (λ l g. plain_item l g Ampersand tt)

pub returns-in-Dollar-clause-item : goal.returns-in-Dollar-clause-item
returns-in-Dollar-clause-item c = rw c.in-Dollar.is (λ l g. plain_item l g Dollar tt)

pub returns-in-Other-clause-item : goal.returns-in-Other-clause-item
returns-in-Other-clause-item c = rw c.in-Other.is (λ l g. plain_item l g (Single c.in-Other.c) tt)
