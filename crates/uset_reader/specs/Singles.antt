-- Items of one character that stand for themselves, as the code has them.
use Rattle.std.specs.Prelude.{[], ◌∷◌}
use Rattle.uset_grammar.specs.Item.{Item, chars, minus, ampersand, dollar}
use Rattle.uset_reader.specs.declared.item.Single.{Single}
use Rattle.uset_reader.specs.declared.item.Single.TheVariants.{Minus, Ampersand, Dollar, Other}
use Rattle.uset_reader.specs.Items.{number_of}

abbrev pub single_seen : Single → Item
single_seen Minus = minus
single_seen Ampersand = ampersand
single_seen Dollar = dollar
single_seen (Other c) = chars (number_of c ∷ [])
