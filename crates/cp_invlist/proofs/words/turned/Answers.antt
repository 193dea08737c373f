use Rattle.cp_invlist.proofs.WordLemmas.{has_bit-turned}
use Rattle.cp_invlist.proofs.words.turned.Goals as goal

pub returns : goal.returns
returns c = λ j h. has_bit-turned c.args.word c.args.offset j c.requires h
