use Rattle.std.proofs.Common.{inl, inr, refl}
use Rattle.std.specs.String.{string_bytes}
use Rattle.uset_tool.proofs.program.say_sizes.Goals as goal

pub returns-in-Ok-clause-says : goal.returns-in-Ok-clause-says
returns-in-Ok-clause-says g c = inl (string_bytes c.in-Ok.answer.text, c.in-Ok.answer.is_err, c.in-Ok.ensures, rw (c.deref.ensures, c.status_of.ensures) at c.say.ensures.says)

pub returns-in-Err-clause-says : goal.returns-in-Err-clause-says
returns-in-Err-clause-says g c = inr (refl, refl)
