use Rattle.uset_grammar.proofs.ThreeLists.{three_lists_tell, close_fits_behind_body}
use Rattle.uset_grammar.proofs.laws.fits_by_lists.Goals as goal

pub returns-clause-items : goal.returns-clause-items
returns-clause-items c = three_lists_tell

pub returns-clause-close : goal.returns-clause-close
returns-clause-close c = close_fits_behind_body
