use Rattle.uset_reader.proofs.found.FoundSet.leaf.Goals as goal

pub returns-in-Named-clause-fits : goal.returns-in-Named-clause-fits
returns-in-Named-clause-fits c = λ all fits. c.leaf_of_named.ensures.fits all
