use Rattle.cp_strset_terms.proofs.PlacesLemmas.{search_finds}
use Rattle.cp_strset_terms.proofs.places.place_of.Goals as goal

pub returns : goal.returns
returns c = rw c.ok.ensures.value (search_finds (λ text. text.now) c.args.list.now c.args.text.now c.binary_search.result c.requires.ascending c.binary_search.ensures.bound c.binary_search.ensures.position)
