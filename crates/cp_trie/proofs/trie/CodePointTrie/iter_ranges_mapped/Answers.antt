use Rattle.cp_trie.specs.Map.{value_at}
use Rattle.cp_trie.proofs.CoverLemmas.{IsCover, IsCover-from_runs, Spells, Spells-runs}
use Rattle.cp_trie.proofs.MappedLemmas.{KeepsMapping-from_values, walk_gives}
use Rattle.cp_trie.proofs.trie.CodePointTrie.iter_ranges_mapped.Goals as goal

pub returns-clause-can_next : goal.returns-clause-can_next
returns-clause-can_next g c =
    let at = value_at c.args.self.now in
    let cover : IsCover 0 c.runs.result.now = IsCover-from_runs g.T.PartialEq.eq _ 0 _ c.runs.ensures.maximal in
    let spells : Spells at c.runs.result.now = Spells-runs g.T.PartialEq.eq c.args.self.now _ c.runs.ensures.runs c.runs.ensures.maximal in
    rw (c.new.ensures.map, c.new.ensures.runs) (KeepsMapping-from_values (λ v. g.F.Fn.pre c.args.map (v, tt)) (λ v u. g.F.Fn.post c.args.map (v, tt) u) at c.runs.result.now cover spells c.requires.callable c.requires.determined)

pub returns-clause-maximal : goal.returns-clause-maximal
returns-clause-maximal g c ys drains =
    let at = value_at c.args.self.now in
    let cover : IsCover 0 c.runs.result.now = IsCover-from_runs g.T.PartialEq.eq _ 0 _ c.runs.ensures.maximal in
    let spells : Spells at c.runs.result.now = Spells-runs g.T.PartialEq.eq c.args.self.now _ c.runs.ensures.runs c.runs.ensures.maximal in
    walk_gives g.U.PartialEq.eq g.met.U.Eq.laws.refl (λ m v u. g.F.Fn.post m (v, tt) u) (λ s. s.runs.now) (λ s. s.map) c.args.map at 0 c.new.result ys c.new.ensures.map (rw c.new.ensures.runs cover) (rw c.new.ensures.runs spells) drains
