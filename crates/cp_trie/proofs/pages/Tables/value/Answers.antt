use Rattle.cp_trie.proofs.PagesLemmas.{outer_within, blocks_within, values_within, value_by-reads}
use Rattle.cp_trie.proofs.pages.Tables.value.Goals as goal

pub returns-clause-value : goal.returns-clause-value
returns-clause-value g c =
    rw (← c.self.view_is) (value_by-reads _ c.args.c c.read.result c.read-2.result c.read-3.result c.read.ensures.element (rw c.from-block.ensures at c.read-2.ensures.element) (rw c.from-page.ensures at c.read-3.ensures.element))

pub read-requires : goal.read-requires
read-requires g c = outer_within _ c.args.c (rw (← c.self.view_is) at c.requires)

pub read-requires-2 : goal.read-requires-2
read-requires-2 g c =
    rw c.from-block.ensures (blocks_within _ c.args.c c.read.result (rw (← c.self.view_is) at c.requires) c.read.ensures.element)

pub read-requires-3 : goal.read-requires-3
read-requires-3 g c =
    rw c.from-page.ensures (values_within _ c.args.c c.read.result c.read-2.result (rw (← c.self.view_is) at c.requires) c.read.ensures.element (rw c.from-block.ensures at c.read-2.ensures.element))
