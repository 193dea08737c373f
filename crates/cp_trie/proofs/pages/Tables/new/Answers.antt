use Rattle.std.proofs.Common.{length, ap, ◌∙◌, arith}
use Rattle.cp_trie.specs.Rows.{spelled}
use Rattle.cp_trie.proofs.CoverLemmas.{IsCover, IsCover-from_no_fault}
use Rattle.cp_trie.proofs.PagesLemmas.{length-values_of, stand_for}
use Rattle.cp_trie.proofs.RowsLemmas.{length-laid}
use Rattle.cp_trie.proofs.pages.Tables.new.Goals as goal

pub blocks_of-requires-clause-few : goal.blocks_of-requires-clause-few
blocks_of-requires-clause-few g c =
    let size = length-values_of 0 _ (IsCover-from_no_fault 0 0 c.args.runs.now c.requires) in
    rw c.deref.ensures.value (omega (arith, size, length-laid c.in_ok-pages.pages c.in_ok-pages.ensures.cut, ap length c.in_ok-pages.ensures.laid))

pub blocks_of-requires-clause-whole : goal.blocks_of-requires-clause-whole
blocks_of-requires-clause-whole g c =
    let size = length-values_of 0 _ (IsCover-from_no_fault 0 0 c.args.runs.now c.requires) in
    rw c.deref.ensures.value (omega (arith, size, length-laid c.in_ok-pages.pages c.in_ok-pages.ensures.cut, ap length c.in_ok-pages.ensures.laid))

pub outer_of-requires : goal.outer_of-requires
outer_of-requires g c =
    let size = length-values_of 0 _ (IsCover-from_no_fault 0 0 c.args.runs.now c.requires) in
    let numbers = c.in_ok-blocks.ensures.laid ∙ ap spelled c.deref.ensures.value in
    rw c.deref-2.ensures.value (omega (arith, size, length-laid c.in_ok-pages.pages c.in_ok-pages.ensures.cut, ap length c.in_ok-pages.ensures.laid, length-laid c.in_ok-blocks.blocks c.in_ok-blocks.ensures.cut, ap length numbers))

pub returns : goal.returns
returns g c =
    let cover : IsCover 0 c.args.runs.now = IsCover-from_no_fault 0 0 _ c.requires in
    let numbers = c.in_ok-blocks.ensures.laid ∙ ap spelled c.deref.ensures.value in
    rw (c.new.ensures, c.new-2.ensures ∙ c.into_values.ensures, c.new-3.ensures ∙ c.into_values-2.ensures, c.in_ok-outer.ensures ∙ ap spelled c.deref-2.ensures.value)
    (stand_for c.in_ok-pages.pages.shelf.values.items (spelled c.in_ok-pages.pages.numbers.items) c.in_ok-blocks.blocks.shelf.values.items (spelled c.in_ok-blocks.blocks.numbers.items) c.args.runs.now c.in_ok-pages.ensures.cut.within c.in_ok-blocks.ensures.cut.within c.in_ok-pages.ensures.laid numbers cover)
