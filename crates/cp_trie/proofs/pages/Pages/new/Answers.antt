use Rattle.cp_trie.proofs.CoverLemmas.{IsCover-from_no_fault}
use Rattle.cp_trie.proofs.PagesLemmas.{one_stands}
use Rattle.cp_trie.proofs.pages.Pages.new.Goals as goal

pub returns-in-len1 : goal.returns-in-len1
returns-in-len1 g c =
    one_stands c.args.runs.now c.only-item.result (IsCover-from_no_fault 0 0 _ c.requires) c.in-len1.len_below c.only-item.is
