use Rattle.std.proofs.Common.{◌≡◌, ◌%◌, ◌==◌, not, length, ap, ◌∙◌, sym, rules}
use Rattle.cp_invlist.specs.InversionList.{has_even_length}
use Rattle.cp_invlist.specs.CutLaws.{odd_length}
use Rattle.cp_terms.proofs.changes.Changes.is_inside.Goals as goal

pub returns : goal.returns
returns c =
    let counted : c.len.result ≡ length c.self.inside.elements.items = search rules in
    ap (λ n. n % 2 == 1) counted ∙ (sym (odd_length c.self.inside.elements.items) ∙ ap (λ xs. not (has_even_length xs)) c.self.view_is)
