use Rattle.std.proofs.Common.{sym, ◌∙◌, ap}
use Rattle.std.specs.List.{splice}
use Rattle.std.proofs.lemmas.List.{map-id}
use Rattle.std.proofs.lemmas.Iterator.{items_from_drains, YieldsList-from_slice}
use Rattle.std.proofs.lemmas.Iterator.Consumers.{YieldsList-from_copied}
use Rattle.cp_invlist.proofs.builder.replace.Goals as goal

pub returns-clause-ok : goal.returns-clause-ok
returns-clause-ok c =
    let h = c.in_ok-splice.ensures.items in
    let drained = h.3 in
    let e = items_from_drains h.1 (drained.1.0, drained.1.1, λ _. (drained.0, drained.1.2)) (YieldsList-from_copied (YieldsList-from_slice c.args.with.now cc)) in
    h.4 ∙ ap (splice c.args.elements.now.items c.args.low c.args.high) (sym (map-id h.1) ∙ e)
