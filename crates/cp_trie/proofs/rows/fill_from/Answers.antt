use Rattle.std.proofs.Common.{◌≡◌, ◌+◌, ◌-◌, length, take, drop, replicate, ap, ◌∙◌, ◌++◌, arith, length-drop}
use Rattle.std.proofs.lemmas.List.{length-take-le, length-replicate}
use Rattle.cp_trie.proofs.RowsLemmas.{take-patched}
use Rattle.cp_trie.proofs.rows.fill_from.Goals as goal

pub returns : goal.returns
returns g c =
    let places = c.args.places.now in
    let start = c.args.start in
    let count = c.args.count in
    let width : start + count - start ≡ count = omega arith in
    let size = length-take-le (start + count - start) (drop start places) (omega (arith, c.requires, length-drop start places)) in
    let filled : c.fill.new.places ≡ replicate count c.args.value = c.fill.ensures ∙ ap (λ n. replicate n c.args.value) (size ∙ width) in
    take-patched places c.fill.new.places _ start count (omega arith) (ap length filled ∙ length-replicate count c.args.value) ∙ ap (λ l. take start places ++ l) filled
