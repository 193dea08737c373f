use Rattle.std.proofs.Common.{◌&&◌, arith, map, ap, ap₂, ◌∙◌}
use Rattle.std.proofs.lemmas.Bool.{le-leb}
use Rattle.std.proofs.lemmas.List.{length-map}
use Rattle.std.proofs.lemmas.Option.{slice_get_within}
use Rattle.std.proofs.lemmas.Result.{on_ok_weaker}
use Rattle.cp_terms.specs.Terms.{holds_at, value_of}
use Rattle.cp_strset_terms.specs.Leaves.{leaf_holds}
use Rattle.cp_strset_terms.proofs.TermLemmas.{value_of-same}
use Rattle.cp_strset_terms.proofs.members.push_kept.Goals as goal

pub returns : goal.returns
returns c = on_ok_weaker c.push_members.result (λ kept. kept (λ text. value_of (leaf_holds c.args.leaves.now text) c.args.steps.now) (λ place text here.
    let within = slice_get_within (map (λ text. text.now) c.args.list.now) place text here in
    let lists = ap (map (λ set. set.now)) c.deref-2.ensures.value ∙ (c.in_ok-references.ensures ∙ c.deref.ensures.value) in
    c.in_ok-places.ensures place
    ∙ ap₂ ◌&&◌ (le-leb place 0x10_FFFF (omega (arith, within, c.requires.numbered, length-map c.args.list.now (λ text. text.now))))
    (ap (λ sets. value_of (holds_at sets place) c.args.steps.now) lists ∙ value_of-same _ _ c.args.steps.now (c.in_ok-sets.ensures place text here)))) c.push_members.ensures
