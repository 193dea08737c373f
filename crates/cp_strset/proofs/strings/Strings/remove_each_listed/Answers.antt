use Rattle.std.proofs.Common.{not, ◌&&◌, false, take, sym, ap, ◌∙◌, arith}
use Rattle.std.proofs.lemmas.List.{take_all}
use Rattle.std.proofs.lemmas.Map.Text.{btree_set_updates_text}
use Rattle.std.proofs.Math.Bool.{and-true}
use Rattle.std.specs.BTreeSet.{contains_text}
use Rattle.std.specs.String.{string_bytes}
use Rattle.cp_strset.proofs.StringsLemmas.{spelled_in, listed_removed_more, none_of_one_kept, bytes_spelled}
use Rattle.cp_strset.proofs.strings.Strings.remove_each_listed.Goals as goal

pub loop-text-init : goal.loop-text-init
loop-text-init c = λ bytes. ap (λ s. contains_text s bytes) c.self.view_is ∙ sym (and-true (contains_text c.args.self.now bytes))

pub loop-text-preserved : goal.loop-text-preserved
loop-text-preserved c = λ bytes.
    listed_removed_more _ _ _ c.args.strings.now c.loop-text.text-index c.text-item.result bytes c.loop-text-test.true c.text-item.is (c.loop-text.invariant bytes)
    (btree_set_updates_text (string_bytes c.text-item.result) c.loop-text.self-inside.texts c.remove.new.self false (rw c.as_str.ensures.value at c.remove.ensures.updates) bytes)

pub invariant_of-self : goal.invariant_of-self
invariant_of-self c =
    none_of_one_kept (λ bytes. not (spelled_in (take c.loop-text.text-index c.args.strings.now) bytes)) c.self.inside.texts.keys c.loop-text.self-inside.texts.keys c.self.invariant
    (λ bytes. rw (← c.self.view_is) at (c.loop-text.invariant bytes))

pub returns : goal.returns
returns c = λ bytes.
    c.loop-text.invariant bytes
    ∙ ap (λ b. contains_text c.args.self.now bytes && not b)
    (ap (λ ks. spelled_in ks bytes) (take_all c.loop-text.text-index c.args.strings.now (omega (arith, c.loop-text-test.false))) ∙ sym (bytes_spelled c.args.strings.now bytes))
