use Rattle.std.proofs.Common.{rules, false, not, ◌&&◌, ◌∷◌, [], ◌++◌, sym, ap, ◌∙◌, append_assoc}
use Rattle.std.proofs.lemmas.Map.Text.{btree_set_updates_text}
use Rattle.std.proofs.Math.Bool.{and-true}
use Rattle.std.specs.BTreeSet.{contains_text}
use Rattle.std.specs.String.{string_bytes}
use Rattle.cp_strset.proofs.StringsLemmas.{spelled_in, removed_more, all_given, none_of_one_kept}
use Rattle.cp_strset.proofs.strings.Strings.remove_each.Goals as goal

pub loop-text-init : goal.loop-text-init
loop-text-init c = (
  search rules,
  λ bytes. ap (λ s. contains_text s bytes) c.self.view_is ∙ sym (and-true (contains_text c.args.self.now bytes)),
)

pub invariant_of-self : goal.invariant_of-self
invariant_of-self c =
    none_of_one_kept (λ bytes. not (spelled_in c.loop-text.yielded bytes)) c.self.inside.texts.keys c.loop-text.self-inside.texts.keys c.self.invariant
    (λ bytes. rw (← c.self.view_is) at (c.loop-text.invariant.1 bytes))

pub loop-text-preserved : goal.loop-text-preserved
loop-text-preserved c = (
  append_assoc c.loop-text.yielded (c.in-Some.text ∷ []) c.next.new.self ∙ (sym (ap (λ ks. c.loop-text.yielded ++ ks) c.in-Some.ensures.steps) ∙ c.loop-text.invariant.0),
  λ bytes. removed_more _ _ _ c.loop-text.yielded c.in-Some.text bytes (c.loop-text.invariant.1 bytes)
      (btree_set_updates_text (string_bytes c.in-Some.text) c.loop-text.self-inside.texts c.remove.new.self false (rw c.as_str.ensures.value at c.remove.ensures.updates) bytes),
)

pub returns : goal.returns
returns c =
    let all = all_given c.loop-text.yielded c.loop-text.text-iterator c.args.other.keys c.loop-text.invariant.0 c.in-None.ensures.steps.0 in
    λ bytes. c.loop-text.invariant.1 bytes ∙ ap (λ ks. contains_text c.args.self.now bytes && not (spelled_in ks bytes)) all
