use Rattle.std.proofs.Common.{◌≡◌, ℕ, nat_eq, Bool, true, false, cond, List, Some, Result, Ok, Err, OnOk, OnErr, subst, sym, ◌∙◌}
use Rattle.std.specs.String.{string_bytes}
use Rattle.prop_names.specs.Subtags.{AreSubtags}
use Rattle.prop_names.specs.ValueNames.{subtag_of}
use Rattle.prop_names.specs.ValueNameTables.{name_at}
use Rattle.prop_names.specs.declared.by_number.NamesByNumber.{NamesByNumber}
use Rattle.prop_data.proofs.load.texts.OpenTexts.keep.Goals as goal

-- one subtag more among subtags, or none where memory was refused
subtags_kept : {X E : Type 0} (r : Result X E) (old new : NamesByNumber) (value : ℕ) (name : List ℕ) →
    OnOk r ((n : ℕ) → name_at new n ≡ cond (nat_eq value n) (Some name) (name_at old n)) → OnErr r ((n : ℕ) → name_at new n ≡ name_at old n) →
    subtag_of name ≡ Some name → AreSubtags old → AreSubtags new
subtags_kept (Ok x) old new value name ok err is each n text at = by (nat_eq value n) (sym (ok n) ∙ at)
  where
    by : (b : Bool) → cond b (Some name) (name_at old n) ≡ Some text → subtag_of text ≡ Some text
    by true e = let same : name ≡ text = cc in subst (λ t. subtag_of t ≡ Some t) same is
    by false e = each n text e
subtags_kept (Err e) old new value name ok err is each n text at = each n text (sym (err n) ∙ at)

pub invariant_of-self : goal.invariant_of-self
invariant_of-self c = record {
  subtags = λ h. subtags_kept c.insert.result c.args.self.now.texts c.insert.new.self c.args.value (string_bytes c.args.name) c.insert.ensures.ok c.insert.ensures.err (c.requires.subtag h) (c.args.self.now.subtags h);
}
