use Rattle.std.proofs.Common.{◌≡◌, ℕ, ◌+◌, ◌<◌, Bool, true, false, List, [], ◌∷◌, ◌++◌, length, take, get_or, refl, sym, ap₂, ◌∙◌, arith}
use Rattle.std.specs.Prelude.{IsTrue, ◌&&◌}
use Rattle.std.proofs.lemmas.List.{take_more}
use Rattle.cp_trie.proofs.rows.are_equal.Goals as goal

-- parts that were the same, and one more element that is the same, where tests tell both
take-tested : {V : Type 0} (b e : Bool) (xs ys : List V) (i : ℕ) (x y : V) → (IsTrue b → take i xs ≡ take i ys) → (e ≡ true → x ≡ y) → i < length xs → length xs ≡ length ys → x ≡ get_or xs i x → y ≡ get_or ys i y → IsTrue (b && e) → take (i + 1) xs ≡ take (i + 1) ys
take-tested false e xs ys i x y before same within size here there both = cc
take-tested true false xs ys i x y before same within size here there both = cc
take-tested true true xs ys i x y before same within size here there both =
    take_more xs i x within
    ∙ (ap₂ (λ a z. a ++ z ∷ []) (before refl) (sym here ∙ (same refl ∙ there))
    ∙ sym (take_more ys i y (omega arith)))

pub loop-index-preserved : goal.loop-index-preserved
loop-index-preserved g c =
    take-tested c.loop-index.equal c.eq-equal.result c.args.row.now c.args.other.now c.loop-index.index c.index-row-index.result c.index-other-index.result c.loop-index.invariant (λ e. (g.met.V.TrieValue.eq_is_same _ _).0 (sym c.eq-equal.ensures ∙ e)) c.loop-index-test.true c.requires c.index-row-index.is c.index-other-index.is
