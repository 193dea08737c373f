use Rattle.std.proofs.Common.{◌≡◌, ℕ, false, List, ◌∷◌, [], ◌++◌, ◌+◌, ◌<◌, cond, length, drop, slice_index_or, rules, refl, ap, sym, ◌∙◌}
use Rattle.std.specs.Char.{to_ascii_lowercase}
use Rattle.std.proofs.lemmas.List.{append_assoc, at_drop_more}
use Rattle.std.proofs.lemmas.Str.{encode_ascii}
use Rattle.std.proofs.lemmas.Str.Ascii.{lowercase_ascii}
use Rattle.prop_names.specs.Folding.{is_underscore, stored_folding}
use Rattle.prop_names.proofs.folding.stored_folding.Goals as goal
use Rattle.prop_names.proofs.folding.stored_folding.Goals.{then-byte-ne95+in_ok-push, else-byte-ne95}

-- one byte on, the rest has the folding that it had with the byte, or its letter less
rest_at : (name : List ℕ) (i : ℕ) → i < length name →
    let rest = stored_folding (drop (i + 1) name) in
    let byte = slice_index_or name i 0 in
    stored_folding (drop i name) ≡ cond (is_underscore byte) rest (to_ascii_lowercase byte ∷ rest)
rest_at name i lt = at_drop_more stored_folding name i 0 lt

kept : (name old new : List ℕ) (i : ℕ) → i < length name → (slice_index_or name i 0 ≡ 95 → ⊥) → new ≡ old ++ to_ascii_lowercase (slice_index_or name i 0) ∷ [] →
    old ++ stored_folding (drop i name) ≡ stored_folding name → new ++ stored_folding (drop (i + 1) name) ≡ stored_folding name
kept name old new i lt other grown so_far =
    let rest = stored_folding (drop (i + 1) name) in
    let byte = slice_index_or name i 0 in
    let not_dropped : is_underscore byte ≡ false = search (rules, other) in
    ap (λ l. l ++ rest) grown ∙ (append_assoc old (to_ascii_lowercase byte ∷ []) rest ∙ (ap (λ l. old ++ l) (sym (rest_at name i lt ∙ ap (λ b. cond b rest (to_ascii_lowercase byte ∷ rest)) not_dropped)) ∙ so_far))

dropped : (name old : List ℕ) (i : ℕ) → i < length name → slice_index_or name i 0 ≡ 95 → old ++ stored_folding (drop i name) ≡ stored_folding name →
    old ++ stored_folding (drop (i + 1) name) ≡ stored_folding name
dropped name old i lt same so_far =
    let rest = stored_folding (drop (i + 1) name) in
    let step : stored_folding (drop i name) ≡ rest = rest_at name i lt ∙ ap (λ b. cond (is_underscore b) rest (to_ascii_lowercase b ∷ rest)) same in
    ap (λ l. old ++ l) (sym step) ∙ so_far

pub loop-byte-preserved : goal.loop-byte-preserved
loop-byte-preserved c =
    let name = c.args.name.now in
    let i = c.loop-byte.byte-index in
    let inside = c.loop-byte-test.true in
    elim c.if-byte-ne95.branch [
      | then-byte-ne95+in_ok-push w ↦
          let is_ascii = lowercase_ascii _ (c.requires.ascii i 0 inside) in
          rw w.folded-is (kept name _ _ i inside w.if-byte-ne95.true (rw (w.in_ok-push.ensures.bytes, w.from.ensures, w.to_ascii_lowercase.ensures.value, encode_ascii _ is_ascii) refl) c.loop-byte.invariant)
      | else-byte-ne95 w ↦ rw w.folded-is (dropped name _ i inside w.if-byte-ne95.false c.loop-byte.invariant)
    ]
