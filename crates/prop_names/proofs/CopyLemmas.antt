-- Names that are copied.
use Rattle.std.proofs.Common.{◌≡◌, ℕ, ◌+◌, ◌<◌, List, [], ◌∷◌, ◌++◌, length, take, get_or, map, Bool, true, false, Option, Some, option_map, cond, refl, sym, ap, ap₂, ◌∙◌}
use Rattle.std.specs.BTreeMap.{is_at}
use Rattle.std.specs.Global.{Global}
use Rattle.std.specs.List.{AllZip}
use Rattle.std.specs.Map.{lookup}
use Rattle.std.specs.Ordering.{nat_cmp}
use Rattle.std.specs.String.{string_bytes}
use Rattle.std.specs.declared.string.String.{String}
use Rattle.std.proofs.lemmas.List.{take_more, map-append}
use Rattle.prop_names.specs.Names.{Names}
use Rattle.prop_names.specs.Texts.{text_of, texts}

-- one more row, with the text and the number of the row at that place
pub texts-take_more : (rows copy : List (String Global × ℕ)) (i : ℕ) (row item : String Global × ℕ) → i < length rows → texts copy ≡ texts (take i rows) → row ≡ get_or rows i row → text_of item ≡ text_of row →
    texts (copy ++ item ∷ []) ≡ texts (take (i + 1) rows)
texts-take_more rows copy i row item short same at text =
    map-append text_of copy (item ∷ [])
    ∙ (ap₂ (λ (a : Names) (b : List ℕ × ℕ). a ++ b ∷ []) same (text ∙ ap text_of at)
    ∙ (sym (map-append text_of (take i rows) (get_or rows i row ∷ [])) ∙ ap texts (sym (take_more rows i row short))))

-- clones of texts have the same bytes
pub same_bytes : (xs ys : List (String Global)) → AllZip (λ s t. string_bytes t ≡ string_bytes s) xs ys → map string_bytes ys ≡ map string_bytes xs
same_bytes [] [] h = refl
same_bytes [] (y ∷ ys) h = absurd h
same_bytes (x ∷ xs) [] h = absurd h
same_bytes (x ∷ xs) (y ∷ ys) h = ap₂ ◌∷◌ h.0 (same_bytes xs ys h.1)

-- clones of entries have the same text at each number
pub same_text : (es fs : List (ℕ × String Global)) → AllZip (λ p q. (q.0 ≡ p.0) × (string_bytes q.1 ≡ string_bytes p.1)) es fs → (n : ℕ) →
    option_map string_bytes (lookup (is_at (nat_cmp n)) fs) ≡ option_map string_bytes (lookup (is_at (nat_cmp n)) es)
same_text [] [] h n = refl
same_text [] (f ∷ fs) h n = absurd h
same_text (e ∷ es) [] h n = absurd h
same_text (e ∷ es) (f ∷ fs) h n =
    pushed (is_at (nat_cmp n) f.0) f.1 (lookup (is_at (nat_cmp n)) fs)
    ∙ (ap₂ (λ k t. cond (is_at (nat_cmp n) k) (Some t) (option_map string_bytes (lookup (is_at (nat_cmp n)) fs))) h.0.0 h.0.1
    ∙ (ap (λ o. cond (is_at (nat_cmp n) e.0) (Some (string_bytes e.1)) o) (same_text es fs h.1 n)
    ∙ sym (pushed (is_at (nat_cmp n) e.0) e.1 (lookup (is_at (nat_cmp n)) es))))
  where
    pushed : (b : Bool) (s : String Global) (o : Option (String Global)) → option_map string_bytes (cond b (Some s) o) ≡ cond b (Some (string_bytes s)) (option_map string_bytes o)
    pushed true s o = refl
    pushed false s o = refl
