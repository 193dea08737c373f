-- Extension lists that are copied.
use Rattle.std.proofs.Common.{◌≡◌, ℕ, List, [], ◌∷◌, Bool, true, false, Option, Some, option_map, cond, refl, sym, ap, ap₂, ◌∙◌}
use Rattle.std.specs.BTreeMap.{is_at}
use Rattle.std.specs.List.{AllZip}
use Rattle.std.specs.Map.{lookup}
use Rattle.std.specs.Ordering.{nat_cmp}
use Rattle.prop_data.specs.declared.scripts.ListedScripts.{ListedScripts}
use Rattle.prop_data.specs.Extensions.{list_seen}
use Rattle.prop_data.specs.Tables.{ExtensionList}

-- clones of entries have the same list at each index
pub same_lists : (es fs : List (ℕ × ListedScripts)) → AllZip (λ p q. (q.0 ≡ p.0) × (list_seen q.1 ≡ list_seen p.1)) es fs → (n : ℕ) →
    option_map list_seen (lookup (is_at (nat_cmp n)) fs) ≡ option_map list_seen (lookup (is_at (nat_cmp n)) es)
same_lists [] [] h n = refl
same_lists [] (f ∷ fs) h n = absurd h
same_lists (e ∷ es) [] h n = absurd h
same_lists (e ∷ es) (f ∷ fs) h n =
    pushed (is_at (nat_cmp n) f.0) f.1 (lookup (is_at (nat_cmp n)) fs)
    ∙ (ap₂ (λ (k : ℕ) (t : ExtensionList). cond (is_at (nat_cmp n) k) (Some t) (option_map list_seen (lookup (is_at (nat_cmp n)) fs))) h.0.0 h.0.1
    ∙ (ap (λ o. cond (is_at (nat_cmp n) e.0) (Some (list_seen e.1)) o) (same_lists es fs h.1 n)
    ∙ sym (pushed (is_at (nat_cmp n) e.0) e.1 (lookup (is_at (nat_cmp n)) es))))
  where
    pushed : (b : Bool) (s : ListedScripts) (o : Option ListedScripts) → option_map list_seen (cond b (Some s) o) ≡ cond b (Some (list_seen s)) (option_map list_seen o)
    pushed true s o = refl
    pushed false s o = refl
