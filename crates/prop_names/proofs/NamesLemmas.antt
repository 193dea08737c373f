-- A name more among names in order.
use Rattle.std.proofs.Common.{◌≡◌, ℕ, Bool, true, false, Option, Some, None, IfSome, List, [], ◌∷◌, cond, is_some, refl, subst, sym, ap, ◌∙◌, nat_cmp}
use Rattle.std.specs.declared.cmp.Ordering.{Ordering}
use Rattle.std.specs.declared.cmp.Ordering.TheVariants.{Less, Equal, Greater}
use Rattle.std.specs.BTreeMap.{BTreeMap, UpdatesBy, insert_entry, get_by_text}
use Rattle.std.specs.Cmp.Lexicographic.{slice_cmp}
use Rattle.std.specs.List.Sorted.{IsStrictlySortedBy}
use Rattle.std.specs.List.{AllByRecursion}
use Rattle.std.specs.Map.{lookup, keys_of}
use Rattle.std.specs.Ordering.{match_ordering, is_eq}
use Rattle.std.specs.Str.{bytes_eq}
use Rattle.std.specs.String.{string_bytes, string_cmp}
use Rattle.std.specs.declared.string.String.{String}
use Rattle.std.specs.Global.{Global}
use Rattle.std.proofs.lemmas.Map.Lookups.{exact_bytes}
use Rattle.std.proofs.lemmas.Map.Text.{is_eq-slice_cmp, btree_map_updates_text}
use Rattle.std.proofs.lemmas.Slice.Eq.{bytes_eq-Decides}
use Rattle.prop_names.specs.Folding.{stored_folding}
use Rattle.prop_names.specs.Names.{Names, AreFoldings, FoldingsAgree, value_of_name, value_of_folding, with_name, all_above, ascend}
use Rattle.prop_names.specs.Texts.{text_of, texts}

-- an ordered map takes a name in its place
pub texts-insert_entry : (rows : List (String Global × ℕ)) (k : String Global) (v : ℕ) → texts (insert_entry string_cmp rows k v) ≡ with_name (texts rows) (string_bytes k) v
texts-insert_entry [] k v = refl
texts-insert_entry (r ∷ rows) k v = by_order (string_cmp k r.0) (texts-insert_entry rows k v)
  where
    by_order : (o : Ordering) → texts (insert_entry string_cmp rows k v) ≡ with_name (texts rows) (string_bytes k) v →
        texts (match_ordering o ((k, v) ∷ r ∷ rows) ((r.0, v) ∷ rows) (r ∷ insert_entry string_cmp rows k v))
        ≡ match_ordering o ((string_bytes k, v) ∷ texts (r ∷ rows)) ((string_bytes r.0, v) ∷ texts rows) (text_of r ∷ with_name (texts rows) (string_bytes k) v)
    by_order Less h = refl
    by_order Equal h = refl
    by_order Greater h = ap (λ (l : Names). text_of r ∷ l) h

-- a look-up in the map is one among its names
pub lookup-texts : (m : BTreeMap (String Global) ℕ) (f : List ℕ) → lookup (bytes_eq f) (texts m.entries) ≡ get_by_text m f
lookup-texts m f = in_rows m.entries
  where
    in_rows : (rows : List (String Global × ℕ)) → lookup (bytes_eq f) (texts rows) ≡ lookup (λ k. is_eq (slice_cmp nat_cmp f (string_bytes k))) rows
    in_rows [] = refl
    in_rows (r ∷ rows) = ap (λ b. cond b (Some r.1) (lookup (bytes_eq f) (texts rows))) (sym (is_eq-slice_cmp f (string_bytes r.0))) ∙ ap (λ o. cond (is_eq (slice_cmp nat_cmp f (string_bytes r.0))) (Some r.1) o) (in_rows rows)

-- the value of each name in a map where one has another value, or none
pub value_of_name-texts : (old new : BTreeMap (String Global) ℕ) (n : List ℕ) (w : Option ℕ) → UpdatesBy string_cmp (λ k. slice_cmp nat_cmp n (string_bytes k)) old new w → (q : List ℕ) →
    value_of_name (texts new.entries) q ≡ cond (bytes_eq n q) w (value_of_name (texts old.entries) q)
value_of_name-texts old new n w updates q =
    lookup-texts new q ∙ (btree_map_updates_text n old new w updates q ∙ ap (λ o. cond (bytes_eq n q) w o) (sym (lookup-texts old q)))

-- names of which one has the value, or none, that it had
pub same_values : (old new : Names) (n : List ℕ) (w : Option ℕ) → value_of_name old n ≡ w → ((q : List ℕ) → value_of_name new q ≡ cond (bytes_eq n q) w (value_of_name old q)) → (q : List ℕ) → value_of_name new q ≡ value_of_name old q
same_values old new n w had updated q = updated q ∙ by_test (bytes_eq n q) refl
  where
    by_test : (b : Bool) → bytes_eq n q ≡ b → cond b w (value_of_name old q) ≡ value_of_name old q
    by_test true is = sym had ∙ ap (value_of_name old) ((bytes_eq-Decides n q).0 is)
    by_test false is = refl

-- a text that had no value and loses the one that it took
pub taken_back : (old between new : BTreeMap (String Global) ℕ) (n : List ℕ) (v : ℕ) → value_of_name (texts old.entries) n ≡ None →
    UpdatesBy string_cmp (λ k. slice_cmp nat_cmp n (string_bytes k)) old between (Some v) → UpdatesBy string_cmp (λ k. slice_cmp nat_cmp n (string_bytes k)) between new None →
    (q : List ℕ) → value_of_name (texts new.entries) q ≡ value_of_name (texts old.entries) q
taken_back old between new n v had added removed =
    same_values (texts old.entries) (texts new.entries) n None had
    (λ q. value_of_name-texts between new n None removed q ∙ (ap (λ o. cond (bytes_eq n q) None o) (value_of_name-texts old between n (Some v) added q) ∙ twice (bytes_eq n q) (value_of_name (texts old.entries) q)))
  where
    twice : (b : Bool) (o : Option ℕ) → cond b None (cond b (Some v) o) ≡ cond b None o
    twice true o = refl
    twice false o = refl

-- a value that is there is the one that all agree on
pub known_value : (o : Option ℕ) (v : ℕ) → is_some o ≡ true → IfSome o (λ other. other ≡ v) → o ≡ Some v
known_value (Some w) v there agrees = ap (λ (u : ℕ). Some u) agrees
known_value None v there agrees = absurd (let h = there in cc)

-- a value that is not there is none
pub no_value : (o : Option ℕ) → is_some o ≡ false → o ≡ None
no_value (Some w) there = absurd (let h = there in cc)
no_value None there = refl

-- other foldings with the same values are those of the names too
pub AreFoldings-same : (names foldings others : Names) → ((q : List ℕ) → value_of_name others q ≡ value_of_name foldings q) → AreFoldings names foldings → AreFoldings names others
AreFoldings-same names foldings others same are = record { found = λ q. same q ∙ are.found q; agree = are.agree }

-- the names of an ordered map ascend
above_all : (k : String Global) (rows : List (String Global × ℕ)) → AllByRecursion (λ y. string_cmp k y ≡ Less) (keys_of rows) → all_above (string_bytes k) (texts rows) ≡ true
above_all k [] h = refl
above_all k (r ∷ rows) h = rw h.0 (above_all k rows h.1)

pub ascend-texts : (rows : List (String Global × ℕ)) → IsStrictlySortedBy string_cmp (keys_of rows) → ascend (texts rows) ≡ true
unfolding IsStrictlySortedBy
ascend-texts [] h = refl
ascend-texts (r ∷ rows) h = rw (above_all r.0 rows h.0) (ascend-texts rows h.1)

-- a name with another folding changes nothing for the folding
other_folding : (names : Names) (n : List ℕ) (v : ℕ) (f : List ℕ) → bytes_eq f (stored_folding n) ≡ false → value_of_folding (with_name names n v) f ≡ value_of_folding names f
other_folding [] n v f other = rw other refl
other_folding (e ∷ names) n v f other = by_order (slice_cmp nat_cmp n e.0) refl (other_folding names n v f other)
  where
    by_order : (o : Ordering) → slice_cmp nat_cmp n e.0 ≡ o → value_of_folding (with_name names n v) f ≡ value_of_folding names f →
        value_of_folding (match_ordering o ((n, v) ∷ e ∷ names) ((e.0, v) ∷ names) (e ∷ with_name names n v)) f ≡ value_of_folding (e ∷ names) f
    by_order Less is h = ap (λ b. cond b (Some v) (value_of_folding (e ∷ names) f)) other
    by_order Equal is h =
        let same : bytes_eq f (stored_folding e.0) ≡ false = ap (λ m. bytes_eq f (stored_folding m)) (sym (exact_bytes n e.0 is)) ∙ other in
        ap (λ b. cond b (Some v) (value_of_folding names f)) same ∙ sym (ap (λ b. cond b (Some e.1) (value_of_folding names f)) same)
    by_order Greater is h = ap (λ o. cond (bytes_eq f (stored_folding e.0)) (Some e.1) o) h

-- a name gives its value to its folding, where that has no other value
own_folding : (names : Names) (n : List ℕ) (v : ℕ) → IfSome (value_of_folding names (stored_folding n)) (λ other. other ≡ v) → value_of_folding (with_name names n v) (stored_folding n) ≡ Some v
own_folding [] n v agrees = ap (λ b. cond b (Some v) None) ((bytes_eq-Decides (stored_folding n) (stored_folding n)).1 refl)
own_folding (e ∷ names) n v agrees = by_order (slice_cmp nat_cmp n e.0) refl (own_folding names n v)
  where
    whole : bytes_eq (stored_folding n) (stored_folding n) ≡ true
    whole = (bytes_eq-Decides (stored_folding n) (stored_folding n)).1 refl

    by_test : (b : Bool) → IfSome (cond b (Some e.1) (value_of_folding names (stored_folding n))) (λ other. other ≡ v) →
        (IfSome (value_of_folding names (stored_folding n)) (λ other. other ≡ v) → value_of_folding (with_name names n v) (stored_folding n) ≡ Some v) →
        cond b (Some e.1) (value_of_folding (with_name names n v) (stored_folding n)) ≡ Some v
    by_test true agrees later = ap (λ (w : ℕ). Some w) agrees
    by_test false agrees later = later agrees

    by_order : (o : Ordering) → slice_cmp nat_cmp n e.0 ≡ o → (IfSome (value_of_folding names (stored_folding n)) (λ other. other ≡ v) → value_of_folding (with_name names n v) (stored_folding n) ≡ Some v) →
        value_of_folding (match_ordering o ((n, v) ∷ e ∷ names) ((e.0, v) ∷ names) (e ∷ with_name names n v)) (stored_folding n) ≡ Some v
    by_order Less is later = ap (λ b. cond b (Some v) (value_of_folding (e ∷ names) (stored_folding n))) whole
    by_order Equal is later =
        let same : bytes_eq (stored_folding n) (stored_folding e.0) ≡ true = ap (λ m. bytes_eq (stored_folding n) (stored_folding m)) (sym (exact_bytes n e.0 is)) ∙ whole in
        ap (λ b. cond b (Some v) (value_of_folding names (stored_folding n))) same
    by_order Greater is later = by_test (bytes_eq (stored_folding n) (stored_folding e.0)) agrees later

turned : (a b : List ℕ) → bytes_eq b a ≡ false → bytes_eq a b ≡ false
turned a b h = by_test (bytes_eq a b) refl
  where
    by_test : (t : Bool) → bytes_eq a b ≡ t → t ≡ false
    by_test true is = sym ((bytes_eq-Decides b a).1 (sym ((bytes_eq-Decides a b).0 is))) ∙ h
    by_test false is = refl

-- the values by folding, with a name more
pub value_of_folding-with_name : (names : Names) (n : List ℕ) (v : ℕ) → IfSome (value_of_folding names (stored_folding n)) (λ other. other ≡ v) → (f : List ℕ) →
    value_of_folding (with_name names n v) f ≡ cond (bytes_eq (stored_folding n) f) (Some v) (value_of_folding names f)
value_of_folding-with_name names n v agrees f = by_test (bytes_eq (stored_folding n) f) refl
  where
    by_test : (b : Bool) → bytes_eq (stored_folding n) f ≡ b → value_of_folding (with_name names n v) f ≡ cond b (Some v) (value_of_folding names f)
    by_test true is = ap (value_of_folding (with_name names n v)) (sym ((bytes_eq-Decides (stored_folding n) f).0 is)) ∙ own_folding names n v agrees
    by_test false is = other_folding names n v f (turned f (stored_folding n) is)

-- names with the same folding have the same value, also with a name more whose folding has no other value
pub FoldingsAgree-with_name : (names : Names) (n : List ℕ) (v : ℕ) → FoldingsAgree names → IfSome (value_of_folding names (stored_folding n)) (λ other. other ≡ v) →
    ((q : List ℕ) → value_of_name (with_name names n v) q ≡ cond (bytes_eq n q) (Some v) (value_of_name names q)) → FoldingsAgree (with_name names n v)
FoldingsAgree-with_name names n v agree own added = λ name value has. by_name name value (bytes_eq n name) refl (sym (added name) ∙ has)
  where
    -- a folding that has a value keeps it
    by_folding : (folding : List ℕ) (value : ℕ) (b : Bool) → bytes_eq (stored_folding n) folding ≡ b → value_of_folding names folding ≡ Some value → cond b (Some v) (value_of_folding names folding) ≡ Some value
    by_folding folding value true is has =
        let at_folding : IfSome (value_of_folding names folding) (λ other. other ≡ v) =
        subst (λ (f : List ℕ). IfSome (value_of_folding names f) (λ other. other ≡ v)) ((bytes_eq-Decides (stored_folding n) folding).0 is) own in
        let same : value ≡ v = subst (λ (o : Option ℕ). IfSome o (λ other. other ≡ v)) has at_folding in ap (λ (w : ℕ). Some w) (sym same)
    by_folding folding value false is has = has

    by_name : (name : List ℕ) (value : ℕ) (b : Bool) → bytes_eq n name ≡ b → cond b (Some v) (value_of_name names name) ≡ Some value → value_of_folding (with_name names n v) (stored_folding name) ≡ Some value
    by_name name value true is has =
        ap (λ (m : List ℕ). value_of_folding (with_name names n v) (stored_folding m)) (sym ((bytes_eq-Decides n name).0 is)) ∙ (own_folding names n v own ∙ has)
    by_name name value false is has =
        value_of_folding-with_name names n v own (stored_folding name) ∙ by_folding (stored_folding name) value (bytes_eq (stored_folding n) (stored_folding name)) refl (agree name value has)
