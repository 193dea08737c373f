-- Places in the table of names, and in the list that it stands for.
use Rattle.std.proofs.Common.{◌≡◌, ℕ, ◌+◌, ◌<◌, Bool, not, cond, Some, None, nat_lt, List, [], ◌∷◌, map, length, get_or, refl, sym, ap, ap₂, ◌∙◌}
use Rattle.std.specs.List.{prefix_len, position, slice_get}
use Rattle.std.specs.Option.{option_map}
use Rattle.std.proofs.lemmas.List.{length-map}
use Rattle.std.proofs.lemmas.Option.{slice_get-map, slice_get-get_or}
use Rattle.prop_binary.specs.Names.{names_of}
use Rattle.prop_binary.specs.Tables.{properties}
use Rattle.prop_binary.specs.declared.names.PropertyNames.{PropertyNames}

prefix_len-map : {X Y : Type 0} (test : Y → Bool) (f : X → Y) (xs : List X) → prefix_len test (map f xs) ≡ prefix_len (λ x. test (f x)) xs
prefix_len-map test f [] = refl
prefix_len-map test f (x ∷ xs) = ap (λ n. cond (test (f x)) (1 + n) 0) (prefix_len-map test f xs)

-- the place in a list of values of a function is that in the list itself
position-map : {X Y : Type 0} (test : Y → Bool) (f : X → Y) (xs : List X) → position test (map f xs) ≡ position (λ x. test (f x)) xs
position-map test f xs =
    ap₂ (λ (n l : ℕ). cond (nat_lt n l) (Some n) None) (prefix_len-map (λ y. not (test y)) f xs) (length-map xs f)

-- there are 69 rows
pub row_count : (rows : List PropertyNames) → map names_of rows ≡ properties → length rows ≡ 69
unfolding properties
row_count rows same = sym (length-map rows names_of) ∙ ap length same

-- the first property that passes a test stands where the first row does whose names pass it
pub place_of_row : (rows : List PropertyNames) (all : List (List ℕ × List ℕ × Bool)) (test : List ℕ × List ℕ × Bool → Bool) → map names_of rows ≡ all → position (λ row. test (names_of row)) rows ≡ position test all
place_of_row rows all test same =
    sym (position-map test names_of rows) ∙ ap (λ ps. position test ps) same

-- the same of the long names alone
pub place_of_long_name : (rows : List PropertyNames) (all : List (List ℕ × List ℕ × Bool)) (test : List ℕ → Bool) → map names_of rows ≡ all → position (λ row. test row.long.now) rows ≡ position test (map (λ property. property.0) all)
place_of_long_name rows all test same =
    place_of_row rows all (λ property. test property.0) same ∙ sym (position-map test (λ property. property.0) all)

-- the long name of a property is that of its row
pub long_name_at : (rows : List PropertyNames) (all : List (List ℕ × List ℕ × Bool)) (k : ℕ) (d : PropertyNames) → map names_of rows ≡ all → k < length rows → slice_get (map (λ property. property.0) all) k ≡ Some (get_or rows k d).long.now
long_name_at rows all k d same within =
    ap (λ ps. slice_get (map (λ property. property.0) ps) k) (sym same)
    ∙ (slice_get-map (λ property. property.0) (map names_of rows) k
    ∙ ap (option_map (λ property. property.0)) (slice_get-map names_of rows k ∙ ap (option_map names_of) (slice_get-get_or rows k d within)))
