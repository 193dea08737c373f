-- The characters of a string that fields spell.
use Rattle.std.proofs.Common.{◌≡◌, Bor, ℕ, List, [], ◌∷◌, ◌++◌, encode_utf8, encode_utf8_all, Option, Some, None, option_map, refl, sym, ap, ◌∙◌, append_assoc, append-nil}
use Rattle.std.proofs.lemmas.Grind.{flat_map-append}
use Rattle.std.proofs.lemmas.Str.{encodes_same, encodes-chars, chars-nil}
use Rattle.std.specs.Iterator.{AlwaysYields}
use Rattle.std.specs.Str.{IsUtf8, chars}
use Rattle.uset_tool.specs.Script.{character_of, characters_of, both, string_of}

-- a character pushed behind a text
chars-pushed : (old new : List ℕ) (c : ℕ) → IsUtf8 old → IsUtf8 new → new ≡ old ++ encode_utf8 c → chars new ≡ chars old ++ c ∷ []
chars-pushed old new c old_text new_text is =
    encodes_same (chars new) (chars old ++ c ∷ [])
    (encodes-chars new new_text ∙ (is ∙ (ap (λ b. b ++ encode_utf8 c) (sym (encodes-chars old old_text))
    ∙ (ap (λ b. encode_utf8_all (chars old) ++ b) (sym (append-nil (encode_utf8 c))) ∙ sym (flat_map-append encode_utf8 (chars old) (c ∷ []))))))

-- the characters read so far, with those of the fields to come
abbrev pub joined : List ℕ → Option (List ℕ) → Option (List ℕ)
joined string more = option_map (λ (cs : List ℕ). chars string ++ cs) more

joined-pushed : (old new : List ℕ) (c : ℕ) (more : Option (List ℕ)) → chars new ≡ chars old ++ c ∷ [] → joined new more ≡ joined old (both (Some c) more)
joined-pushed old new c None is = refl
joined-pushed old new c (Some cs) is = ap Some (ap (λ t. t ++ cs) is ∙ append_assoc (chars old) (c ∷ []) cs)

pub joined-begins : (string : List ℕ) (more : Option (List ℕ)) → string ≡ [] → joined string more ≡ more
joined-begins string None is = refl
joined-begins string (Some cs) is = ap (λ t. Some (t ++ cs)) (ap chars is ∙ chars-nil)

-- a field is the number of a character
pub field_read : (old new field : List ℕ) (fields : List (List ℕ)) (c : ℕ) (whole : Option (List ℕ)) → IsUtf8 old → IsUtf8 new → new ≡ old ++ encode_utf8 c →
    Some c ≡ character_of field → joined old (characters_of (field ∷ fields)) ≡ whole → joined new (characters_of fields) ≡ whole
field_read old new field fields c whole old_text new_text is spelled so_far =
    joined-pushed old new c (characters_of fields) (chars-pushed old new c old_text new_text is)
    ∙ (ap (λ o. joined old (both o (characters_of fields))) spelled ∙ so_far)

pub field_refused : (old field : List ℕ) (fields : List (List ℕ)) (whole : Option (List ℕ)) → None ≡ character_of field → joined old (characters_of (field ∷ fields)) ≡ whole → None ≡ whole
field_refused old field fields whole spelled so_far = ap (λ o. joined old (both o (characters_of fields))) spelled ∙ so_far

-- all fields are read
pub fields_read : (string : List ℕ) (whole : Option (List ℕ)) → joined string (characters_of []) ≡ whole → Some (chars string) ≡ whole
fields_read string whole so_far = ap Some (sym (append-nil (chars string))) ∙ so_far

-- what one call of `next` says of the fields that are to come
pub field_comes : {S : Type 0} (steps : S → Option (Bor (List ℕ)) → S → Type 0) (fields : List (List ℕ)) (before after : S) (field : Bor (List ℕ)) →
    AlwaysYields steps (λ x. x.now) before fields → steps before (Some field) after → (more : List (List ℕ)) × (fields ≡ field.now ∷ more) × AlwaysYields steps (λ x. x.now) after more
field_comes steps [] before after field yields step = absurd (yields field after step)
field_comes steps (first ∷ more) before after field yields step = let goes = yields.1 field after step in (more, ap (λ f. f ∷ more) (sym goes.0), goes.1)

pub fields_end : {S : Type 0} (steps : S → Option (Bor (List ℕ)) → S → Type 0) (fields : List (List ℕ)) (before after : S) → AlwaysYields steps (λ x. x.now) before fields → steps before None after → fields ≡ []
fields_end steps [] before after yields step = refl
fields_end steps (first ∷ more) before after yields step = absurd (yields.0 after step)

-- nothing behind `str`
pub empty_string : (text string : List ℕ) → text ≡ [] → string ≡ [] → Some (chars string) ≡ string_of text
empty_string text string text_is string_is = ap (λ s. Some (chars s)) string_is ∙ (ap Some chars-nil ∙ ap string_of (sym text_is))
