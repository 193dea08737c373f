use Rattle.std.proofs.Common.{ℕ, get_or, refl, sym, ap, ◌∙◌}
use Rattle.prop_values.proofs.SubtagLemmas.{four_bytes, cased_letters, cased_again}
use Rattle.prop_values.specs.Subtag.{is_four_letters, in_subtag_case}
use Rattle.prop_values.proofs.subtag.Subtag.try_from_str.Goals as goal

pub invariant_of-result : goal.invariant_of-result
invariant_of-result c =
    let byte : ℕ → ℕ = λ i. get_or c.as_bytes.result.now i 0 in
    let letters = sym c.is_letters.ensures ∙ c.if-not-is_letters.false in
    record {
      four_letters = cased_letters (byte 0) (byte 1) (byte 2) (byte 3) _ _ _ _ letters c.to_ascii_uppercase.ensures.value c.to_ascii_lowercase.ensures.value c.to_ascii_lowercase-2.ensures.value c.to_ascii_lowercase-3.ensures.value;
      cased = cased_again (byte 0) (byte 1) (byte 2) (byte 3) _ _ _ _ c.to_ascii_uppercase.ensures.value c.to_ascii_lowercase.ensures.value c.to_ascii_lowercase-2.ensures.value c.to_ascii_lowercase-3.ensures.value;
    }

pub returns-clause-some : goal.returns-clause-some
returns-clause-some c =
    let bytes = four_bytes c.as_bytes.result.now c.in-len4.len_at_least c.in-len4.len_below in
    let letters = sym c.is_letters.ensures ∙ c.if-not-is_letters.false in
    (λ _. rw (← c.as_bytes.ensures.value) (ap is_four_letters bytes ∙ letters), λ _. refl)

pub returns-clause-letters : goal.returns-clause-letters
returns-clause-letters c =
    let bytes = four_bytes c.as_bytes.result.now c.in-len4.len_at_least c.in-len4.len_below in
    rw (← c.as_bytes.ensures.value, c.to_ascii_uppercase.ensures.value, c.to_ascii_lowercase.ensures.value, c.to_ascii_lowercase-2.ensures.value, c.to_ascii_lowercase-3.ensures.value) (sym (ap in_subtag_case bytes))
