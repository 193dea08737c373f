use Rattle.std.proofs.Common.{◌≢◌, map, length, sym, ap, ◌∙◌}
use Rattle.std.proofs.lemmas.List.Elements.{All-map}
use Rattle.std.proofs.lemmas.List.Filters.{dedup_is, All-dedup}
use Rattle.std.proofs.lemmas.List.Kept.{IsStrictlySortedBy-dedup}
use Rattle.std.proofs.lemmas.List.Sorted.{list_any-IsPermutation, All-permutation, IsPermutation-map}
use Rattle.std.specs.Cmp.Lexicographic.{on_texts, texts_ties}
use Rattle.std.specs.Str.{bytes_eq, chars}
use Rattle.cp_strset.specs.StringList.{holds}
use Rattle.cp_strset_terms.proofs.TableLemmas.{ascending_texts, holds-dedup, each_text}
use Rattle.cp_strset_terms.proofs.table.in_order.Goals as goal

pub returns-clause-canonical : goal.returns-clause-canonical
returns-clause-canonical c = rw (dedup_is _ _ _ c.dedup.ensures.filtered) (record {
  ascending = ascending_texts _ (IsStrictlySortedBy-dedup (on_texts (λ x. x.now)) (λ x y. texts_ties x.now y.now) _ c.sort_unstable.ensures.sorted);
  none_of_one = All-map (λ s. length (chars s) ≢ 1) (λ text. text.now) _ (All-dedup _ (λ text. length (chars text.now) ≢ 1) _ (All-permutation (λ text. length (chars text.now) ≢ 1) _ _ c.sort_unstable.ensures.permutation
      (each_text (λ s. length (chars s) ≢ 1) c.args.table.items c.requires)));
})

pub returns-clause-same : goal.returns-clause-same
returns-clause-same c = λ bytes.
    ap (λ list. holds (map (λ text. text.now) list) bytes) (dedup_is _ _ _ c.dedup.ensures.filtered)
    ∙ (holds-dedup bytes c.sort_unstable.new.self.items
    ∙ sym (list_any-IsPermutation (λ s. bytes_eq s bytes) _ _ (IsPermutation-map (λ text. text.now) _ _ c.sort_unstable.ensures.permutation)))
