use Rattle.std.proofs.Common.{refl}
use Rattle.prop_values.proofs.OrderLemmas.{compared_by_number}
use Rattle.prop_values.proofs.laws.order_by_number.Goals as goal

pub returns : goal.returns
returns c = record {
  bidi_class = λ x y. refl;
  block = λ x y. refl;
  numeric_type = λ x y. refl;
  general_category = compared_by_number;
  script = λ x y. refl;
  hangul_syllable_type = λ x y. refl;
  east_asian_width = λ x y. refl;
  line_break = λ x y. refl;
  grapheme_cluster_break = λ x y. refl;
  word_break = λ x y. refl;
  sentence_break = λ x y. refl;
  canonical_combining_class = λ x y. refl;
  indic_conjunct_break = λ x y. refl;
  indic_syllabic_category = λ x y. refl;
  joining_group = λ x y. refl;
  joining_type = λ x y. refl;
  vertical_orientation = λ x y. refl;
}
