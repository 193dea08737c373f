use Rattle.std.proofs.Common.{◌∙◌, sym}
use Rattle.std.specs.Str.{bytes_eq}
use Rattle.prop_data.specs.TableKind.{kinds, kind_word, kind_of_word}
use Rattle.prop_data.specs.declared.table.TableKind.TheVariants.{Set}
use Rattle.prop_data.proofs.FindLemmas.{find-at, find-none}
use Rattle.prop_data.proofs.table.TableKind.from_word.Goals as goal

pub returns : goal.returns
unfolding kind_of_word
returns c = sym (find-at (λ kind. bytes_eq (kind_word kind) c.args.word.now) kinds c.in_ok-place.place Set (sym c.in_ok-place.ensures.place))

pub returns-in_err-place : goal.returns-in_err-place
unfolding kind_of_word
returns-in_err-place c =
    c.from_residual.ensures ∙ sym (find-none (λ kind. bytes_eq (kind_word kind) c.args.word.now) kinds (sym c.in_err-place.ensures.place))
