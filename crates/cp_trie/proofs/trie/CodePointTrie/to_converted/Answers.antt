use Rattle.std.proofs.Common.{◌≡◌, Some, None, length, sym, ap, ◌∙◌, rules}
use Rattle.std.proofs.lemmas.Result.{err_from_is_err_and}
use Rattle.cp_trie.specs.Conversion.{conversion}
use Rattle.cp_trie.proofs.ConversionLemmas.{refused_from-error, refused_from-none, value_in-runs_by, IsCover-runs_by}
use Rattle.cp_trie.proofs.CoverLemmas.{IsCover-from_runs, no_fault-from_IsCover}
use Rattle.cp_trie.proofs.RunsLemmas.{runs_unique}
use Rattle.cp_trie.proofs.trie.CodePointTrie.to_converted.Goals as goal

pub returns-in_err-runs-clause-refusal : goal.returns-in_err-runs-clause-refusal
returns-in_err-runs-clause-refusal g c rs maximal =
    let same : rs ≡ c.runs.result.now = runs_unique g.T.PartialEq.eq _ 0 rs c.runs.result.now maximal c.runs.ensures.maximal in
    let named = c.in_err-runs.ensures.refusal c.args.self.now.error_value in
    let p = err_from_is_err_and c.from_residual.result c.from_residual.ensures.1 in
    rw (same, p.1, p.2) named

pub returns-in_default-clause-refusal : goal.returns-in_default-clause-refusal
returns-in_default-clause-refusal g c rs maximal =
    let convert = conversion g.T.TrieValue.packed g.P.TrieValue.unpacked in
    let none : convert c.args.self.now.error_value ≡ None = ap (λ e. convert e) (sym c.error_value.ensures.value) ∙ (sym c.converted.ensures ∙ search rules) in
    let size : length c.runs.result.now ≡ length c.runs-in_default.result.now = ap length (c.runs.ensures.runs ∙ sym c.runs-in_default.ensures.runs) in
    let same : rs ≡ c.runs.result.now = runs_unique g.T.PartialEq.eq _ 0 rs c.runs.result.now maximal c.runs.ensures.maximal in
    rw same (refused_from-error convert _ c.runs.result.now c.in_ok-runs.ensures.whole none ∙ ap (λ k. Some k) size)

pub from_cover-requires : goal.from_cover-requires
from_cover-requires g c =
    let convert = conversion g.T.TrieValue.packed g.P.TrieValue.unpacked in
    let some : convert c.args.self.now.error_value ≡ Some c.in-Some.error_value = ap (λ e. convert e) (sym c.error_value.ensures.value) ∙ sym c.in-Some.ensures in
    let none = refused_from-none convert _ _ c.runs.result.now c.in_ok-runs.ensures.whole some in
    let cover = IsCover-from_runs g.T.PartialEq.eq _ 0 c.runs.result.now c.runs.ensures.maximal in
    rw c.in_ok-runs.ensures.converted (no_fault-from_IsCover 0 0 _ (IsCover-runs_by convert _ 0 0 c.runs.result.now none cover))

pub returns-clause-values : goal.returns-clause-values
returns-clause-values g c n =
    let convert = conversion g.T.TrieValue.packed g.P.TrieValue.unpacked in
    let some : convert c.args.self.now.error_value ≡ Some c.in-Some.error_value = ap (λ e. convert e) (sym c.error_value.ensures.value) ∙ sym c.in-Some.ensures in
    let none = refused_from-none convert _ _ c.runs.result.now c.in_ok-runs.ensures.whole some in
    let values = value_in-runs_by convert _ _ 0 c.runs.result.now n some none in
    rw (c.in_ok-from_cover.ensures.values n, c.in_ok-runs.ensures.converted, ← c.runs.ensures.runs) values

pub returns-clause-refusal : goal.returns-clause-refusal
returns-clause-refusal g c rs maximal =
    let convert = conversion g.T.TrieValue.packed g.P.TrieValue.unpacked in
    let some : convert c.args.self.now.error_value ≡ Some c.in-Some.error_value = ap (λ e. convert e) (sym c.error_value.ensures.value) ∙ sym c.in-Some.ensures in
    let same : rs ≡ c.runs.result.now = runs_unique g.T.PartialEq.eq _ 0 rs c.runs.result.now maximal c.runs.ensures.maximal in
    rw same (refused_from-none convert _ _ c.runs.result.now c.in_ok-runs.ensures.whole some)
