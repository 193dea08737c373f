use Rattle.std.proofs.Common.{sym, ◌∙◌, reverse}
use Rattle.std.proofs.lemmas.Result.{on_ok_weaker}
use Rattle.cp_terms.specs.Shorten.{FitsTerm}
use Rattle.cp_terms.proofs.ShortenLemmas.{put_both_over, put_both_mixed, reverse-push}
use Rattle.cp_terms.proofs.shorten.Shortened.put_both.Goals as goal

pub returns-in-Some-constant : goal.returns-in-Some-constant
returns-in-Some-constant c =
    on_ok_weaker c.put_changed-in-Some-constant.result
    (λ h w a b stack fits. put_both_over w c.args.operation c.args.self.now.steps.items c.args.upper c.args.lower c.in-Some-constant.inside c.combine-in-Some-constant.result c.combine-in-Some-constant-2.result
    (reverse c.args.self.now.stack.items) a b stack (λ s. FitsTerm w c.put_changed-in-Some-constant.new.self s) (sym c.constant.ensures ∙ c.in_default.is) (sym c.constant-2.ensures ∙ c.in-Some-constant.is) c.combine-in-Some-constant.ensures c.combine-in-Some-constant-2.ensures (h w b stack) fits)
    c.put_changed-in-Some-constant.ensures

pub returns : goal.returns
returns c = λ w a b stack fits.
    put_both_mixed w c.args.operation c.args.self.now.steps.items c.push.new.self.items c.args.upper c.args.lower (reverse c.args.self.now.stack.items) (reverse c.push-2.new.self.items) a b stack
    (sym c.constant.ensures ∙ c.in_default.is) (sym c.constant-2.ensures ∙ c.in_default-constant.is) c.in_ok-push.ensures.items
    (reverse-push c.push-2.new.self.items c.args.self.now.stack.items c.args.lower c.in_ok-push-2.ensures.items) fits
