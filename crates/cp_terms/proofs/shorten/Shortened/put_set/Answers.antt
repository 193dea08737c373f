use Rattle.std.proofs.Common.{◌≡◌, length, reverse, rules}
use Rattle.cp_terms.specs.declared.shorten.Part.TheVariants.{Mixed}
use Rattle.cp_terms.proofs.ShortenLemmas.{put_one, reverse-push}
use Rattle.cp_terms.proofs.shorten.Shortened.put_set.Goals as goal

pub returns : goal.returns
returns c = λ w stack fits.
    let at : c.len-start.result ≡ length c.args.self.now.steps.items = search rules in
    put_one w c.args.self.now.steps.items c.push.new.self.items c.args.index c.len-start.result (reverse c.args.self.now.stack.items) (reverse c.push-2.new.self.items) stack c.in_ok-push.ensures.items
    at (reverse-push c.push-2.new.self.items c.args.self.now.stack.items (Mixed c.len-start.result) c.in_ok-push-2.ensures.items) fits
