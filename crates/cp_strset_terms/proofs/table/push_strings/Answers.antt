use Rattle.std.proofs.Common.{ap, sym, ◌∙◌, ◌++◌, map}
use Rattle.std.proofs.lemmas.List.{append-nil, take_all}
use Rattle.std.specs.String.{string_bytes}
use Rattle.cp_strset_terms.specs.Places.{texts}
use Rattle.cp_strset_terms.proofs.PushedLemmas.{seen_pushed_behind}
use Rattle.cp_strset_terms.proofs.table.push_strings.Goals as goal

pub loop-string-init : goal.loop-string-init
loop-string-init c = sym (append-nil (texts c.args.table.now.items))

pub loop-string-preserved : goal.loop-string-preserved
loop-string-preserved c =
    seen_pushed_behind (λ text. text.now) string_bytes (texts c.args.table.now.items) c.loop-string.table.items c.push.new.self.items c.as_str.result c.args.strings.now c.loop-string.string-index c.string-item.result
    c.loop-string-test.true c.in_ok-push.ensures.items (c.as_str.ensures.value ∙ ap string_bytes c.string-item.is) c.loop-string.invariant

pub returns : goal.returns
returns c = c.loop-string.invariant ∙ ap (λ strings. texts c.args.table.now.items ++ map string_bytes strings) (take_all c.loop-string.string-index c.args.strings.now c.loop-string-test.false)
