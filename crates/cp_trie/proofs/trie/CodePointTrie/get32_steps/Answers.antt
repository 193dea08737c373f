use Rattle.std.proofs.Common.{◌≡◌, sym, ◌∙◌, arith, rules}
use Rattle.cp_trie.proofs.CoverLemmas.{IsCover, IsCover-from_runs, value_in-past_end}
use Rattle.cp_trie.proofs.SearchLemmas.{held_by, value_in-held}
use Rattle.cp_trie.proofs.trie.CodePointTrie.get32_steps.Goals as goal

pub returns-then-c-gt-LAST_CODE_POINT-clause-value : goal.returns-then-c-gt-LAST_CODE_POINT-clause-value
returns-then-c-gt-LAST_CODE_POINT-clause-value g c =
    let cover : IsCover 0 c.self.inside.runs = IsCover-from_runs g.T.PartialEq.eq _ 0 _ c.self.invariant.0 in
    rw (← c.self.view_is) (sym (value_in-past_end 0 _ _ c.args.c cover c.if-c-gt-LAST_CODE_POINT.true))

pub value-requires : goal.value-requires
value-requires g c =
    let cover : IsCover 0 c.self.inside.runs = IsCover-from_runs g.T.PartialEq.eq _ 0 _ c.self.invariant.0 in
    let held = held_by 0 c.self.inside.runs c.args.c cover (omega arith) c.if-c-gt-LAST_CODE_POINT.false in
    rw (c.self.invariant.1 c.args.c c.if-c-gt-LAST_CODE_POINT.false, held.1) (search rules)

pub returns-clause-value : goal.returns-clause-value
returns-clause-value g c =
    let cover : IsCover 0 c.self.inside.runs = IsCover-from_runs g.T.PartialEq.eq _ 0 _ c.self.invariant.0 in
    let held = held_by 0 c.self.inside.runs c.args.c cover (omega arith) c.if-c-gt-LAST_CODE_POINT.false in
    let stands = rw held.1 at (c.self.invariant.1 c.args.c c.if-c-gt-LAST_CODE_POINT.false) in
    let same : c.value.result ≡ held.0.value = cc (c.value.ensures.value, stands) in
    rw (← c.self.view_is) (same ∙ sym (value_in-held _ _ c.args.c held.0 held.1))
