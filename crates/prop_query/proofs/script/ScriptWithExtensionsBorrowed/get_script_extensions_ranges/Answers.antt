use Rattle.std.proofs.Common.{nat_eq, eqb-true, subst, sym, ap₂, ◌∙◌}
use Rattle.cp_invlist.specs.Ranges.{AreRangesFrom}
use Rattle.cp_trie.specs.Map.{value_at}
use Rattle.prop_data.specs.Extensions.{scripts_map}
use Rattle.prop_query.specs.Passing.{passing}
use Rattle.prop_query.specs.Scripts.{has_script, number_has}
use Rattle.prop_query.specs.ScriptTypes.{table_of}
use Rattle.prop_query.proofs.PassingLemmas.{ranges-passing}
use Rattle.prop_query.proofs.ScriptLemmas.{members-has_script}
use Rattle.prop_query.proofs.script.ScriptWithExtensionsBorrowed.get_script_extensions_ranges.Goals as goal

pub returns-clause-maximal : goal.returns-clause-maximal
returns-clause-maximal c =
    let table = table_of c.args.self in
    let script = c.args.script in
    let runs = c.iter_ranges-runs.result in
    let found = ranges-passing nat_eq eqb-true (number_has table script) (value_at (scripts_map table)) runs (rw c.script_trie.ensures at c.iter_ranges-runs.ensures.maximal) in
    let same = ap₂ (λ scripts number. passing (number_has (table_of scripts) number) runs) c.new.ensures.scripts c.new.ensures.script in
    subst (AreRangesFrom (has_script table script) 0) (sym (c.new-2.ensures ∙ same))
    (subst (λ m. AreRangesFrom m 0 (passing (number_has table script) runs)) (λ i n. members-has_script table script n i) found)

pub returns-clause-only : goal.returns-clause-only
returns-clause-only c rs maximal =
    c.one_list_of_ranges.ensures (has_script (table_of c.args.self) c.args.script) rs c.new-2.result maximal (returns-clause-maximal c)

pub returns-clause-covered : goal.returns-clause-covered
returns-clause-covered c n =
    c.ranges_hold_members.ensures (has_script (table_of c.args.self) c.args.script) c.new-2.result (returns-clause-maximal c) n
