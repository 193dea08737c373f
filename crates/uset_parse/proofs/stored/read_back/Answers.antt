use Rattle.std.proofs.Common.{subst, sym}
use Rattle.std.proofs.lemmas.Result.{err_from_is_err_and}
use Rattle.cp_invlist.specs.InversionList.{IsInversionList}
use Rattle.cp_strset.specs.PatternText.{IsPatternOf}
use Rattle.prop_data.specs.Database.{tables_of}
use Rattle.uset_variables.specs.Variables.{variables_of}
use Rattle.uset_parse.proofs.ReadBackLemmas.{kept_by, has_syntax, reads_whole, refused_lacks}
use Rattle.uset_parse.proofs.stored.read_back.Goals as goal

pub returns-clause-whole : goal.returns-clause-whole
returns-clause-whole c =
    let kept = kept_by c.args.set.now c.code_points.result.now c.strings.result.now c.get_inversion_list.ensures.canonical c.code_points.ensures c.strings.ensures.bytes c.strings.ensures.canonical in
    let written = subst (IsPatternOf c.args.set.now) (sym c.deref.ensures) c.in_ok-pattern.ensures.pattern in
    let in_order = subst IsInversionList c.code_points-2.ensures c.get_inversion_list-2.ensures.canonical in
    reads_whole c.inverse.ensures.sets c.one_answer.ensures (tables_of c.args.database.now) c.set.ensures.syntax (variables_of c.args.variable_map.now) c.args.set.now kept c.deref.result.now written
    c.same_members.ensures c.one_list.ensures c.in_ok-read.read c.in_ok-read.length in_order c.strings-2.ensures.canonical c.in_ok-read.ensures.read

pub returns-in_err-read-clause-refused : goal.returns-in_err-read-clause-refused
returns-in_err-read-clause-refused c =
    let kept = kept_by c.args.set.now c.code_points.result.now c.strings.result.now c.get_inversion_list.ensures.canonical c.code_points.ensures c.strings.ensures.bytes c.strings.ensures.canonical in
    let written = subst (IsPatternOf c.args.set.now) (sym c.deref.ensures) c.in_ok-pattern.ensures.pattern in
    let p = err_from_is_err_and c.from_residual-in_err-read.result c.from_residual-in_err-read.ensures.1 in
    rw (p.1, p.2) (refused_lacks c.inverse.ensures.sets c.one_answer.ensures (tables_of c.args.database.now) c.set.ensures.syntax (variables_of c.args.variable_map.now) c.args.set.now kept c.deref.result.now written _ c.in_err-read.ensures.refused)

pub returns-clause-syntax : goal.returns-clause-syntax
returns-clause-syntax c = has_syntax _ _ _ _ c.in_ok-read.ensures.read
