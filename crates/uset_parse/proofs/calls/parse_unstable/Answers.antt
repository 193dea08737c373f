use Rattle.std.proofs.Common.{◌≡◌, ap, option_map, encode_utf8_all, subst}
use mathlib.Core.Path.{fun_ext}
use Rattle.std.proofs.lemmas.Result.{IfOk-weaker}
use Rattle.prop_data.specs.Database.{tables_of}
use Rattle.uset_reader.specs.Syntaxes.{language_of}
use Rattle.uset_variables.specs.Values.{value_seen}
use Rattle.uset_variables.specs.Variables.{variables_of, no_variables}
use Rattle.uset_parse.specs.Reading.{IsRead}
use Rattle.uset_parse.proofs.calls.parse_unstable.Goals as goal

pub returns-clause-read : goal.returns-clause-read
returns-clause-read c =
    let none : variables_of c.new.result ≡ no_variables = fun_ext (λ name. ap (option_map value_seen) (c.new.ensures.free (encode_utf8_all name))) in
    IfOk-weaker c.parse_unstable_with_variables.result _ _ (λ p h. subst (λ v. IsRead (language_of v (tables_of c.args.database.now)) c.args.source.now p.0 p.1) none h)
    c.parse_unstable_with_variables.ensures.read
