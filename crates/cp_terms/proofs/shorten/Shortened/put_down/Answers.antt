use Rattle.std.proofs.Common.{◌∷◌, sym, ◌∙◌, length, refl, subst}
use Rattle.std.proofs.lemmas.Result.{on_ok_weaker}
use Rattle.std.proofs.lemmas.Option.{slice_get_read, slice_get_past}
use Rattle.cp_terms.specs.Shorten.{FitsTerm}
use Rattle.cp_terms.proofs.ShortenLemmas.{agree_at_none, agree_at_constant, agree_at_mixed}
use Rattle.cp_terms.proofs.shorten.Shortened.put_down.Goals as goal

pub returns-in-None : goal.returns-in-None
returns-in-None c =
    on_ok_weaker c.put_constant.result
    (λ fits v w stack agree was.
    let same = agree_at_none c.args.windows.now c.args.end v w c.args.index (slice_get_past c.args.windows.now c.args.index c.in-None.ensures.lookup.3) agree in
    subst (λ b. FitsTerm w c.put_constant.new.self (b ∷ stack)) (sym same) (fits w stack was))
    c.put_constant.ensures

pub returns-in-Some : goal.returns-in-Some
returns-in-Some c =
    let at = slice_get_read c.args.windows.now (length c.args.windows.now) c.args.index c.in-Some.window.now refl c.in-Some.ensures.lookup.3.0 c.in-Some.ensures.lookup.1 in
    on_ok_weaker c.put_constant-in-Some.result
    (λ fits v w stack agree was.
    let same = agree_at_constant c.args.windows.now c.args.end v w c.args.index c.in-Some.window.now at c.if-window-end.true agree in
    subst (λ b. FitsTerm w c.put_constant-in-Some.new.self (b ∷ stack)) (c.is_inside.ensures ∙ sym same) (fits w stack was))
    c.put_constant-in-Some.ensures

pub returns-in-Some-2 : goal.returns-in-Some-2
returns-in-Some-2 c =
    let at = slice_get_read c.args.windows.now (length c.args.windows.now) c.args.index c.in-Some.window.now refl c.in-Some.ensures.lookup.3.0 c.in-Some.ensures.lookup.1 in
    on_ok_weaker c.put_set.result
    (λ fits v w stack agree was.
    let same = agree_at_mixed c.args.windows.now c.args.end v w c.args.index c.in-Some.window.now at c.if-window-end.false agree in
    subst (λ b. FitsTerm w c.put_set.new.self (b ∷ stack)) (sym same) (fits w stack was))
    c.put_set.ensures
