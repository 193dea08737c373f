use Rattle.std.proofs.Common.{inl, inr, refl, sym, ap, ◌∙◌}
use Rattle.std.specs.Prelude.{◌||◌}
use Rattle.uset_grammar.specs.Tree.{in_range}
use Rattle.uset_reader.proofs.bracket.OpenBracket.add_last.Goals as goal
use Rattle.uset_reader.proofs.bracket.OpenBracket.add_last.Goals.{in-AfterSingle, in-RangeEnd+in_ok-add_range-in-RangeEnd, in-End, in-AnchorEnd}

pub returns-clause-ended : goal.returns-clause-ended
returns-clause-ended c =
    let becomes = c.in_ok-add_range.ensures.becomes in
    elim c.match-self.branch [
      | in-AfterSingle w ↦
          let h = rw (w.self-is, w.last-is, w.range-last.ensures.start, w.range-last.ensures.end) at becomes in
          rw w.in-AfterSingle.is (refl, λ sets f. record { has = λ m. sym ((h sets f).has m); fits = (h sets f).fits })
      | in-RangeEnd+in_ok-add_range-in-RangeEnd w ↦
          let h = rw (w.self-is, w.last-is) at becomes in
          let first = rw (w.range.ensures.start, w.range.ensures.end) at w.in_ok-add_range-in-RangeEnd.ensures.becomes in
          rw w.in-RangeEnd.is (
            refl,
            λ sets f. let k = first sets f in record {
              has = λ m. sym ((h sets k.fits).has m ∙ ap (λ b. b || in_range 0x2D 0x2D m) (k.has m));
              fits = (h sets k.fits).fits;
            },
          )
      | in-End w ↦
          let h = rw (w.self-is, w.last-is) at becomes in
          elim w.in-End.is [
            | inl e ↦ rw e (refl, λ sets f. record { has = λ m. sym ((h sets f).has m); fits = (h sets f).fits })
            | inr e ↦ rw e (refl, λ sets f. record { has = λ m. sym ((h sets f).has m); fits = (h sets f).fits })
          ]
      | in-AnchorEnd w ↦
          let h = rw (w.self-is, w.last-is) at becomes in
          rw w.in-AnchorEnd.is (refl, λ sets f. record { has = λ m. sym ((h sets f).has m); fits = (h sets f).fits })
    ]
