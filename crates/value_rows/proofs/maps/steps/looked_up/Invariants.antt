use Rattle.value_rows.proofs.maps.steps.looked_up.Given as goal

-- the steps count in the blank ledger that is made here
abbrev pub ghosts-look_up_both : goal.ghosts-look_up_both
ghosts-look_up_both a = record { name = a.blank.name; parts = a.blank.parts }
