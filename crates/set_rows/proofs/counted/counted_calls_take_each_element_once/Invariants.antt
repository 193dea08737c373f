use Rattle.set_rows.proofs.counted.counted_calls_take_each_element_once.Given as goal

-- the steps count in the blank ledger that is made here
abbrev pub ghosts-are_combined : goal.ghosts-are_combined
ghosts-are_combined g a = record { name = a.blank.name; parts = a.blank.parts }
