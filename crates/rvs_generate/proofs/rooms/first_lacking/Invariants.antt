use Rattle.rvs_generate.proofs.rooms.first_lacking.Given as goal

abbrev pub ghosts-lacking_counted : goal.ghosts-lacking_counted
ghosts-lacking_counted a = record { name = a.blank.name; parts = a.blank.parts }
