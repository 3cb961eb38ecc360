use Rattle.rvs_generate.proofs.making.made_of.Given as goal

abbrev pub ghosts-make_counted : goal.ghosts-make_counted
ghosts-make_counted a = record { name = a.blank.name; parts = a.blank.parts }
