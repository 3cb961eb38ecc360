use Rattle.rvs_crate_tests.proofs.yaml.+spell.Given as goal

abbrev pub decreases-spell : goal.decreases-spell
decreases-spell l = l.levels
