use Rattle.std.proofs.Common.{◌≡◌, ◌++◌, drop}
use Rattle.rvs_run.specs.RunDatabase.{chosen}
use Rattle.rvs_generate.specs.Tests.{to_read}
use Rattle.rvs_run.proofs.run_database.choose.Given as goal

-- those before and those that the rest gives are all of them
abbrev pub invariant-loop-entry : goal.invariant-loop-entry
invariant-loop-entry l = record {
  chosen : l.sources ++ to_read (chosen l.entry-index (drop l.entry-index l.entries))
      ≡ to_read (chosen 0 l.entries);
  place : l.place ≡ l.entry-index;
}
