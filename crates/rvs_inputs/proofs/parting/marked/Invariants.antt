use Rattle.std.proofs.Common.{◌≡◌, length}
use Rattle.rvs_inputs.specs.DatabaseInput.{marked}
use Rattle.rvs_inputs.proofs.parting.marked.Given as goal

-- those of the tests so far
abbrev pub invariant-loop-entry : goal.invariant-loop-entry
invariant-loop-entry l = record {
  all : l.all ≡ marked l.part l.yielded;
  place : l.place ≡ length l.yielded;
}
