use Rattle.std.proofs.Common.{◌≡◌, length}
use Rattle.rvs_parts.specs.Parts.{parted}
use Rattle.rvs_inputs.proofs.parting.kept_labels.Given as goal

-- those of the labels so far
abbrev pub invariant-loop-label : goal.invariant-loop-label
invariant-loop-label l = record {
  kept : l.kept ≡ parted l.part l.yielded;
  place : l.place ≡ length l.yielded;
}
