use Rattle.std.proofs.Common.{◌≡◌, drop, IsCharBoundary}
use Rattle.rvs_text.specs.Spaces.{without_spaces}
use Rattle.rvs_text.proofs.spaces.without_spaces.Given as goal

abbrev pub invariant-loop-i : goal.invariant-loop-i
invariant-loop-i l = record {
  same : without_spaces (drop l.i l.text) ≡ without_spaces l.text;
  boundary : IsCharBoundary l.text l.i;
}
