use Rattle.std.proofs.Common.{◌≡◌, ◌++◌}
use Rattle.rvs_asm.specs.Bytes.{repeated}
use Rattle.rvs_asm.proofs.emitting.push_repeated.Given as goal

abbrev pub invariant-loop-done : goal.invariant-loop-done
invariant-loop-done l = l.out.items ≡ l.initial.out.items ++ repeated l._done l.bytes
