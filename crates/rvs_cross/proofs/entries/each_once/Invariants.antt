use Rattle.std.proofs.Common.{◌≡◌, drop}
use Rattle.rvs_facts.specs.Mnemonics.{is_same}
use Rattle.rvs_cross.specs.Once.{each_once}
use Rattle.rvs_cross.proofs.Once.{with_rest}
use Rattle.rvs_cross.proofs.entries.each_once.Given as goal

abbrev pub invariant-loop-op : goal.invariant-loop-op
invariant-loop-op l =
    with_rest is_same l.ops.items (drop l.op-index l.named) ≡ each_once is_same l.named
