use Rattle.std.proofs.Common.{◌≡◌, ◌<◌, length}
use Rattle.rvs_insn.specs.Table.{op_count}
use Rattle.rvs_index.specs.Shared.{HasBlocks}
use Rattle.rvs_index.proofs.alike.fill_blocks.Given as goal

abbrev pub invariant-loop-next : goal.invariant-loop-next
invariant-loop-next l = record {
  each : HasBlocks l.cells l.blocks;
  count : length l.blocks ≡ l.next;
  low : l.first < op_count;
}
