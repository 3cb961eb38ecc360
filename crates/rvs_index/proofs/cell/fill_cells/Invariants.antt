use Rattle.std.proofs.Common.{◌≡◌, length}
use Rattle.rvs_index.specs.Cells.{HasCells}
use Rattle.rvs_index.proofs.cell.fill_cells.Given as goal

abbrev pub invariant-loop-number : goal.invariant-loop-number
invariant-loop-number l = record {
  each : HasCells l.lists l.cells;
  count : length l.cells ≡ l.number;
}
