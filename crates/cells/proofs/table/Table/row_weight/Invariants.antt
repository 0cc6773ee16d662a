use Rattle.std.proofs.Common.{◌≡◌, ◌*◌, ◌≤◌, map}
use Rattle.std.specs.List.{range_with_len}
use Rattle.coats.specs.Terms.{weight_of}
use Rattle.cells.specs.Cells.{cell_term}
use Rattle.cells.specs.Tables.{values_of}
use Rattle.cells.proofs.table.Table.row_weight.Given as goal

abbrev pub invariant-loop-s : goal.invariant-loop-s
invariant-loop-s l = (l.sum ≤ 131072 * l.s) × (l.sum ≡ weight_of (map (cell_term (values_of l.self) l.r) (range_with_len 0 l.s)))
