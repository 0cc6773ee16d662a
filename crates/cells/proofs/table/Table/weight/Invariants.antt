use Rattle.std.proofs.Common.{◌≡◌, ◌*◌, ◌≤◌, map, sum}
use Rattle.std.specs.List.{range_with_len}
use Rattle.coats.specs.Terms.{weight_of}
use Rattle.cells.specs.Cells.{row_terms}
use Rattle.cells.specs.Tables.{values_of}
use Rattle.cells.proofs.table.Table.weight.Given as goal

abbrev pub invariant-loop-r : goal.invariant-loop-r
invariant-loop-r l = (l.sum ≤ 1048576 * l.r) × (l.sum ≡ sum (map (λ r. weight_of (row_terms (values_of l.self) r)) (range_with_len 0 l.r)))
