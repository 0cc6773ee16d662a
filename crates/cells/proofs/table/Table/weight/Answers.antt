use Rattle.std.proofs.Common.{arith}
use Rattle.std.proofs.lemmas.Grind.{common_steps}
use Rattle.std.proofs.lemmas.List.FromFn.{sum_by-map-range_with_len_more}
use Rattle.cells.proofs.Falls.{cells_weight}
use Rattle.cells.proofs.table.Table.weight.Goals as goal

pub loop-r-preserved : goal.loop-r-preserved
loop-r-preserved c = grind (arith, sum_by-map-range_with_len_more)

pub returns : goal.returns
returns c = grind (arith, common_steps, cells_weight)
