use Rattle.std.proofs.Common.{◌+◌, ◌*◌}
use Rattle.little_endian.specs.Numbers.{le_signed}
use Rattle.maps.specs.declared.map.MapKind.TheVariants.{Cells}
use Rattle.jobs.specs.Layout.{row_start}
use Rattle.jobs.proofs.MapRows.{Written}
use Rattle.jobs.proofs.map_section.cell_values.Given as goal

abbrev pub invariant-loop-s : goal.invariant-loop-s
invariant-loop-s l = Written (λ s. le_signed l.bytes (row_start Cells l.r + 2 * s)) l.s 8 l.row
