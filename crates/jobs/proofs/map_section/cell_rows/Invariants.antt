use Rattle.jobs.specs.Layout.{cell_row}
use Rattle.jobs.proofs.MapRows.{Written}
use Rattle.jobs.proofs.map_section.cell_rows.Given as goal

abbrev pub invariant-loop-r : goal.invariant-loop-r
invariant-loop-r l = Written (cell_row l.bytes) l.r 8 l.rows
