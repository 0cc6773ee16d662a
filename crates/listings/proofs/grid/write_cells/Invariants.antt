use Rattle.std.proofs.Common.{◌≤◌}
use Rattle.listings.specs.Pictures.{Grows}
use Rattle.listings.proofs.grid.write_cells.Given as goal

abbrev pub invariant-loop-to : goal.invariant-loop-to
invariant-loop-to g l = record {
  from : l.from ≤ l.to;
  written : Grows (g.W.Write.contents l.fn.output) (g.W.Write.contents l.output);
}
