use Rattle.std.proofs.Common.{◌≡◌}
use Rattle.jobs.specs.Layout.{steps_in}
use Rattle.jobs.proofs.map_section.step_rows.Given as goal

abbrev pub invariant-loop-i : goal.invariant-loop-i
invariant-loop-i l = l.rows.items ≡ steps_in l.bytes l.first l.i
