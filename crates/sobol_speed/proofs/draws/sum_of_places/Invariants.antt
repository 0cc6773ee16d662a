use Rattle.std.proofs.Common.{◌≡◌}
use Rattle.sobol_speed.specs.Draws.{state_after, sum_over}
use Rattle.sobol_speed.proofs.draws.sum_of_places.Given as goal

abbrev pub invariant-loop-i : goal.invariant-loop-i
invariant-loop-i l = (l.state ≡ state_after l.i) × (l.sum ≡ sum_over l.plan.level.m l.bits.m l.i)
