use Rattle.std.proofs.Common.{◌≡◌, ◌*◌, ◌≤◌, take, nat_abs}
use Rattle.coats.specs.Terms.{sum_of}
use Rattle.steps.specs.Rows.{rise_of}
use Rattle.steps.proofs.axes.Axis.height.Given as goal

abbrev pub invariant-loop-step : goal.invariant-loop-step
invariant-loop-step l = (nat_abs l.sum ≤ 32768 * l.step-index) × (l.sum ≡ sum_of (rise_of l.at) (take l.step-index l.self.steps.now))
