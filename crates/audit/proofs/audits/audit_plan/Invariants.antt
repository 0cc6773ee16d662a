use Rattle.std.proofs.Common.{◌≡◌, length, take}
use Rattle.audit.proofs.audits.audit_plan.Given as goal

abbrev pub invariant-loop-i : goal.invariant-loop-i
invariant-loop-i g l = (length l.places ≡ 4096) × (take l.i l.places ≡ take l.i (g.P.Net.places l.plan))
