use Rattle.std.proofs.Common.{◌≡◌, ◌*◌, ◌≤◌, nat_abs}
use Rattle.coats.specs.declared.checks.TheConstants.{HEAVIEST}
use Rattle.survey.specs.Setups.{setup_of, coats_of}
use Rattle.survey.proofs.sums.sum_coats.Given as goal

abbrev pub invariant-loop-i : goal.invariant-loop-i
invariant-loop-i g l = record {
  value : l.sum ≡ coats_of (setup_of g.P.Net g.M.CoatMap l.plan l.map) l.first l.i;
  bound : nat_abs l.sum ≤ HEAVIEST * l.i;
}
