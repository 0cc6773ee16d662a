use Rattle.std.proofs.Common.{◌≡◌, ℕ, ◌/◌, ◌^◌, ◌<◌, ◌≤◌}
use Rattle.sequences.proofs.Columns.{xor_columns}
use Rattle.sequences.proofs.Rounds.{x_of}
use Rattle.sequences.proofs.sobol.point_in_rounds.Given as goal

abbrev pub invariant-loop-rest : goal.invariant-loop-rest
invariant-loop-rest l = record {
  left : l.rest ≡ l.fn.index.i / 2 ^ l.rounds;
  x : l.x ≡ x_of l.rounds l.fn.index.i;
  y : l.y ≡ xor_columns l.rounds l.fn.index.i;
  few : l.rounds ≤ l.fn.index.level.m;
  reaches : (k : ℕ) → k < l.rounds → 2 ^ k ≤ l.fn.index.i;
}

abbrev pub decreases-loop-rest : goal.decreases-loop-rest
decreases-loop-rest l = l.rest
