use Rattle.std.proofs.Common.{◌≡◌, ◌+◌, ◌≤◌, ◌++◌, vec_items, vec_len, vec_capacity}
use Rattle.std.specs.Vec.Iter.{into_iter_items, into_iter_len}
use Rattle.survey.specs.Logs.{IsRun}
use Rattle.survey.proofs.log.run_log.Given as goal

abbrev pub invariant-loop-call : goal.invariant-loop-call
invariant-loop-call g l = record {
  calls : vec_items l.fn.calls ≡ l.yielded ++ into_iter_items l.call-iterator;
  room : vec_len l.answers + into_iter_len l.call-iterator ≤ vec_capacity l.answers;
  run : IsRun l.fn.plan l.fn.map l.yielded l.gauge (vec_items l.answers);
}
