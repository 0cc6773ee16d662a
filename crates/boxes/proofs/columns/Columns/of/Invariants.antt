use Rattle.boxes.proofs.LaidRows.{LaysFirst}
use Rattle.boxes.proofs.columns.Columns.of.Given as goal

abbrev pub invariant-loop-i : goal.invariant-loop-i
invariant-loop-i l = LaysFirst l.columns l.rows l.i
