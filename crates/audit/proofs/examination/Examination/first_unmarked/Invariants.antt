use Rattle.audit.proofs.Flags.{Marks}
use Rattle.audit.proofs.examination.Examination.first_unmarked.Given as goal

abbrev pub invariant-loop-i : goal.invariant-loop-i
invariant-loop-i g l = Marks l.self.level.m l.depth (g.S.Source.list l.self.source) l.i l.seen
