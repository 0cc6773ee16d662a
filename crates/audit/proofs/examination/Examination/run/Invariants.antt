use Rattle.std.proofs.Common.{ℕ, ◌^◌, ◌<◌, ◌≤◌, All}
use Rattle.nets.specs.Places.{IsOnPanel, count_in}
use Rattle.audit.proofs.examination.Examination.run.Given as goal

abbrev pub invariant-loop-depth : goal.invariant-loop-depth
invariant-loop-depth g l =
    (0 < l.depth → All IsOnPanel (g.S.Source.list l.self.source)) × ((e : ℕ) → e < l.depth → (k : ℕ) → k < 2 ^ l.self.level.m → 1 ≤ count_in l.self.level.m e k (g.S.Source.list l.self.source))
