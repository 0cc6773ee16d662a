use Rattle.std.proofs.Common.{rules, arith}
use Rattle.nets.specs.Places.{IsOnPanel}
use Rattle.nets.proofs.Intervals.{number_below}
use Rattle.audit.proofs.examination.Examination.interval_of.Goals as goal

pub returns-clause-bound : goal.returns-clause-bound
returns-clause-bound g c =
    let level = c.args.self.now.level in
    let inside : IsOnPanel c.args.place = search rules in
    rw (c.top_bits.ensures, c.top_bits-2.ensures, c.get.ensures.value) (omega (arith, number_below level.m c.args.depth c.args.place level.low c.requires inside))
