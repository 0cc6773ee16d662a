use Rattle.std.proofs.Common.{arith}
use Rattle.std.proofs.lemmas.Int.{ints}
use Rattle.coats.proofs.Sums.{sum_of_more}
use Rattle.steps.specs.Rows.{rise_of}
use Rattle.steps.proofs.Pairings.{no_step}
use Rattle.steps.proofs.axes.Axis.height.Goals as goal

pub loop-step-preserved : goal.loop-step-preserved
loop-step-preserved c =
    let more = sum_of_more (rise_of c.args.at) c.args.self.steps.now c.loop-step.step-index no_step c.loop-step-test.true in
    (omega (arith, ints), omega (arith, ints))
