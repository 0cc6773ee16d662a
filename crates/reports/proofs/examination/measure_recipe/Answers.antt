use Rattle.std.proofs.Common.{sym}
use Rattle.layers.proofs.Chosen.{swap_or_not}
use Rattle.reports.proofs.examination.measure_recipe.Goals as goal

pub returns : goal.returns
returns c =
    let on = c.on.ensures in
    rw (sym on.plan, sym on.shift.0, sym on.shift.1, sym on.scramble.0, sym on.scramble.1, sym (swap_or_not _ _ on.swap)) c.measure.ensures
