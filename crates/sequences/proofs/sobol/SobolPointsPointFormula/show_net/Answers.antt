use Rattle.sequences.proofs.AreNets.{sobol_is_net}
use Rattle.sequences.proofs.sobol.SobolPointsPointFormula.show_net.Goals as goal

pub returns : goal.returns
returns c = sobol_is_net c.args._level.m c.args._level.low
