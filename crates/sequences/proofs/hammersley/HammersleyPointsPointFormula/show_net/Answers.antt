use Rattle.sequences.proofs.AreNets.{hammersley_is_net}
use Rattle.sequences.proofs.hammersley.HammersleyPointsPointFormula.show_net.Goals as goal

pub returns : goal.returns
returns c = hammersley_is_net c.args._level.m c.args._level.low
