use Rattle.layers.proofs.Mapped.{net_kept}
use Rattle.layers.proofs.layer.OptionLayer.show_keeps.Goals as goal

pub returns-in-Some : goal.returns-in-Some
returns-in-Some g c = rw c.in-Some.is c.show_keeps.ensures

pub returns-in_default : goal.returns-in_default
returns-in_default g c = rw c.in_default.is net_kept
