use Rattle.radius.proofs.Panel.{panel_adds}
use Rattle.radius.proofs.show_mean.Goals as goal

pub returns : goal.returns
returns c = panel_adds
