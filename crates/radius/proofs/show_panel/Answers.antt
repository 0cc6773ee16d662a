use Rattle.radius.proofs.Panel.{panel_whole}
use Rattle.radius.proofs.show_panel.Goals as goal

pub returns : goal.returns
returns c = panel_whole
