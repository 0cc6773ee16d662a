use Rattle.radius.proofs.Strips.{box_shares}
use Rattle.radius.proofs.show_boxes.Goals as goal

pub returns : goal.returns
returns c = box_shares
