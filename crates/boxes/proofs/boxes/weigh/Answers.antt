use Rattle.std.proofs.Common.{rules}
use Rattle.boxes.proofs.Corners.{boxes_weight}
use Rattle.boxes.proofs.boxes.weigh.Goals as goal

pub returns : goal.returns
returns c = search (rules, boxes_weight)
