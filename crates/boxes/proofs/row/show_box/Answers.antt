use Rattle.boxes.proofs.Corners.{box_coat}
use Rattle.boxes.proofs.row.show_box.Goals as goal

pub returns : goal.returns
returns c = box_coat c.args.row
