use Rattle.cells.proofs.Falls.{cells_coat}
use Rattle.cells.proofs.cells.show_cells.Goals as goal

pub returns : goal.returns
returns c = cells_coat c.args.values.now
