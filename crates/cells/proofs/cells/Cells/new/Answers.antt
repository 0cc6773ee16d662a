use Rattle.std.proofs.Common.{sym, arith}
use Rattle.cells.proofs.Falls.{no_weight}
use Rattle.cells.proofs.cells.Cells.new.Goals as goal

pub invariant_of-result : goal.invariant_of-result
invariant_of-result c = record { weighs = sym (no_weight _ c.default.ensures); light = omega arith }
