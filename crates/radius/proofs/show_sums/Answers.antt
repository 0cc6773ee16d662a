use Rattle.radius.proofs.Sums.{sums_near}
use Rattle.radius.proofs.show_sums.Goals as goal

pub returns : goal.returns
returns c = sums_near
