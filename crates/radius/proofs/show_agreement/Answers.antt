use Rattle.radius.proofs.Sums.{sums_agree}
use Rattle.radius.proofs.show_agreement.Goals as goal

pub returns : goal.returns
returns c = sums_agree
