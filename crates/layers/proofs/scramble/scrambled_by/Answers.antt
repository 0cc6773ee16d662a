use Rattle.layers.proofs.Prefixes.{masked_is}
use Rattle.layers.proofs.scramble.scrambled_by.Goals as goal

pub returns : goal.returns
returns c = rw c.mask.ensures (masked_is c.args.bits c.args.x c.ranges.x.fits)
