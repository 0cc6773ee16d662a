use Rattle.layers.proofs.Mapped.{net_shifted}
use Rattle.layers.proofs.shift.ShiftLayerLayer.show_keeps.Goals as goal

pub returns : goal.returns
returns c = let l = c.args.self.now in net_shifted l.s l.t l.s_fits l.t_fits
