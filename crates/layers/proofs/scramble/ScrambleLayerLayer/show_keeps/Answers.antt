use Rattle.layers.proofs.Mapped.{net_scrambled}
use Rattle.layers.proofs.scramble.ScrambleLayerLayer.show_keeps.Goals as goal

pub returns : goal.returns
returns c = let l = c.args.self.now in net_scrambled l.x_word l.y_word
