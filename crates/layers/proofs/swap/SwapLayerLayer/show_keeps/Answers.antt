use Rattle.layers.proofs.Mapped.{net_swapped}
use Rattle.layers.proofs.swap.SwapLayerLayer.show_keeps.Goals as goal

pub returns : goal.returns
returns c = net_swapped
