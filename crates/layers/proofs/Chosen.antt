-- A plan with the layers of a recipe on it.
use Rattle.std.proofs.Common.{◌≡◌, Bool, true, false, if◌then◌else◌, Option, Some, None, refl}
use Rattle.std.specs.Option.{option_map_or}
use Rattle.nets.specs.Places.{Place}
use Rattle.layers.specs.Layers.{swap_of}
use Rattle.layers.specs.declared.swap.SwapLayer.{SwapLayer}

-- what the swap layer makes of a place, where it is there or not
pub swap_or_not : (b : Bool) (o : Option SwapLayer) → o ≡ (if b then Some (record {}) else None) →
    let layer : Place → Place = λ p. option_map_or (λ (l : SwapLayer). swap_of p) o p in
    let choice : Place → Place = λ p. if b then swap_of p else p in
    layer ≡ choice
swap_or_not true o e = rw e refl
swap_or_not false o e = rw e refl
