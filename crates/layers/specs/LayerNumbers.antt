-- What the three layers of a recipe make of places.
use Rattle.std.specs.Prelude.{if◌then◌else◌, List, map}
use Rattle.nets.specs.Places.{Place}
use Rattle.layers.specs.Layers.{shift_of, scramble_place, swap_of}
use Rattle.layers.specs.declared.layer_numbers.LayerNumbers.{LayerNumbers}

-- shifted, then scrambled, and then swapped or not
abbrev pub layers_of : LayerNumbers → List Place → List Place
layers_of l ps =
    map (λ p. if l.swap then swap_of p else p) (map (scramble_place l.x_word l.y_word) (map (shift_of l.s l.t) ps))
