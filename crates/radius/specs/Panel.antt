-- All places of the panel.
use Rattle.std.specs.Prelude.{ℕ, ◌^◌, List, map}
use Rattle.std.specs.List.{flat_map, range_with_len}
use Rattle.nets.specs.Places.{Place}

-- the places (x, y) with x and y below n, each once
unfoldable pub square : ℕ → List Place
square n = flat_map (λ x. map (λ y. (x, y)) (range_with_len 0 n)) (range_with_len 0 n)

-- the 2^32 places of the panel
abbrev pub panel : List Place
panel = square (2 ^ 16)
