-- The points of a formula.
use Rattle.std.specs.Prelude.{ℕ, ◌^◌, List, map}
use Rattle.std.specs.List.{range_with_len}
use Rattle.nets.specs.Places.{Place}

-- all points of level m: point m 0, point m 1, .., point m (2^m - 1)
abbrev pub points_of : (point : (m i : ℕ) → Place) (m : ℕ) → List Place
points_of point m = map (point m) (range_with_len 0 (2 ^ m))
