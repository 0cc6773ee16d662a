-- Places in bytes.
use Rattle.std.specs.Prelude.{ℕ, ◌+◌, ◌*◌, ◌/◌, List, map, length}
use Rattle.std.specs.List.{range_with_len}
use Rattle.little_endian.specs.Numbers.{le}
use Rattle.nets.specs.Places.{Place}

-- the place number i of bytes that lay down places: x, then y, 16 bits each, lowest byte first
abbrev pub place_at : List ℕ → ℕ → Place
place_at bytes i = (le 2 bytes (4 * i), le 2 bytes (4 * i + 2))

-- the places that bytes lay down, one after another
abbrev pub places_in : List ℕ → List Place
places_in bytes = map (place_at bytes) (range_with_len 0 (length bytes / 4))
