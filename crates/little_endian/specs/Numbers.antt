-- Numbers in bytes, lowest byte first. A byte past the end counts as 0.
use Rattle.std.specs.Prelude.{ℕ, zero, suc, ◌+◌, ◌*◌, List, ℤ, slice_index}
use Rattle.std.specs.Int.{w16, cast_signed}

-- the number of the k bytes from index i on
abbrev pub le : (k : ℕ) (bytes : List ℕ) (i : ℕ) → ℕ
le zero bytes i = 0
le (suc k) bytes i = slice_index bytes i + 256 * le k bytes (i + 1)

-- the number of the two bytes from index i on as two's complement
abbrev pub le_signed : List ℕ → ℕ → ℤ
le_signed bytes i = cast_signed w16 (le 2 bytes i)
