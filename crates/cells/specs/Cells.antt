-- Cells: 8 by 8 values, and the terms that they mean.
use Rattle.std.specs.Prelude.{ℕ, ◌+◌, ◌*◌, if◌then◌else◌, ◌&&◌, List, [], map, ℤ, pos, ◌+ℤ◌, ◌-ℤ◌, nat_lt, slice_index_or}
use Rattle.std.specs.List.{range_with_len, flat_map}
use Rattle.coats.specs.declared.term.Term.{Term}
use Rattle.coats.specs.Terms.{term}
use Rattle.cells.specs.declared.cells.TheConstants.{CELL_SIDE}

-- the value of row r and column s, and 0 for an index of 8 or more
abbrev pub cell : List (List ℤ) → ℕ → ℕ → ℤ
cell rows r s = if nat_lt r 8 && nat_lt s 8 then slice_index_or (slice_index_or rows r []) s (pos 0) else pos 0

-- how the value at (r, s) differs from its neighbours above in r and in s
abbrev pub mixed_difference : (ℕ → ℕ → ℤ) → ℕ → ℕ → ℤ
mixed_difference c r s = c r s -ℤ c (r + 1) s -ℤ c r (s + 1) +ℤ c (r + 1) (s + 1)

-- the term at (r, s)
abbrev pub cell_term : (ℕ → ℕ → ℤ) → ℕ → ℕ → Term
cell_term c r s = term (mixed_difference c r s) (CELL_SIDE * (s + 1)) (CELL_SIDE * (r + 1))

-- the terms of row r, s from 0 to 7
abbrev pub row_terms : (ℕ → ℕ → ℤ) → ℕ → List Term
row_terms c r = map (cell_term c r) (range_with_len 0 8)

-- the terms of all rows, row 0 first
unfoldable pub cells_terms : (ℕ → ℕ → ℤ) → List Term
cells_terms c = flat_map (row_terms c) (range_with_len 0 8)
