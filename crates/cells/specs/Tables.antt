-- What a table of cells holds: with its code, the one place that knows how the values lie.
use Rattle.std.specs.Prelude.{ℕ, ℤ}
use Rattle.cells.specs.declared.table.Table.{Table}
use Rattle.cells.specs.Cells.{cell}

-- the value that it holds for row r and column s
abbrev pub values_of : Table → ℕ → ℕ → ℤ
values_of t = cell t.values
