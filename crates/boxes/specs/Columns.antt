-- Rows laid column by column. No promise to callers rests on this.
use Rattle.std.specs.Prelude.{◌≡◌, ℕ, ◌<◌, List, length, pos, slice_index, slice_index_or}
use Rattle.boxes.specs.declared.columns.Columns.{Columns}
use Rattle.boxes.specs.declared.row.BoxRow.{BoxRow}

-- the row that the numbers i of the columns make
abbrev pub row_at : Columns → ℕ → BoxRow
row_at c i =
    record {
      x0 = slice_index c.x0 i;
      x1 = slice_index c.x1 i;
      y0 = slice_index c.y0 i;
      y1 = slice_index c.y1 i;
      w = slice_index_or c.w i (pos 0);
    }

-- each row stands in its place
abbrev pub LaysRows : Columns → List BoxRow → Type 0
LaysRows c rows = (i : ℕ) (d : BoxRow) → i < length rows → row_at c i ≡ slice_index_or rows i d
