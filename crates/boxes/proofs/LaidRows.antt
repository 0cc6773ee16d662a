-- Rows that are laid column by column, and the coat that the columns give.
use Rattle.std.proofs.Common.{◌≡◌, ◌≢◌, ℕ, ◌+◌, ◌<◌, ◌≤◌, cond, List, length, get_or, set, take, pos, ◌+ℤ◌, refl, ap, ◌∙◌, ⊎_elim, arith}
use Rattle.std.specs.List.{All}
use Rattle.std.proofs.lemmas.Bool.{cases_lt}
use Rattle.std.proofs.lemmas.Int.{ints}
use Rattle.std.proofs.lemmas.List.{get_or-set_same, get_or-set_other}
use Rattle.nets.specs.Places.{Place}
use Rattle.coats.specs.Terms.{coat_of}
use Rattle.boxes.specs.declared.boxes.TheConstants.{MOST_BOXES}
use Rattle.boxes.specs.declared.columns.Columns.{Columns}
use Rattle.boxes.specs.declared.row.BoxRow.{BoxRow}
use Rattle.boxes.specs.Rows.{boxes_terms, HasBoxBounds, is_inside}
use Rattle.boxes.specs.Columns.{row_at, LaysRows}
use Rattle.boxes.proofs.Corners.{no_row, boxes_coat_more, corners_coat}

pub record IsLong (c : Columns) : Type 0 where
  pub x0 : length c.x0 ≡ MOST_BOXES
  pub x1 : length c.x1 ≡ MOST_BOXES
  pub y0 : length c.y0 ≡ MOST_BOXES
  pub y1 : length c.y1 ≡ MOST_BOXES
  pub w : length c.w ≡ MOST_BOXES

-- the columns with row i replaced
abbrev pub laid_at : Columns → ℕ → BoxRow → Columns
laid_at c i r =
    record {
      x0 = set c.x0 i r.x0;
      x1 = set c.x1 i r.x1;
      y0 = set c.y0 i r.y0;
      y1 = set c.y1 i r.y1;
      w = set c.w i r.w;
    }

row_here : (c : Columns) (i : ℕ) (r : BoxRow) → IsLong c → i < MOST_BOXES → row_at (laid_at c i r) i ≡ r
row_here c i r long h =
    let x0 = get_or-set_same c.x0 i r.x0 0 (omega arith) in
    let x1 = get_or-set_same c.x1 i r.x1 0 (omega arith) in
    let y0 = get_or-set_same c.y0 i r.y0 0 (omega arith) in
    let y1 = get_or-set_same c.y1 i r.y1 0 (omega arith) in
    let w = get_or-set_same c.w i r.w (pos 0) (omega arith) in
    rw (x0, x1, y0, y1, w) refl

row_there : (c : Columns) (i k : ℕ) (r : BoxRow) → k ≢ i → row_at (laid_at c i r) k ≡ row_at c k
row_there c i k r h =
    let x0 = get_or-set_other c.x0 i k r.x0 0 h in
    let x1 = get_or-set_other c.x1 i k r.x1 0 h in
    let y0 = get_or-set_other c.y0 i k r.y0 0 h in
    let y1 = get_or-set_other c.y1 i k r.y1 0 h in
    let w = get_or-set_other c.w i k r.w (pos 0) h in
    rw (x0, x1, y0, y1, w) refl

-- the first i rows are laid
pub record LaysFirst (c : Columns) (rows : List BoxRow) (i : ℕ) : Type 0 where
  pub long : IsLong c
  pub laid : (k : ℕ) → k < i → row_at c k ≡ get_or rows k no_row

pub laid_more : (c : Columns) (rows : List BoxRow) (i : ℕ) → i < MOST_BOXES → LaysFirst c rows i
    → (k : ℕ) → k < i + 1 → row_at (laid_at c i (get_or rows i no_row)) k ≡ get_or rows k no_row
laid_more c rows i h so k hk =
    ⊎_elim
    (λ (q : k < i). row_there c i k _ (omega arith) ∙ so.laid k q)
    (λ (q : i ≤ k). let e : k ≡ i = omega arith in rw e (row_here c i _ so.long h))
    (cases_lt k i)

-- a step of the loop over the columns
pub columns_coat_more : (c : Columns) (rows : List BoxRow) (i : ℕ) (p : Place) → All HasBoxBounds rows → LaysRows c rows → i < length rows
    → coat_of (boxes_terms (take (i + 1) rows)) p ≡ coat_of (boxes_terms (take i rows)) p +ℤ cond (is_inside (row_at c i) p) (row_at c i).w (pos 0)
columns_coat_more c rows i p bounds laid h =
    let inside = corners_coat (get_or rows i no_row) (bounds i no_row h) p in
    let same = ap (λ (r : BoxRow). cond (is_inside r p) r.w (pos 0)) (laid i no_row h) in
    omega (arith, ints, boxes_coat_more rows i p h)
