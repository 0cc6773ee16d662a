-- What the bytes of a job file say. Numbers are little-endian, and a byte past the end counts as 0.
use Rattle.std.specs.Prelude.{◌≡◌, ℕ, ◌+◌, ◌*◌, if◌then◌else◌, List, map, drop, ℤ, slice_index, slice_range, vec_items}
use Rattle.std.specs.List.{range_with_len}
use Rattle.little_endian.specs.Numbers.{le, le_signed}
use Rattle.nets.specs.Places.{Place}
use Rattle.audit.specs.Bytes.{places_in}
use Rattle.layers.specs.declared.layer_numbers.LayerNumbers.{LayerNumbers}
use Rattle.coats.specs.declared.term.Term.{Term}
use Rattle.boxes.specs.declared.row.BoxRow.{BoxRow}
use Rattle.boxes.specs.Rows.{boxes_terms}
use Rattle.steps.specs.declared.step.Step.{Step}
use Rattle.steps.specs.Rows.{steps_terms}
use Rattle.cells.specs.Cells.{cell, cells_terms}
use Rattle.cells.specs.Tables.{values_of}
use Rattle.plans.specs.declared.plan.Plan.{Plan}
use Rattle.plans.specs.declared.plan.Plan.TheVariants.{Hammersley, Sobol, Points}
use Rattle.maps.specs.declared.map.Map.{Map}
use Rattle.maps.specs.declared.map.Map.TheVariants as of_map
use Rattle.maps.specs.declared.map.MapKind.{MapKind}
use Rattle.maps.specs.declared.map.MapKind.TheVariants.{Boxes, Steps, Cells}

-- the directory: pair k has the offset and the size of section k
abbrev pub offset : List ℕ → ℕ → ℕ
offset job k = le 2 job (4 * k)

abbrev pub size : List ℕ → ℕ → ℕ
size job k = le 2 job (4 * k + 2)

-- where a section ends
abbrev pub stop : List ℕ → ℕ → ℕ
stop job k = offset job k + size job k

abbrev pub section : List ℕ → ℕ → List ℕ
section job k = slice_range job (offset job k) (stop job k)

-- the plan and the map section begin with a kind
abbrev pub kind_byte : List ℕ → ℕ
kind_byte bytes = slice_index bytes 0

-- the plan section: a kind, a level, and of a point list its places
abbrev pub level_byte : List ℕ → ℕ
level_byte bytes = slice_index bytes 1

abbrev pub listed_places : List ℕ → List Place
listed_places bytes = places_in (drop 2 bytes)

-- 0 Hammersley, 1 Sobol, 2 point list
abbrev pub SaysPlan : List ℕ → Plan → Type 0
SaysPlan bytes (Hammersley p) = (kind_byte bytes ≡ 0) × (p.level.m ≡ level_byte bytes)
SaysPlan bytes (Sobol p) = (kind_byte bytes ≡ 1) × (p.level.m ≡ level_byte bytes)
SaysPlan bytes (Points p) =
    (kind_byte bytes ≡ 2) × (p.level.m ≡ level_byte bytes) × (vec_items p.places ≡ listed_places bytes)

-- the layer section begins with whether to swap
abbrev pub swap_byte : List ℕ → ℕ
swap_byte bytes = slice_index bytes 0

pub record SaysLayers (bytes : List ℕ) (l : LayerNumbers) : Type 0 where
  pub swaps : swap_byte bytes ≡ (if l.swap then 1 else 0)
  pub s : l.s ≡ le 2 bytes 1
  pub t : l.t ≡ le 2 bytes 3
  pub x_word : l.x_word ≡ le 8 bytes 5
  pub y_word : l.y_word ≡ le 8 bytes 13

-- the map section
abbrev pub map_code : MapKind → ℕ
map_code Boxes = 0
map_code Steps = 1
map_code Cells = 2

-- where row i of a kind begins: after the kind and one count, two counts or none, in rows of 18, 6 or 16 bytes
abbrev pub row_start : MapKind → (i : ℕ) → ℕ
row_start Boxes i = 2 + 18 * i
row_start Steps i = 3 + 6 * i
row_start Cells i = 1 + 16 * i

-- the counts: of boxes, or of steps for x; and of steps for y
abbrev pub first_count : List ℕ → ℕ
first_count bytes = slice_index bytes 1

abbrev pub second_count : List ℕ → ℕ
second_count bytes = slice_index bytes 2

-- how many rows a section has
abbrev pub row_count : MapKind → List ℕ → ℕ
row_count Boxes bytes = first_count bytes
row_count Steps bytes = first_count bytes + second_count bytes
row_count Cells bytes = 8

abbrev pub box_from : (bytes : List ℕ) (at : ℕ) → BoxRow
box_from bytes at = record {
  x0 = le 4 bytes at;
  x1 = le 4 bytes (at + 4);
  y0 = le 4 bytes (at + 8);
  y1 = le 4 bytes (at + 12);
  w = le_signed bytes (at + 16);
}

abbrev pub step_from : (bytes : List ℕ) (at : ℕ) → Step
step_from bytes at = record { bound = le 4 bytes at; value = le_signed bytes (at + 4) }

abbrev pub boxes_in : List ℕ → List BoxRow
boxes_in bytes = map (λ i. box_from bytes (row_start Boxes i)) (range_with_len 0 (first_count bytes))

-- so many steps from the one of a number on; those for x come first
abbrev pub steps_in : List ℕ → (first count : ℕ) → List Step
steps_in bytes first count = map (λ i. step_from bytes (row_start Steps i)) (range_with_len first count)

abbrev pub x_steps : List ℕ → List Step
x_steps bytes = steps_in bytes 0 (first_count bytes)

abbrev pub y_steps : List ℕ → List Step
y_steps bytes = steps_in bytes (first_count bytes) (second_count bytes)

-- 8 rows of 8 values, row 0 first
unfoldable pub cell_row : List ℕ → (r : ℕ) → List ℤ
cell_row bytes r = map (λ s. le_signed bytes (row_start Cells r + 2 * s)) (range_with_len 0 8)

unfoldable pub cells_in : List ℕ → List (List ℤ)
cells_in bytes = map (cell_row bytes) (range_with_len 0 8)

-- the terms that the rows of a kind mean
abbrev pub terms_in : MapKind → List ℕ → List Term
terms_in Boxes bytes = boxes_terms (boxes_in bytes)
terms_in Steps bytes = steps_terms (x_steps bytes) (y_steps bytes)
terms_in Cells bytes = cells_terms (cell (cells_in bytes))

abbrev pub SaysMap : List ℕ → Map → Type 0
SaysMap bytes (of_map.Boxes m) = (kind_byte bytes ≡ map_code Boxes) × (m.rows.items ≡ boxes_in bytes)
SaysMap bytes (of_map.Steps m) =
    (kind_byte bytes ≡ map_code Steps) × (m.x.items ≡ x_steps bytes) × (m.y.items ≡ y_steps bytes)
SaysMap bytes (of_map.Cells m) = (kind_byte bytes ≡ map_code Cells) × (values_of m.table ≡ cell (cells_in bytes))
