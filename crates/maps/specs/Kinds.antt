-- What a map of any kind means.
use Rattle.std.specs.Prelude.{List}
use Rattle.coats.specs.declared.term.Term.{Term}
use Rattle.maps.specs.declared.map.Map.{Map}
use Rattle.maps.specs.declared.map.Map.TheVariants.{Boxes, Steps, Cells}
use Rattle.maps.specs.declared.map.MapKind.{MapKind}
use Rattle.maps.specs.declared.map.MapKind.TheVariants as kind
use Rattle.boxes.specs.Rows.{boxes_terms}
use Rattle.cells.specs.Cells.{cells_terms}
use Rattle.cells.specs.Tables.{values_of}
use Rattle.steps.specs.Rows.{steps_terms}

-- which kind it is of
abbrev pub kind_of : Map → MapKind
kind_of (Boxes m) = kind.Boxes
kind_of (Steps m) = kind.Steps
kind_of (Cells m) = kind.Cells

-- the terms that its kind gives it
abbrev pub terms_of : Map → List Term
terms_of (Boxes m) = boxes_terms m.rows.items
terms_of (Steps m) = steps_terms m.x.items m.y.items
terms_of (Cells m) = cells_terms (values_of m.table)
