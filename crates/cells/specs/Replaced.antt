-- What replacing cells answers, and what the map then holds.
use Rattle.std.specs.Prelude.{◌≡◌, ◌≤◌, List, ℤ, Ok, Err, Result}
use Rattle.coats.specs.declared.faults.MapFault.{MapFault}
use Rattle.coats.specs.Refusals.{IsTooHeavy, map_told}
use Rattle.coats.specs.declared.checks.TheConstants.{HEAVIEST}
use Rattle.coats.specs.Terms.{weight_of}
use Rattle.cells.specs.declared.cells.Cells.{Cells}
use Rattle.cells.specs.Cells.{cell, cells_terms}
use Rattle.cells.specs.Tables.{values_of}

-- cells are refused only by their weight
abbrev pub ReplacesCells : (values : List (List ℤ)) (old new : Cells) → {X : Type 0} → Result X MapFault → Type 0
ReplacesCells values old new (Ok _) =
    (weight_of (cells_terms (cell values)) ≤ HEAVIEST) × (values_of new.table ≡ cell values)
ReplacesCells values old new (Err e) = IsTooHeavy (cells_terms (cell values)) (map_told e) × (new ≡ old)
