-- What replacing boxes answers, and what the map then holds.
use Rattle.std.specs.Prelude.{◌≡◌, ◌≤◌, List, length, Ok, Err, Result}
use Rattle.coats.specs.declared.faults.MapFault.{MapFault}
use Rattle.coats.specs.Refusals.{IsGood, RefusesRows, map_told}
use Rattle.boxes.specs.declared.boxes.Boxes.{Boxes}
use Rattle.boxes.specs.declared.boxes.TheConstants.{MOST_BOXES}
use Rattle.boxes.specs.declared.row.BoxRow.{BoxRow}
use Rattle.boxes.specs.Rows.{HasBoxBounds, boxes_terms}

-- at most MOST_BOXES boxes
abbrev pub ReplacesBoxes : (rows : List BoxRow) (old new : Boxes) → {X : Type 0} → Result X MapFault → Type 0
ReplacesBoxes rows old new (Ok _) =
    IsGood (length rows ≤ MOST_BOXES) HasBoxBounds rows (boxes_terms rows) × (new.rows.items ≡ rows)
ReplacesBoxes rows old new (Err e) =
    RefusesRows (length rows ≤ MOST_BOXES) HasBoxBounds rows (boxes_terms rows) (map_told e) × (new ≡ old)
