-- Boxes: the bounds of a row, and the terms that rows mean.
use Rattle.std.specs.Prelude.{◌<◌, ◌≤◌, Bool, ◌&&◌, List, [], ◌∷◌, neg_ℤ, filter, nat_le, nat_lt}
use Rattle.std.specs.List.{flat_map}
use Rattle.nets.specs.Places.{Place}
use Rattle.coats.specs.declared.term.Term.{Term}
use Rattle.coats.specs.declared.checks.TheConstants.{PANEL_SIDE}
use Rattle.coats.specs.Terms.{term}
use Rattle.boxes.specs.declared.row.BoxRow.{BoxRow}

-- x0 < x1 ≤ PANEL_SIDE, and so for y
abbrev pub HasBoxBounds : BoxRow → Type 0
HasBoxBounds r = (r.x0 < r.x1) × (r.x1 ≤ PANEL_SIDE) × (r.y0 < r.y1) × (r.y1 ≤ PANEL_SIDE)

-- a box of weight w, by inclusion and exclusion over its corners
abbrev pub corners_of : BoxRow → List Term
corners_of r =
    term r.w r.x1 r.y1 ∷ term (neg_ℤ r.w) r.x0 r.y1
    ∷ term (neg_ℤ r.w) r.x1 r.y0 ∷ term r.w r.x0 r.y0 ∷ []

-- neither side is 0
abbrev pub has_sides : Term → Bool
has_sides t = nat_lt 0 t.u && nat_lt 0 t.v

-- the terms of a box: its corners but those with a side of 0, which add nothing
abbrev pub box_terms : BoxRow → List Term
box_terms r = filter has_sides (corners_of r)

-- the terms of all boxes, box 0 first
abbrev pub boxes_terms : List BoxRow → List Term
boxes_terms rows = flat_map box_terms rows

-- a place of the box itself
abbrev pub is_inside : BoxRow → Place → Bool
is_inside r p = nat_le r.x0 p.0 && nat_lt p.0 r.x1 && (nat_le r.y0 p.1 && nat_lt p.1 r.y1)
