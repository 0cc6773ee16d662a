-- What boxes weigh, the coat that they give, and the sides of their terms.
use Rattle.std.proofs.Common.{◌≡◌, ℕ, ◌+◌, ◌<◌, ◌≤◌, cond, List, [], ◌∷◌, length, get_or, take, pos, ◌+ℤ◌, nat_abs, sum_by, filter, refl, ◌∙◌, arith}
use Rattle.std.specs.List.{All}
use Rattle.std.proofs.lemmas.List.Elements.{All-from_recursion, All-weaker, All-filter, filter_passes}
use Rattle.std.proofs.lemmas.Int.{ints}
use Rattle.std.proofs.lemmas.Bool.Decides.{nat_tests}
use Rattle.nets.specs.Places.{Place}
use Rattle.coats.specs.declared.term.Term.{Term}
use Rattle.coats.specs.declared.checks.TheConstants.{PANEL_SIDE}
use Rattle.coats.specs.Terms.{sum_of, share_of, coat_of, weight_of, HasSides}
use Rattle.coats.proofs.Sums.{sum_of_more, sum_of_same, sum_of_joined, sum_by_joined, all_joined}
use Rattle.boxes.specs.declared.row.BoxRow.{BoxRow}
use Rattle.boxes.specs.Rows.{corners_of, has_sides, box_terms, boxes_terms, HasBoxBounds, is_inside}

abbrev pub no_row : BoxRow
no_row = record { x0 = 0; x1 = 0; y0 = 0; y1 = 0; w = pos 0 }

-- a term with a side of 0 adds nothing
kept_coat : (ts : List Term) (p : Place) → coat_of (filter has_sides ts) p ≡ coat_of ts p
kept_coat [] p = refl
kept_coat (t ∷ ts) p = let ih = kept_coat ts p in grind (arith, ints, nat_tests)

boxes_coat : (rows : List BoxRow) (p : Place) → coat_of (boxes_terms rows) p ≡ sum_of (λ r. coat_of (corners_of r) p) rows
boxes_coat rows p = sum_of_joined box_terms (share_of p) rows ∙ sum_of_same _ _ (λ r. kept_coat (corners_of r) p) rows

-- a loop's step
pub boxes_coat_more : (rows : List BoxRow) (i : ℕ) (p : Place) → i < length rows → coat_of (boxes_terms (take (i + 1) rows)) p ≡ coat_of (boxes_terms (take i rows)) p +ℤ coat_of (corners_of (get_or rows i no_row)) p
boxes_coat_more rows i p h = omega (arith, ints, boxes_coat (take (i + 1) rows) p, sum_of_more (λ r. coat_of (corners_of r) p) rows i no_row h, boxes_coat (take i rows) p)

pub boxes_weight : (rows : List BoxRow) → weight_of (boxes_terms rows) ≡ sum_by (λ r. weight_of (box_terms r)) rows
boxes_weight rows = sum_by_joined box_terms (λ (t : Term). nat_abs t.w) rows

-- the corners that are left have sides from 1 to PANEL_SIDE
row_sides : (r : BoxRow) → HasBoxBounds r → All HasSides (box_terms r)
row_sides r b k d h =
    let Ends : Term → Type 0 = λ t. (t.u ≤ PANEL_SIDE) × (t.v ≤ PANEL_SIDE) in
    let high = All-filter has_sides Ends (corners_of r) (All-from_recursion Ends (corners_of r) (omega arith)) k d h in
    let low = filter_passes has_sides (corners_of r) k d h in
    grind (arith, nat_tests)

pub boxes_sides : (rows : List BoxRow) → All HasBoxBounds rows → All HasSides (boxes_terms rows)
boxes_sides rows h = all_joined box_terms HasSides rows (All-weaker HasBoxBounds (λ r. All HasSides (box_terms r)) row_sides rows h)

-- outside the box the corners cancel
pub corners_coat : (r : BoxRow) → HasBoxBounds r → (p : Place) → coat_of (corners_of r) p ≡ cond (is_inside r p) r.w (pos 0)
corners_coat r b p = grind (arith, ints, nat_tests)

pub box_coat : (r : BoxRow) → HasBoxBounds r → (p : Place) → coat_of (box_terms r) p ≡ cond (is_inside r p) r.w (pos 0)
box_coat r b p = kept_coat (corners_of r) p ∙ corners_coat r b p
