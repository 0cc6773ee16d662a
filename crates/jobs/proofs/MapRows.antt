-- The rows of a map section.
use Rattle.std.proofs.Common.{◌≡◌, ◌≢◌, ℕ, ◌+◌, ◌*◌, ◌<◌, ◌≤◌, List, [], ◌∷◌, ◌++◌, map, length, get_or, set, sym, refl, subst, ◌∙◌, ℤ, pos, inl, inr, arith}
use Rattle.std.specs.List.{All, range_with_len}
use Rattle.std.proofs.lemmas.Int.{to_z-of_z}
use Rattle.std.proofs.lemmas.List.{length-set}
use Rattle.std.proofs.lemmas.List.Elements.{All-get_or}
use Rattle.std.proofs.lemmas.List.Edits.{fill_by_more}
use Rattle.std.proofs.lemmas.List.FromFn.{fill_by_all, length-map-range_with_len, map-range_with_len_more}
use Rattle.little_endian.specs.Numbers.{le_signed}
use Rattle.refusals.specs.Told.{refused}
use Rattle.refusals.specs.Checks.{FirstTells}
use Rattle.coats.specs.declared.checks.TheConstants.{HEAVIEST}
use Rattle.coats.specs.declared.faults.MapFault.{MapFault}
use Rattle.coats.specs.declared.faults.MapFault.TheVariants.{Count, Row, Weight}
use Rattle.coats.specs.Refusals.{IsFirstOut, IsGood, IsTooHeavy, RefusesRows, map_told}
use Rattle.coats.specs.Terms.{weight_of}
use Rattle.boxes.specs.declared.boxes.TheConstants.{MOST_BOXES}
use Rattle.boxes.specs.declared.row.BoxRow.{BoxRow}
use Rattle.boxes.specs.Rows.{HasBoxBounds, boxes_terms}
use Rattle.steps.specs.declared.steps.TheConstants.{MOST_STEPS}
use Rattle.steps.specs.declared.step.Step.{Step}
use Rattle.steps.specs.Rows.{HasStepBounds, steps_terms}
use Rattle.cells.specs.Cells.{cell, cells_terms}
use Rattle.maps.specs.declared.map.MapKind.{MapKind}
use Rattle.maps.specs.declared.map.MapKind.TheVariants.{Boxes, Steps, Cells}
use Rattle.jobs.specs.Checks.{HasShape, HasFewRows, AllInBounds, IsFirstOutAt, OfItsKind, map_checks}
use Rattle.jobs.specs.Inner.{AcceptsRowsOf, RefusesRowsOf}
use Rattle.jobs.specs.Layout.{kind_byte, map_code, row_start, row_count, boxes_in, x_steps, y_steps, cell_row, cells_in, terms_in}

-- one row more is gathered
pub gathered : {R : Type 0} (f : ℕ → R) (a n j : ℕ) (old new : List R) (row : R) → new ≡ old ++ row ∷ [] → old ≡ map f (range_with_len a n) → a + n ≡ j → row ≡ f j → new ≡ map f (range_with_len a (n + 1))
gathered f a n j old new row pushed held at is = let more = map-range_with_len_more f a n j at in cc

pub ruleset gathers = (gathered, length-map-range_with_len)

-- of m values, the first n are written
pub record Written {X : Type 0} (f : ℕ → X) (n m : ℕ) (xs : List X) : Type 0 where
  pub long : length xs ≡ m
  pub at : (k : ℕ) (d : X) → k < n → get_or xs k d ≡ f k

pub written_none : {X : Type 0} (f : ℕ → X) (m : ℕ) (xs : List X) → length xs ≡ m → Written f 0 m xs
written_none f m xs long = record { long = long; at = λ k d l. absurd (omega arith) }

pub written_more : {X : Type 0} (f : ℕ → X) (n m : ℕ) (xs : List X) (x : X) → Written f n m xs → n < m → x ≡ f n → Written f (n + 1) m (set xs n x)
written_more f n m xs x w l e =
    let here : n < length xs = omega (arith, w.long) in
    subst (λ x. Written f (n + 1) m (set xs n x)) (sym e) (record { long = length-set xs n (f n) ∙ w.long; at = λ k d. fill_by_more f xs n d here (λ j. w.at j d) k })

written_all : {X : Type 0} (f : ℕ → X) (n m : ℕ) (xs : List X) (d : X) → Written f n m xs → m ≤ n → xs ≡ map f (range_with_len 0 m)
written_all f n m xs d w l = fill_by_all f xs m d w.long (λ k h. w.at k d (omega arith))

pub written_row : (bytes : List ℕ) (r n : ℕ) (xs : List ℤ) → Written (λ s. le_signed bytes (row_start Cells r + 2 * s)) n 8 xs → 8 ≤ n → xs ≡ cell_row bytes r
unfolding cell_row
written_row bytes r n xs w l = written_all _ n 8 xs (pos 0) w l

pub written_rows : (bytes : List ℕ) (n : ℕ) (xs : List (List ℤ)) → Written (cell_row bytes) n 8 xs → 8 ≤ n → xs ≡ cells_in bytes
unfolding cells_in
written_rows bytes n xs w l = written_all _ n 8 xs [] w l

pub ruleset writes = (to_z-of_z, written_none, written_more, written_row, written_rows)

-- a byte is the kind of one map alone
kind_same : (k j : MapKind) → map_code k ≡ map_code j → k ≡ j
kind_same Boxes Boxes e = refl
kind_same Boxes Steps e = absurd (omega (arith, e))
kind_same Boxes Cells e = absurd (omega (arith, e))
kind_same Steps Boxes e = absurd (omega (arith, e))
kind_same Steps Steps e = refl
kind_same Steps Cells e = absurd (omega (arith, e))
kind_same Cells Boxes e = absurd (omega (arith, e))
kind_same Cells Steps e = absurd (omega (arith, e))
kind_same Cells Cells e = refl

of_its_kind : (bytes : List ℕ) (P : MapKind → Type 0) (k : MapKind) → kind_byte bytes ≡ map_code k → P k → OfItsKind bytes P
of_its_kind bytes P k at p j e = subst P (kind_same k j (sym at ∙ e)) p

-- a section that has not the shape of the kind that it says has that of none
pub few_shape : (bytes : List ℕ) (k : MapKind) → kind_byte bytes ≡ map_code k → (HasFewRows k bytes → ⊥) → (j : MapKind) → HasShape j bytes → ⊥
few_shape bytes k at none j s = none (of_its_kind bytes (λ k. HasFewRows k bytes) j s.kind s.few k at)

pub long_shape : (bytes : List ℕ) (k : MapKind) → kind_byte bytes ≡ map_code k → length bytes ≢ row_start k (row_count k bytes) → (j : MapKind) → HasShape j bytes → ⊥
long_shape bytes k at none j s = none (of_its_kind bytes (λ k. length bytes ≡ row_start k (row_count k bytes)) j s.kind s.long k at)

pub no_shape : (bytes : List ℕ) → ((k : MapKind) → kind_byte bytes ≢ map_code k) → (j : MapKind) → HasShape j bytes → ⊥
no_shape bytes none j s = none j s.kind

pub ruleset shapes = (few_shape, long_shape, no_shape)

pub not_shaped : (start : ℕ) (bytes : List ℕ) → ((k : MapKind) → HasShape k bytes → ⊥) → FirstTells (map_checks start bytes) (refused 7 (3 ∷ start ∷ []))
unfolding map_checks
not_shaped start bytes none = inl ((λ s. none s.0 s.1), refl)

tells_row : (e : MapFault) (i : ℕ) → map_told e ≡ refused 8 (i ∷ []) → e ≡ Row i
tells_row Count i t = absurd (grind (arith, t))
tells_row (Row j) i t = grind (arith, t)
tells_row Weight i t = absurd (grind (arith, t))

tells_weight : (e : MapFault) → map_told e ≡ refused 9 (0 ∷ []) → e ≡ Weight
tells_weight Count t = absurd (grind (arith, t))
tells_weight (Row j) t = absurd (grind (arith, t))
tells_weight Weight t = refl

-- a section of one shape
module _ (k : MapKind) (bytes : List ℕ) (s : HasShape k bytes) where
  accepted : AllInBounds k bytes → weight_of (terms_in k bytes) ≤ HEAVIEST → AcceptsRowsOf bytes
  unfolding map_checks
  accepted bounds light start =
      ((k, s), (of_its_kind bytes (λ k. AllInBounds k bytes) k s.kind bounds, (of_its_kind bytes (λ k. weight_of (terms_in k bytes) ≤ HEAVIEST) k s.kind light, tt)))

  out_of_bounds : (i : ℕ) → (AllInBounds k bytes → ⊥) → IsFirstOutAt k bytes i → RefusesRowsOf k bytes (Row i)
  unfolding map_checks
  out_of_bounds i not_all first start = inr ((k, s), inl ((λ all. not_all (all k s.kind)), (k, i, s.kind, first, refl)))

  too_heavy : AllInBounds k bytes → IsTooHeavy (terms_in k bytes) (map_told Weight) → RefusesRowsOf k bytes Weight
  unfolding map_checks
  too_heavy bounds h start =
      inr ((k, s), inr (of_its_kind bytes (λ k. AllInBounds k bytes) k s.kind bounds, inl ((λ light. omega (arith, h.heavy, light k s.kind)), refl)))

  -- rows that are those of the section
  module _ {R : Type 0} (Few : Type 0) (Bounds : R → Type 0) (rows : List R) (few : Few) (bounded : All Bounds rows → AllInBounds k bytes) (back : AllInBounds k bytes → All Bounds rows) (first : (i : ℕ) → IsFirstOut Bounds rows i → IsFirstOutAt k bytes i) where
    rows_refused : (e : MapFault) → RefusesRows Few Bounds rows (terms_in k bytes) (map_told e) → RefusesRowsOf k bytes e
    rows_refused e (inl many) = absurd (many.many few)
    rows_refused e (inr (inl (_, o))) =
        subst (RefusesRowsOf k bytes) (sym (tells_row e o.i o.tells)) (out_of_bounds o.i (λ all. o.first.out (λ d. All-get_or Bounds rows o.i d o.first.here (back all))) (first o.i o.first))
    rows_refused e (inr (inr (_, all, h))) =
        subst (RefusesRowsOf k bytes) (sym (tells_weight e h.tells)) (too_heavy (bounded all) (record { heavy = h.heavy; tells = refl }))

module _ (bytes : List ℕ) where
  pub boxes_accepted : HasShape Boxes bytes → IsGood (length (boxes_in bytes) ≤ MOST_BOXES) HasBoxBounds (boxes_in bytes) (boxes_terms (boxes_in bytes)) → AcceptsRowsOf bytes
  boxes_accepted s g = accepted Boxes bytes s g.bounds g.light

  pub boxes_refused : HasShape Boxes bytes → (e : MapFault) → RefusesRows (length (boxes_in bytes) ≤ MOST_BOXES) HasBoxBounds (boxes_in bytes) (boxes_terms (boxes_in bytes)) (map_told e) → RefusesRowsOf Boxes bytes e
  boxes_refused s = rows_refused Boxes bytes s _ HasBoxBounds (boxes_in bytes) (omega (arith, s.few, length-map-range_with_len {X = BoxRow})) (λ x. x) (λ x. x) (λ i x. x)

  pub steps_accepted : HasShape Steps bytes → IsGood ((length (x_steps bytes) ≤ MOST_STEPS) × (length (y_steps bytes) ≤ MOST_STEPS)) HasStepBounds (x_steps bytes ++ y_steps bytes) (steps_terms (x_steps bytes) (y_steps bytes)) → AcceptsRowsOf bytes
  steps_accepted s g = accepted Steps bytes s g.bounds g.light

  pub steps_refused : HasShape Steps bytes → (e : MapFault) → RefusesRows ((length (x_steps bytes) ≤ MOST_STEPS) × (length (y_steps bytes) ≤ MOST_STEPS)) HasStepBounds (x_steps bytes ++ y_steps bytes) (steps_terms (x_steps bytes) (y_steps bytes)) (map_told e) → RefusesRowsOf Steps bytes e
  steps_refused s = rows_refused Steps bytes s _ HasStepBounds (x_steps bytes ++ y_steps bytes) (omega (arith, s.few, length-map-range_with_len {X = Step}), omega (arith, s.few, length-map-range_with_len {X = Step})) (λ x. x) (λ x. x) (λ i x. x)

  pub cells_accepted : HasShape Cells bytes → weight_of (cells_terms (cell (cells_in bytes))) ≤ HEAVIEST → AcceptsRowsOf bytes
  cells_accepted s light = accepted Cells bytes s tt light

  pub cells_refused : HasShape Cells bytes → (e : MapFault) → IsTooHeavy (cells_terms (cell (cells_in bytes))) (map_told e) → RefusesRowsOf Cells bytes e
  cells_refused s e h = subst (RefusesRowsOf Cells bytes) (sym (tells_weight e h.tells)) (too_heavy Cells bytes s tt (record { heavy = h.heavy; tells = refl }))

pub ruleset boxes = (boxes_accepted, boxes_refused)

pub ruleset steps = (steps_accepted, steps_refused)

pub ruleset cells = (cells_accepted, cells_refused)
