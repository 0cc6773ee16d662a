-- The coat that cells give: the mixed differences from a cell on add up to its value.
use Rattle.std.proofs.Common.{◌≡◌, ℕ, zero, suc, ◌+◌, ◌*◌, ◌/◌, ◌^◌, ◌<◌, ◌≤◌, Bool, true, false, cond, ◌&&◌, ltb, List, [], ◌∷◌, map, ℤ, pos, ◌-ℤ◌, nat_abs, sum, sym, refl, ap, ◌∙◌, ⊎_elim, arith}
use Rattle.std.specs.List.{range_with_len, All}
use Rattle.std.proofs.lemmas.List.Elements.{All-from_recursion, All-weaker}
use Rattle.std.proofs.lemmas.Int.{ints}
use Rattle.std.proofs.lemmas.List.Sums.{sum-map}
use Rattle.std.proofs.lemmas.Bool.{cases_lt}
use Rattle.std.proofs.lemmas.Bool.Decides.{nat_tests}
use Rattle.nets.specs.Places.{Place, IsOnPanel}
use Rattle.coats.specs.declared.term.Term.{Term}
use Rattle.coats.specs.declared.checks.TheConstants.{HEAVIEST}
use Rattle.coats.specs.Terms.{sum_of, share_of, coat_of, weight_of, HasSides, IsMap}
use Rattle.coats.proofs.Sums.{sum_of_same, sum_of_map, sum_of_joined, sum_by_joined, all_joined}
use Rattle.cells.specs.declared.cells.TheConstants.{CELL_SIDE}
use Rattle.cells.specs.declared.table.Table.{Table}
use Rattle.cells.specs.Cells.{cell, cell_term, row_terms, cells_terms}
use Rattle.cells.specs.Tables.{values_of}

-- falls of g from a on, by a test that only those pass
module _ (g : ℕ → ℤ) (a : ℕ) (t : ℕ → Bool) (low : (k : ℕ) → k < a → t k ≡ false) (high : (k : ℕ) → a ≤ k → t k ≡ true) where
  abbrev fall : ℕ → ℤ
  fall k = cond (t k) (g k -ℤ g (k + 1)) (pos 0)

  from_above : (k n e : ℕ) → k + n ≡ e → a ≤ k → sum_of fall (range_with_len k n) ≡ g k -ℤ g e
  from_above k zero e s h = let p : k ≡ e = omega arith in let same = ap g p in omega (arith, ints)
  from_above k (suc n) e s h =
      let here : fall k ≡ g k -ℤ g (k + 1) = ap (λ (b : Bool). cond b (g k -ℤ g (k + 1)) (pos 0)) (high k h) in
      omega (arith, ints, from_above (k + 1) n e (omega arith) (omega arith))

  falls : (k n e : ℕ) → k + n ≡ e → k ≤ a → a ≤ e → sum_of fall (range_with_len k n) ≡ g a -ℤ g e
  falls k zero e s l h = let p : a ≡ e = omega arith in let same = ap g p in omega (arith, ints)
  falls k (suc n) e s l h =
      ⊎_elim
      (λ (q : k < a).
      let here : fall k ≡ pos 0 = ap (λ (b : Bool). cond b (g k -ℤ g (k + 1)) (pos 0)) (low k q) in
      omega (arith, ints, falls (k + 1) n e (omega arith) (omega arith) h))
      (λ (q : a ≤ k). let p : a ≡ k = omega arith in let same = ap g p in omega (arith, ints, from_above k (suc n) e s q))
      (cases_lt k a)

-- a sum behind one test
gated : (b : Bool) (f : ℕ → ℤ) (ks : List ℕ) → sum_of (λ k. cond b (f k) (pos 0)) ks ≡ cond b (sum_of f ks) (pos 0)
gated true f ks = refl
gated false f [] = refl
gated false f (k ∷ ks) = omega (arith, ints, gated false f ks)

gates : (a b : Bool) (w z : ℤ) → w ≡ z → cond (a && b) w (pos 0) ≡ cond b (cond a z (pos 0)) (pos 0)
gates true true w z e = e
gates true false w z e = refl
gates false true w z e = refl
gates false false w z e = refl

-- whether the square of an index ends past a coordinate
abbrev past : (x s : ℕ) → Bool
past x s = ltb x (CELL_SIDE * (s + 1))

past_low : (x s : ℕ) → s < x / CELL_SIDE → past x s ≡ false
past_low x s h = grind (arith, nat_tests)

past_high : (x s : ℕ) → x / CELL_SIDE ≤ s → past x s ≡ true
past_high x s h = grind (arith, nat_tests)

-- values that are 0 past the last row and column
module _ (c : ℕ → ℕ → ℤ) (right : (r : ℕ) → c r 8 ≡ pos 0) (below : (s : ℕ) → c 8 s ≡ pos 0) (x y : ℕ) (inside_x : x < 2 ^ 16) (inside_y : y < 2 ^ 16) where
  abbrev lower : ℕ → ℕ → ℤ
  lower r s = c r s -ℤ c (r + 1) s

  one_share : (r s : ℕ) → share_of (x, y) (cell_term c r s) ≡ cond (past y r) (cond (past x s) (lower r s -ℤ lower r (s + 1)) (pos 0)) (pos 0)
  one_share r s = gates (past x s) (past y r) _ _ (omega (arith, ints))

  one_row : (r : ℕ) → sum_of (share_of (x, y)) (row_terms c r) ≡ cond (past y r) (lower r (x / CELL_SIDE)) (pos 0)
  one_row r =
      sum_of_map (cell_term c r) (share_of (x, y)) (range_with_len 0 8)
      ∙ sum_of_same _ _ (one_share r) (range_with_len 0 8)
      ∙ gated (past y r) (λ s. cond (past x s) (lower r s -ℤ lower r (s + 1)) (pos 0)) (range_with_len 0 8)
      ∙ ap (λ (z : ℤ). cond (past y r) z (pos 0))
      (falls (lower r) (x / CELL_SIDE) (past x) (past_low x) (past_high x) 0 8 8 (omega arith) (omega arith) (omega arith) ∙ omega (arith, ints, right r, right (r + 1)))

  falls_coat : coat_of (cells_terms c) (x, y) ≡ c (y / CELL_SIDE) (x / CELL_SIDE)
  unfolding cells_terms
  falls_coat =
      sum_of_joined (row_terms c) (share_of (x, y)) (range_with_len 0 8)
      ∙ sum_of_same _ _ one_row (range_with_len 0 8)
      ∙ falls (λ r. c r (x / CELL_SIDE)) (y / CELL_SIDE) (past y) (past_low y) (past_high y) 0 8 8 (omega arith) (omega arith) (omega arith)
      ∙ omega (arith, ints, below (x / CELL_SIDE))

pub cells_weight : (c : ℕ → ℕ → ℤ) → weight_of (cells_terms c) ≡ sum (map (λ r. weight_of (row_terms c r)) (range_with_len 0 8))
unfolding cells_terms
cells_weight c = sum_by_joined (row_terms c) (λ (t : Term). nat_abs t.w) (range_with_len 0 8) ∙ sym (sum-map (λ r. weight_of (row_terms c r)) (range_with_len 0 8))

edge : (b : Bool) (z : ℤ) → cond (b && false) z (pos 0) ≡ pos 0
edge true z = refl
edge false z = refl

pub cells_coat : (values : List (List ℤ)) (p : Place) → IsOnPanel p → coat_of (cells_terms (cell values)) p ≡ cell values (p.1 / CELL_SIDE) (p.0 / CELL_SIDE)
cells_coat values (x, y) (hx, hy) = falls_coat (cell values) (λ r. edge (ltb r 8) _) (λ s. refl) x y hx hy

pub table_coat : (t : Table) (p : Place) → IsOnPanel p → coat_of (cells_terms (values_of t)) p ≡ values_of t (p.1 / CELL_SIDE) (p.0 / CELL_SIDE)
table_coat t = cells_coat _

module _ (c : ℕ → ℕ → ℤ) where
  row_sides : (r : ℕ) → r < 8 → All HasSides (row_terms c r)
  row_sides r h = All-from_recursion HasSides (row_terms c r) (omega arith)

  cells_sides : All HasSides (cells_terms c)
  unfolding cells_terms
  cells_sides =
      let small = All-from_recursion (λ r. r < 8) (range_with_len 0 8) (omega arith) in
      all_joined (row_terms c) HasSides (range_with_len 0 8) (All-weaker (λ r. r < 8) (λ r. All HasSides (row_terms c r)) row_sides (range_with_len 0 8) small)

  -- cells are a map if they are light enough
  pub cells_map : weight_of (cells_terms c) ≤ HEAVIEST → IsMap (cells_terms c)
  cells_map light = record { sides = cells_sides; light = light }

  -- cells of 0 weigh nothing
  pub no_weight : ((r s : ℕ) → c r s ≡ pos 0) → weight_of (cells_terms c) ≡ 0
  unfolding cells_terms
  no_weight e = ap (λ (f : ℕ → ℕ → ℤ). weight_of (cells_terms f)) (λ i r s. e r s i)
