-- A box of sides u and v holds u * v places of the panel, so the coat added over the panel is the integral.
use Rattle.std.proofs.Common.{◌≡◌, ℕ, zero, suc, Bool, true, false, cond, refl, ◌+◌, ◌-◌, ◌*◌, ◌^◌, ◌≤◌, ltb, eqb, Bool, ◌&&◌, ◌<◌, get_or, ⊎_elim, List, [], ◌∷◌, map, ℤ, pos, ◌+ℤ◌, ◌*ℤ◌, count_by, ap₂, ◌∙◌, add-mul, arith}
use Rattle.std.specs.List.{All, flat_map, range_with_len}
use Rattle.std.proofs.lemmas.Int.{ints}
use Rattle.std.proofs.lemmas.Bool.{cases_lt}
use Rattle.std.proofs.lemmas.Bool.Decides.{nat_tests}
use Rattle.std.proofs.lemmas.List.Elements.{All-head, All-tail, All-map, All-weaker}
use Rattle.std.proofs.lemmas.List.Sums.{sum_by-append}
use Rattle.std.proofs.lemmas.List.FromFn.{length-range_with_len, get_or-range_with_len}
use Rattle.coats.proofs.Sums.{all_joined}
use Rattle.nets.specs.Places.{Place}
use Rattle.nets.proofs.Counts.{one_if, count-cons}
use Rattle.coats.specs.declared.term.Term.{Term}
use Rattle.coats.specs.Terms.{is_boxed, integral_of, HasSides}
use Rattle.radius.specs.Radius.{added}
use Rattle.radius.specs.Panel.{square}
use Rattle.radius.specs.Claims.{PanelAdds, PanelWhole}

-- how many of a, a + 1, .., a + n - 1 are below u
below_from : (a n u : ℕ) → u ≤ a + n → count_by (λ x. ltb x u) (range_with_len a n) ≡ u - a
below_from a zero u h = omega arith
below_from a (suc n) u h =
    let rest = below_from (a + 1) n u (omega arith) in
    let e = count-cons (λ x. ltb x u) a (range_with_len (a + 1) n) in
    grind (arith, nat_tests)

below : (n u : ℕ) → u ≤ n → count_by (λ x. ltb x u) (range_with_len 0 n) ≡ u
below n u h = omega (arith, below_from 0 n u (omega arith))

-- the places of one x
abbrev column : List ℕ → ℕ → List Place
column ys x = map (λ y. (x, y)) ys

-- the places of columns that pass a test of x and one of y
module _ (f g : ℕ → Bool) where
  abbrev both : Place → Bool
  both p = f p.0 && g p.1

  in_column : (x : ℕ) (ys : List ℕ) → count_by both (column ys x) ≡ one_if (f x) * count_by g ys
  in_column x [] = omega arith
  in_column x (y ∷ ys) = let rest = in_column x ys in let e = count-cons both (x, y) (column ys x) in let h = count-cons g y ys in grind arith

  in_columns : (xs ys : List ℕ) → count_by both (flat_map (column ys) xs) ≡ count_by f xs * count_by g ys
  in_columns [] ys = omega arith
  in_columns (x ∷ xs) ys =
      let all = sum_by-append (λ p. one_if (both p)) (column ys x) (flat_map (column ys) xs) in
      let parts = add-mul (one_if (f x)) (count_by f xs) (count_by g ys) in
      rw (count-cons f x xs) (omega (arith, all, parts, in_column x ys, in_columns xs ys))

in_square : (n u v : ℕ) → u ≤ n → v ≤ n → count_by (is_boxed u v) (square n) ≡ u * v
unfolding square
in_square n u v hu hv = in_columns (λ x. ltb x u) (λ y. ltb y v) (range_with_len 0 n) (range_with_len 0 n) ∙ ap₂ ◌*◌ (below n u hu) (below n v hv)

-- what a term adds over places: its weight for each place in its box
picked : (b : Bool) (w : ℤ) → cond b w (pos 0) ≡ w *ℤ pos (one_if b)
picked true w = omega (arith, ints)
picked false w = omega (arith, ints)

pub added_none : (ps : List Place) → added [] ps ≡ pos 0
added_none [] = refl
added_none (p ∷ ps) = omega (arith, ints, added_none ps)

pub added_term : (t : Term) (ts : List Term) (ps : List Place) → added (t ∷ ts) ps ≡ t.w *ℤ pos (count_by (is_boxed t.u t.v) ps) +ℤ added ts ps
added_term t ts [] = omega (arith, ints)
added_term t ts (p ∷ ps) = rw (count-cons (is_boxed t.u t.v) p ps) (omega (arith, ints, picked (is_boxed t.u t.v p) t.w, added_term t ts ps))

added_square : (n : ℕ) (ts : List Term) → All (λ t. (t.u ≤ n) × (t.v ≤ n)) ts → added ts (square n) ≡ integral_of ts
added_square n [] h = added_none (square n)
added_square n (t ∷ ts) h =
    let at : (t.u ≤ n) × (t.v ≤ n) = All-head (λ (t : Term). (t.u ≤ n) × (t.v ≤ n)) t ts h in
    let rest = added_square n ts (All-tail (λ (t : Term). (t.u ≤ n) × (t.v ≤ n)) t ts h) in
    added_term t ts (square n) ∙ ap₂ (λ (c : ℕ) (z : ℤ). t.w *ℤ pos c +ℤ z) (in_square n t.u t.v at.0 at.1) rest

pub panel_adds : PanelAdds
panel_adds ts is_map = added_square (2 ^ 16) ts (All-weaker HasSides (λ (t : Term). (t.u ≤ 2 ^ 16) × (t.v ≤ 2 ^ 16)) (λ t s. (omega arith, omega arith)) ts is_map.sides)

-- a number stands once in a range
none_before : (b n a : ℕ) → a < b → count_by (λ x. eqb x a) (range_with_len b n) ≡ 0
none_before b zero a h = refl
none_before b (suc n) a h =
    let rest = none_before (b + 1) n a (omega arith) in
    let e = count-cons (λ x. eqb x a) b (range_with_len (b + 1) n) in
    grind (arith, nat_tests)

one_within : (b n a : ℕ) → b ≤ a → a < b + n → count_by (λ x. eqb x a) (range_with_len b n) ≡ 1
one_within b zero a low high = absurd (omega arith)
one_within b (suc n) a low high =
    let e = count-cons (λ x. eqb x a) b (range_with_len (b + 1) n) in
    ⊎_elim
    (λ (q : b < a). let rest = one_within (b + 1) n a (omega arith) (omega arith) in grind (arith, nat_tests))
    (λ (q : a ≤ b). let rest = none_before (b + 1) n a (omega arith) in grind (arith, nat_tests))
    (cases_lt b a)

square_once : (n : ℕ) (p : Place) → p.0 < n → p.1 < n → count_by (λ q. eqb q.0 p.0 && eqb q.1 p.1) (square n) ≡ 1
unfolding square
square_once n p hx hy =
    in_columns (λ x. eqb x p.0) (λ y. eqb y p.1) (range_with_len 0 n) (range_with_len 0 n)
    ∙ ap₂ ◌*◌ (one_within 0 n p.0 (omega arith) (omega arith)) (one_within 0 n p.1 (omega arith) (omega arith))

in_range : (n : ℕ) → All (λ x. x < n) (range_with_len 0 n)
in_range n k d h = let l = length-range_with_len 0 n in let e = get_or-range_with_len 0 n k d (omega arith) in omega arith

square_inside : (n : ℕ) → All (λ p. (p.0 < n) × (p.1 < n)) (square n)
unfolding square
square_inside n =
    all_joined (column (range_with_len 0 n)) (λ p. (p.0 < n) × (p.1 < n)) (range_with_len 0 n)
    (λ k d h. All-map (λ (p : Place). (p.0 < n) × (p.1 < n)) (λ (y : ℕ). (get_or (range_with_len 0 n) k d, y)) (range_with_len 0 n) (λ j e l. (in_range n k d h, in_range n j e l)))

pub panel_whole : PanelWhole
panel_whole = record { inside = square_inside (2 ^ 16); once = λ p h. square_once (2 ^ 16) p h.0 h.1 }
