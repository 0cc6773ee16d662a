-- What steps weigh, the coat that they give, and the sides of their terms.
use Rattle.std.proofs.Common.{◌≡◌, ℕ, ◌+◌, ◌*◌, ◌≤◌, Bool, true, false, cond, ◌&&◌, ltb, List, [], ◌∷◌, ◌++◌, map, length, ℤ, pos, ◌+ℤ◌, ◌*ℤ◌, nat_abs, sum_by, sym, refl, ap, ◌∙◌, subst, add-mul, mul-add, w32, SFits, arith}
use Rattle.std.proofs.lemmas.Int.{ints, unsigned_abs-mul}
use borrow.Author.Differences.{up, down, same_in, sum_is_lem, product_is}
use lib.IntN.{zero-*ℤ, *ℤ-zero, *ℤ_comm}
use Rattle.std.specs.List.{All}
use Rattle.std.proofs.Math.Seq.{take-append_seam, drop-append_seam}
use Rattle.std.proofs.lemmas.List.Elements.{All-take, All-drop, All-weaker, All-map}
use Rattle.std.proofs.lemmas.List.Sums.{sum_by-cons, sum_by-append}
use Rattle.nets.specs.Places.{Place}
use Rattle.coats.specs.declared.term.Term.{Term}
use Rattle.coats.specs.declared.checks.TheConstants.{HEAVIEST}
use Rattle.coats.specs.Terms.{sum_of, share_of, coat_of, weight_of, HasSides}
use Rattle.coats.proofs.Sums.{sum_of_same, sum_of_map, sum_of_joined, all_joined, coat_light}
use Rattle.steps.specs.declared.step.Step.{Step}
use Rattle.steps.specs.Rows.{pairing, rise_of, steps_terms, HasStepBounds}

abbrev pub no_step : Step
no_step = record { value = pos 0; bound = 0 }

both : (a b : Bool) (g h : ℤ) → cond (a && b) (g *ℤ h) (pos 0) ≡ cond a g (pos 0) *ℤ cond b h (pos 0)
both true true g h = refl
both true false g h = sym (*ℤ-zero g)
both false b g h = sym (zero-*ℤ (cond b h (pos 0)))

times_sum : (a b c : ℤ) → a *ℤ (b +ℤ c) ≡ a *ℤ b +ℤ a *ℤ c
times_sum a b c =
    let sum : up (b +ℤ c) + (down b + down c) ≡ up b + up c + down (b +ℤ c) = omega (arith, sum_is_lem) in
    let above = ap (λ (n : ℕ). up a * n) sum in
    let below = ap (λ (n : ℕ). down a * n) sum in
    omega (arith, same_in, sum_is_lem, product_is)

-- the sum of products by one number
module _ {X : Type 0} (a : ℤ) (f : X → ℤ) where
  sum_of_times : (xs : List X) → sum_of (λ x. a *ℤ f x) xs ≡ a *ℤ sum_of f xs
  sum_of_times [] = sym (*ℤ-zero a)
  sum_of_times (x ∷ xs) = ap (λ z. a *ℤ f x +ℤ z) (sum_of_times xs) ∙ sym (times_sum a (f x) (sum_of f xs))

module _ (x y : ℕ) (ys : List Step) where
  one_step : (a : Step) → sum_of (share_of (x, y)) (map (pairing a) ys) ≡ sum_of (rise_of y) ys *ℤ rise_of x a
  one_step a =
      sum_of_map (pairing a) (share_of (x, y)) ys
      ∙ sum_of_same _ (λ b. rise_of x a *ℤ rise_of y b) (λ b. both (ltb x a.bound) (ltb y b.bound) a.value b.value) ys
      ∙ sum_of_times (rise_of x a) (rise_of y) ys
      ∙ *ℤ_comm (rise_of x a) (sum_of (rise_of y) ys)

  pub steps_coat : (xs : List Step) → coat_of (steps_terms xs ys) (x, y) ≡ sum_of (rise_of x) xs *ℤ sum_of (rise_of y) ys
  steps_coat xs =
      sum_of_joined (λ a. map (pairing a) ys) (share_of (x, y)) xs
      ∙ sum_of_same _ (λ a. sum_of (rise_of y) ys *ℤ rise_of x a) one_step xs
      ∙ sum_of_times (sum_of (rise_of y) ys) (rise_of x) xs
      ∙ *ℤ_comm (sum_of (rise_of y) ys) (sum_of (rise_of x) xs)

abbrev size : Step → ℕ
size s = nat_abs s.value

one_weight : (a : Step) (ys : List Step) → weight_of (map (pairing a) ys) ≡ size a * sum_by size ys
one_weight a [] = omega arith
one_weight a (b ∷ ys) =
    sum_by-cons (λ (t : Term). nat_abs t.w) (pairing a b) (map (pairing a) ys)
    ∙ (let p = unsigned_abs-mul a.value b.value in let q = mul-add (size a) (size b) (sum_by size ys) in let rest = one_weight a ys in rw (sum_by-cons size b ys) (omega arith))

pub steps_weight : (xs ys : List Step) → weight_of (steps_terms xs ys) ≡ sum_by size xs * sum_by size ys
steps_weight [] ys = omega arith
steps_weight (x ∷ xs) ys =
    sum_by-append (λ (t : Term). nat_abs t.w) (map (pairing x) ys) (steps_terms xs ys)
    ∙ (let one = one_weight x ys in let q = add-mul (size x) (sum_by size xs) (sum_by size ys) in let rest = steps_weight xs ys in rw (sum_by-cons size x xs) (omega arith))

pub steps_sides : (xs ys : List Step) → All HasStepBounds (xs ++ ys) → All HasSides (steps_terms xs ys)
steps_sides xs ys h =
    let for_x : All HasStepBounds xs = subst (All HasStepBounds) (take-append_seam xs ys) (All-take HasStepBounds (length xs) (xs ++ ys) h) in
    let for_y : All HasStepBounds ys = subst (All HasStepBounds) (drop-append_seam xs ys) (All-drop HasStepBounds (length xs) (xs ++ ys) h) in
    let row : (a : Step) → HasStepBounds a → All HasSides (map (pairing a) ys) = λ a k. All-map HasSides (pairing a) ys (All-weaker HasStepBounds (λ b. HasSides (pairing a b)) (λ b l. (k, l)) ys for_y) in
    all_joined (λ a. map (pairing a) ys) HasSides xs (All-weaker HasStepBounds (λ a. All HasSides (map (pairing a) ys)) row xs for_x)

-- the height along x times the height along y is the coat, and small
pub heights : (xs ys : List Step) (p : Place) (a b : ℤ) → a ≡ sum_of (rise_of p.0) xs → b ≡ sum_of (rise_of p.1) ys → weight_of (steps_terms xs ys) ≤ HEAVIEST → (a *ℤ b ≡ coat_of (steps_terms xs ys) p) × (nat_abs (a *ℤ b) ≤ HEAVIEST)
heights xs ys p a b x y light =
    let is : a *ℤ b ≡ coat_of (steps_terms xs ys) p = rw (x, y) (sym (steps_coat p.0 p.1 ys xs)) in
    (is, rw is (coat_light (steps_terms xs ys) p light))

-- a height along x times a height along y fits its type, whatever the coordinates
pub heights_fit : (xs ys : List Step) (at_x at_y : ℕ) (a b : ℤ) → a ≡ sum_of (rise_of at_x) xs → b ≡ sum_of (rise_of at_y) ys → weight_of (steps_terms xs ys) ≤ HEAVIEST → SFits w32 (a *ℤ b)
heights_fit xs ys at_x at_y a b x y light = omega (arith, ints, heights xs ys (at_x, at_y) a b x y light)
