-- Counts of lists, by what holds of each element.
use Rattle.std.proofs.Common.{◌≡◌, ℕ, zero, suc, ◌+◌, ◌-◌, ◌*◌, ◌/◌, ◌<◌, ◌≤◌, Bool, ◌&&◌, eqb, ltb, List, [], ◌∷◌, length, take, count_by, refl, div-lt_iff_lt-mul, arith}
use Rattle.std.proofs.lemmas.Bool.Decides.{nat_tests}
use Rattle.nets.proofs.Counts.{one_if, count-cons}

module _ {X : Type 0} (p : X → Bool) where
  pub count_zero : ((x : X) → one_if (p x) ≡ 0) → (xs : List X) → count_by p xs ≡ 0
  count_zero h [] = refl
  count_zero h (x ∷ xs) = omega (arith, count-cons p x xs, h x, count_zero h xs)

  pub count_under : (q : X → Bool) → ((x : X) → one_if (p x) ≤ one_if (q x)) → (xs : List X) → count_by p xs ≤ count_by q xs
  count_under q h [] = omega arith
  count_under q h (x ∷ xs) = omega (arith, count-cons p x xs, count-cons q x xs, h x, count_under q h xs)

  pub count_split : (q r : X → Bool) → ((x : X) → one_if (p x) ≡ one_if (q x) + one_if (r x)) → (xs : List X) → count_by p xs ≡ count_by q xs + count_by r xs
  count_split q r h [] = refl
  count_split q r h (x ∷ xs) = omega (arith, count-cons p x xs, count-cons q x xs, count-cons r x xs, h x, count_split q r h xs)

  one_at_most : (b : Bool) → one_if b ≤ 1
  one_at_most b = grind arith

  -- the first n miss as many as are left at most
  pub count_take : (n : ℕ) (xs : List X) → (count_by p (take n xs) ≤ count_by p xs) × (count_by p xs ≤ count_by p (take n xs) + (length xs - n))
  count_take zero [] = omega arith
  count_take zero (x ∷ xs) = omega (arith, count-cons p x xs, one_at_most (p x), count_take zero xs)
  count_take (suc n) [] = omega arith
  count_take (suc n) (x ∷ xs) = omega (arith, count-cons p x xs, count-cons p x (take n xs), count_take n xs)

-- below t + 1 parts of size g: below t parts, or in part t
pub below_next : (x g t : ℕ) → 0 < g → one_if (ltb x (suc t * g)) ≡ one_if (ltb x (t * g)) + one_if (eqb (x / g) t)
below_next x g t gp = grind (arith, nat_tests, div-lt_iff_lt-mul {x = x} {y = t} gp, div-lt_iff_lt-mul {x = x} {y = suc t} gp)

-- the same under another test
pub and_left : (b s t u : Bool) → one_if s ≡ one_if t + one_if u → one_if (b && s) ≡ one_if (b && t) + one_if (b && u)
and_left b s t u h = grind arith

pub and_right : (b s t u : Bool) → one_if s ≡ one_if t + one_if u → one_if (s && b) ≡ one_if (t && b) + one_if (u && b)
and_right b s t u h = grind arith
