-- Sums of whole numbers over lists, and how large a coat can be.
use Rattle.std.proofs.Common.{◌≡◌, ℕ, ◌+◌, ◌*◌, ◌<◌, ◌≤◌, Bool, true, false, cond, List, [], ◌∷◌, ◌++◌, map, length, get_or, take, ℤ, pos, ◌+ℤ◌, nat_abs, sum_by, refl, ap, ◌∙◌, arith}
use borrow.Author.Differences.{up, down}
use Rattle.std.specs.List.{flat_map, All}
use Rattle.std.specs.List.Sorted.{IsPermutation}
use Rattle.std.proofs.lemmas.List.Elements.{All-nil, All-head, All-tail, All-append}
use Rattle.std.proofs.lemmas.List.{take_more}
use Rattle.std.proofs.lemmas.Int.{ints}
use Rattle.std.proofs.lemmas.List.Sorted.{sum_by-IsPermutation}
use Rattle.std.proofs.lemmas.List.Sums.{sum_by-cons, sum_by-append}
use Rattle.nets.specs.Places.{Place}
use Rattle.coats.specs.declared.term.Term.{Term}
use Rattle.coats.specs.Terms.{sum_of, is_boxed, coat_of, weight_of}

module _ {X : Type 0} (f : X → ℤ) where
  pub sum_of_append : (xs ys : List X) → sum_of f (xs ++ ys) ≡ sum_of f xs +ℤ sum_of f ys
  sum_of_append [] ys = omega (arith, ints)
  sum_of_append (x ∷ xs) ys = omega (arith, ints, sum_of_append xs ys)

  -- a loop's step
  pub sum_of_more : (xs : List X) (i : ℕ) (d : X) → i < length xs → sum_of f (take (i + 1) xs) ≡ sum_of f (take i xs) +ℤ f (get_or xs i d)
  sum_of_more xs i d h = ap (sum_of f) (take_more xs i d h) ∙ sum_of_append (take i xs) (get_or xs i d ∷ []) ∙ omega (arith, ints)

  -- the sum of numbers that are at most n either way
  pub sum_of_within : (n : ℕ) (xs : List X) → All (λ x. nat_abs (f x) ≤ n) xs → nat_abs (sum_of f xs) ≤ n * length xs
  sum_of_within n [] h = omega arith
  sum_of_within n (x ∷ xs) h = omega (arith, ints, All-head (λ x. nat_abs (f x) ≤ n) x xs h, sum_of_within n xs (All-tail (λ x. nat_abs (f x) ≤ n) x xs h))

  -- the sum of what is added, less the sum of what is taken away
  parts : (xs : List X) → sum_of f xs +ℤ pos (sum_by (λ x. down (f x)) xs) ≡ pos (sum_by (λ x. up (f x)) xs)
  parts [] = refl
  parts (x ∷ xs) = omega (arith, ints, parts xs, sum_by-cons (λ x. up (f x)) x xs, sum_by-cons (λ x. down (f x)) x xs)

  pub sum_of_shuffled : (xs ys : List X) → IsPermutation xs ys → sum_of f xs ≡ sum_of f ys
  sum_of_shuffled xs ys s = omega (arith, ints, parts xs, parts ys, sum_by-IsPermutation (λ x. up (f x)) xs ys s, sum_by-IsPermutation (λ x. down (f x)) xs ys s)

pub sum_of_same : {X : Type 0} (f g : X → ℤ) → ((x : X) → f x ≡ g x) → (xs : List X) → sum_of f xs ≡ sum_of g xs
sum_of_same f g e [] = refl
sum_of_same f g e (x ∷ xs) = omega (arith, ints, e x, sum_of_same f g e xs)

pub sum_of_map : {X Y : Type 0} (g : X → Y) (f : Y → ℤ) (xs : List X) → sum_of f (map g xs) ≡ sum_of (λ x. f (g x)) xs
sum_of_map g f [] = refl
sum_of_map g f (x ∷ xs) = ap (λ z. f (g x) +ℤ z) (sum_of_map g f xs)

-- sums over lists that are joined, one for each element
module _ {X Y : Type 0} (g : X → List Y) where
  pub sum_of_joined : (f : Y → ℤ) (xs : List X) → sum_of f (flat_map g xs) ≡ sum_of (λ x. sum_of f (g x)) xs
  sum_of_joined f [] = refl
  sum_of_joined f (x ∷ xs) = sum_of_append f (g x) (flat_map g xs) ∙ ap (λ z. sum_of f (g x) +ℤ z) (sum_of_joined f xs)

  pub sum_by_joined : (f : Y → ℕ) (xs : List X) → sum_by f (flat_map g xs) ≡ sum_by (λ x. sum_by f (g x)) xs
  sum_by_joined f [] = refl
  sum_by_joined f (x ∷ xs) = omega (arith, sum_by-append f (g x) (flat_map g xs), sum_by_joined f xs, sum_by-cons (λ x. sum_by f (g x)) x xs)

  pub all_joined : (P : Y → Type 0) (xs : List X) → All (λ x. All P (g x)) xs → All P (flat_map g xs)
  all_joined P [] h = All-nil P
  all_joined P (x ∷ xs) h = All-append P (g x) (flat_map g xs) (All-head (λ x. All P (g x)) x xs h) (all_joined P xs (All-tail (λ x. All P (g x)) x xs h))

kept_small : (b : Bool) (w : ℤ) → nat_abs (cond b w (pos 0)) ≤ nat_abs w
kept_small true w = omega arith
kept_small false w = omega arith

pub coat_small : (ts : List Term) (p : Place) → nat_abs (coat_of ts p) ≤ weight_of ts
coat_small [] p = omega arith
coat_small (t ∷ ts) p = omega (arith, ints, kept_small (is_boxed t.u t.v p) t.w, coat_small ts p, sum_by-cons (λ (t : Term). nat_abs t.w) t ts)

pub coat_light : (ts : List Term) (p : Place) → weight_of ts ≤ 16384 → nat_abs (coat_of ts p) ≤ 16384
coat_light ts p h = omega (arith, coat_small ts p)
