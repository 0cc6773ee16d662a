-- Sums and counts: n things in n classes.
use Rattle.std.proofs.Common.{◌≡◌, ℕ, zero, suc, ◌+◌, ◌<◌, ◌≤◌, Bool, true, false, cond, eqb, ltb, List, [], ◌∷◌, length, get_or, count_by, sym, refl, ap, ◌∙◌, ⊎_elim, arith}
use Rattle.std.specs.List.{All}
use Rattle.std.proofs.lemmas.List.Elements.{All-head, All-tail}
use Rattle.std.proofs.lemmas.Bool.{cases_lt}
use Rattle.std.proofs.lemmas.Bool.Decides.{nat_tests}
use Rattle.std.proofs.lemmas.List.Sums.{sum_by-cons}
use Rattle.nets.specs.Sums.{total}

abbrev pub one_if : Bool → ℕ
one_if b = cond b 1 0

pub count-cons : {X : Type 0} (p : X → Bool) (x : X) (xs : List X) → count_by p (x ∷ xs) ≡ one_if (p x) + count_by p xs
count-cons p x xs = sum_by-cons (λ y. one_if (p y)) x xs

pub total_add : (n : ℕ) (f g : ℕ → ℕ) → total n (λ k. f k + g k) ≡ total n f + total n g
total_add zero f g = refl
total_add (suc n) f g = omega (arith, total_add n f g)

pub total_same : (n : ℕ) (f g : ℕ → ℕ) → ((k : ℕ) → k < n → f k ≡ g k) → total n f ≡ total n g
total_same zero f g h = refl
total_same (suc n) f g h = omega (arith, h n (omega arith), total_same n f g (λ k l. h k (omega arith)))

pub total_none : (n : ℕ) → total n (λ _. 0) ≡ 0
total_none zero = refl
total_none (suc n) = omega (arith, total_none n)

-- one of the classes below n is a, if a is below n
total_class : (a n : ℕ) → total n (λ k. one_if (eqb a k)) ≡ one_if (ltb a n)
total_class a zero = grind (arith, nat_tests)
total_class a (suc n) = let ih = total_class a n in grind (arith, nat_tests)

-- things that each have a class below n: the classes' counts add up to all of them
module _ {X : Type 0} (g : X → ℕ) (n : ℕ) where
  pub spread : (xs : List X) → All (λ x. g x < n) xs → total n (λ k. count_by (λ x. eqb (g x) k) xs) ≡ length xs
  spread [] all = total_none n
  spread (x ∷ xs) all =
      total_same n _ _ (λ k _. count-cons (λ y. eqb (g y) k) x xs)
      ∙ total_add n (λ k. one_if (eqb (g x) k)) (λ k. count_by (λ y. eqb (g y) k) xs)
      ∙ (let here = total_class (g x) n in let h = All-head (λ x. g x < n) x xs all in let rest = spread xs (All-tail (λ x. g x < n) x xs all) in grind (arith, nat_tests))

pub total_ones : (n : ℕ) → total n (λ _. 1) ≡ n
total_ones zero = refl
total_ones (suc n) = omega (arith, total_ones n)

-- equal sums of numbers of which each is at most the other
module _ (f g : ℕ → ℕ) where
  total_most : (n : ℕ) → ((k : ℕ) → k < n → f k ≤ g k) → total n f ≤ total n g
  total_most zero h = omega arith
  total_most (suc n) h = omega (arith, h n (omega arith), total_most n (λ k l. h k (omega arith)))

  pub total_squeeze : (n : ℕ) → ((k : ℕ) → k < n → f k ≤ g k) → total n f ≡ total n g → (k : ℕ) → k < n → f k ≡ g k
  total_squeeze zero h e k l = absurd (omega arith)
  total_squeeze (suc n) h e k l =
      let h' : (j : ℕ) → j < n → f j ≤ g j = λ j q. h j (omega arith) in
      let most = total_most n h' in
      let last = h n (omega arith) in
      ⊎_elim
      (λ (q : k < n). total_squeeze n h' (omega arith) k q)
      (λ (q : n ≤ k). let z : k ≡ n = omega arith in let same : f n ≡ g n = omega arith in ap f z ∙ same ∙ ap g (sym z))
      (cases_lt k n)

module _ {X : Type 0} (p : X → Bool) (d : X) where
  -- where the count is 0, nothing passes
  pub count_none : (xs : List X) → ((k : ℕ) → k < length xs → p (get_or xs k d) ≡ false) → count_by p xs ≡ 0
  count_none [] h = refl
  count_none (x ∷ xs) h = omega (arith, count-cons p x xs, ap one_if (h 0 (omega arith)), count_none xs (λ k l. h (suc k) (omega arith)))

  pub count_some : (xs : List X) (k : ℕ) → k < length xs → p (get_or xs k d) ≡ true → 1 ≤ count_by p xs
  count_some [] k l e = absurd (omega arith)
  count_some (x ∷ xs) zero l e = omega (arith, count-cons p x xs, ap one_if e)
  count_some (x ∷ xs) (suc k) l e = omega (arith, count-cons p x xs, count_some xs k (omega arith) e)

  -- where no two pass, the count is at most 1, and the other way round
  pub count_lone : (xs : List X) → ((j k : ℕ) → j < length xs → k < length xs → p (get_or xs j d) ≡ true → p (get_or xs k d) ≡ true → j ≡ k) → count_by p xs ≤ 1
  count_lone [] h = omega arith
  count_lone (x ∷ xs) h =
      let rest = count_lone xs (λ j k l q a b. omega (arith, h (suc j) (suc k) (omega arith) (omega arith) a b)) in
      let fails : p x ≡ true → (k : ℕ) → k < length xs → p (get_or xs k d) ≡ false = λ e k l. let other : p (get_or xs k d) ≡ true → ⊥ = λ t. omega (arith, h 0 (suc k) (omega arith) (omega arith) e t) in grind arith in
      let none : p x ≡ true → count_by p xs ≡ 0 = λ e. count_none xs (fails e) in
      let more = count-cons p x xs in
      grind arith

  pub lone_count : (xs : List X) → count_by p xs ≤ 1 → (j k : ℕ) → j < length xs → k < length xs → p (get_or xs j d) ≡ true → p (get_or xs k d) ≡ true → j ≡ k
  lone_count [] h j k l q a b = absurd (omega arith)
  lone_count (x ∷ xs) h zero zero l q a b = refl
  lone_count (x ∷ xs) h zero (suc k) l q a b = absurd (omega (arith, count-cons p x xs, ap one_if a, count_some xs k (omega arith) b))
  lone_count (x ∷ xs) h (suc j) zero l q a b = absurd (omega (arith, count-cons p x xs, ap one_if b, count_some xs j (omega arith) a))
  lone_count (x ∷ xs) h (suc j) (suc k) l q a b = ap suc (lone_count xs (omega (arith, count-cons p x xs)) j k (omega arith) (omega arith) a b)

module _ {X : Type 0} (P : X → Type 0) (p q : X → Bool) (same : (x : X) → P x → p x ≡ q x) where
  pub count_same : (xs : List X) → All P xs → count_by p xs ≡ count_by q xs
  count_same [] all = refl
  count_same (x ∷ xs) all = omega (arith, count-cons p x xs, count-cons q x xs, ap one_if (same x (All-head P x xs all)), count_same xs (All-tail P x xs all))
