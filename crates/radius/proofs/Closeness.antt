-- How near a sum is to what is due: such bounds are added, multiplied and compared.
use Rattle.std.proofs.Common.{ℕ, ◌+◌, ◌*◌, ◌^◌, ◌≤◌, ℤ, pos, ◌+ℤ◌, ◌-ℤ◌, ◌*ℤ◌, nat_abs, ap, mul-le-mul_left, arith}
use borrow.Author.Differences.{up, down, sum_is_lem, product_is}
use Rattle.std.proofs.lemmas.Int.{ints}

-- s * 2^32 is within r of k * j
pub record Close (k r : ℕ) (s j : ℤ) : Type 0 where
  pub over : up s * 2 ^ 32 + k * down j ≤ down s * 2 ^ 32 + k * up j + r
  pub under : down s * 2 ^ 32 + k * up j ≤ up s * 2 ^ 32 + k * down j + r

-- the same by the size of the difference
pub close_of : (k r : ℕ) (s j : ℤ) → nat_abs (s *ℤ pos (2 ^ 32) -ℤ pos k *ℤ j) ≤ r → Close k r s j
close_of k r s j h = omega (arith, ints, h)

pub near_of : (k r : ℕ) (s j : ℤ) → Close k r s j → nat_abs (s *ℤ pos (2 ^ 32) -ℤ pos k *ℤ j) ≤ r
near_of k r s j c = omega (arith, ints, c.over, c.under)

-- two sums added
pub close_sum : (k r r' : ℕ) (s s' j j' : ℤ) → Close k r s j → Close k r' s' j' → Close k (r + r') (s +ℤ s') (j +ℤ j')
close_sum k r r' s s' j j' c d = omega (arith, sum_is_lem s s', ap (λ z. k * z) (sum_is_lem j j'))

-- one sum a * c times, where c * k are due in place of k, and a * j in place of j
pub close_times : (a c k r : ℕ) (s j : ℤ) → Close k r s j → Close (c * k) (a * c * r) (pos (a * c) *ℤ s) (pos a *ℤ j)
close_times a c k r s j h =
    let p = product_is (pos a) j in
    omega (arith, ints, mul-le-mul_left (a * c) h.over, mul-le-mul_left (a * c) h.under, ap (λ z. c * k * z) p.0, ap (λ z. c * k * z) p.1)

-- two sums near one j, each as many times as the other is due
pub close_two : (k k' r r' : ℕ) (s s' j : ℤ) → Close k (r * 2 ^ 32) s j → Close k' (r' * 2 ^ 32) s' j → nat_abs (s *ℤ pos k' -ℤ s' *ℤ pos k) ≤ r * k' + r' * k
close_two k k' r r' s s' j c d =
    let e = close_times 1 k' k (r * 2 ^ 32) s j c in
    let f = close_times 1 k k' (r' * 2 ^ 32) s' j d in
    omega (arith, ints, e.over, e.under, f.over, f.under)
