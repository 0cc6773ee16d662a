-- The points of Hammersley (1960), and of Sobol (1967) in the first two coordinates and in natural order.
use Rattle.std.specs.Prelude.{ℕ, zero, suc, ◌+◌, ◌-◌, ◌*◌, ◌%◌, ◌^◌, List}
use Rattle.nets.specs.Digits.{digit, word}
use Rattle.nets.specs.Places.{Place}
use Rattle.nets.specs.Points.{points_of}
use Rattle.nets.specs.Sums.{total}

-- C(n, k), by Pascal's rule
abbrev pub binomial : (n k : ℕ) → ℕ
binomial n zero = 1
binomial zero (suc k) = 0
binomial (suc n) (suc k) = binomial n k + binomial n (suc k)

-- y is i's m binary digits in reverse order
abbrev pub hammersley : (m i : ℕ) → Place
hammersley m i = (i * 2 ^ (16 - m), word m (digit i) * 2 ^ (16 - m))

-- bit k of y from the top, for k below m. C(r, k) is 0 for r below k, so that the sum
-- over r from k to m - 1 is the one over all r below m
abbrev pub sobol_bit : (m i k : ℕ) → ℕ
sobol_bit m i k = total m (λ r. binomial r k * digit i r) % 2

-- x is i's m binary digits in reverse order; the lower bits of y are 0
abbrev pub sobol : (m i : ℕ) → Place
sobol m i = (word m (digit i) * 2 ^ (16 - m), word m (sobol_bit m i) * 2 ^ (16 - m))

abbrev pub hammersley_net : (m : ℕ) → List Place
hammersley_net = points_of hammersley

abbrev pub sobol_net : (m : ℕ) → List Place
sobol_net = points_of sobol
