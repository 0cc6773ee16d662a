-- Sums of binomials modulo 2.
use Rattle.std.proofs.Common.{◌≡◌, ℕ, zero, suc, ◌+◌, ◌-◌, ◌*◌, ◌/◌, ◌%◌, ◌<◌, ◌≤◌, refl, ap, ◌∙◌, ⊎_elim, add-mul, one-mul, mul-add, arith}
use Rattle.std.proofs.lemmas.Bool.{cases_lt}
use Rattle.nets.specs.Sums.{total}
use Rattle.nets.proofs.Counts.{total_same}
use Rattle.sequences.specs.Sequences.{binomial}

pub binomial_over : (r k : ℕ) → r < k → binomial r k ≡ 0
binomial_over r zero h = absurd (omega arith)
binomial_over zero (suc k) h = refl
binomial_over (suc r) (suc k) h = omega (arith, binomial_over r k (omega arith), binomial_over r (suc k) (omega arith))

times_even : (a x : ℕ) → x % 2 ≡ 0 → a * x % 2 ≡ 0
times_even a x h = let e : x ≡ 2 * (x / 2) = omega arith in omega (arith, ap (λ z. a * z) e)

total_even : (n : ℕ) (f : ℕ → ℕ) → ((r : ℕ) → r < n → f r % 2 ≡ 0) → total n f % 2 ≡ 0
total_even zero f h = refl
total_even (suc n) f h = omega (arith, h n (omega arith), total_even n f (λ r l. h r (omega arith)))

-- the sum of the first r + 1
abbrev sums : (ℕ → ℕ) → ℕ → ℕ
sums f r = total (suc r) f

from_sums : (n : ℕ) (f : ℕ → ℕ) → ((r : ℕ) → r < n → sums f r % 2 ≡ 0) → (r : ℕ) → r < n → f r % 2 ≡ 0
from_sums n f h zero l = omega (arith, h 0 l)
from_sums n f h (suc r) l = omega (arith, h (suc r) l, h r (omega arith))

-- summation by parts
by_parts : (n k : ℕ) (f : ℕ → ℕ) → total (suc n) (λ r. binomial r (suc k) * f r) + total n (λ r. binomial r k * sums f r) ≡ binomial n (suc k) * sums f n
by_parts zero k f = omega arith
by_parts (suc n) k f = let rest = by_parts n k f in grind (arith, add-mul, mul-add)

-- the first d of m numbers are even, and so are their first m - d sums with binomials: all are
pub all_even : (m d : ℕ) (f : ℕ → ℕ) → d ≤ m → ((r : ℕ) → r < d → f r % 2 ≡ 0) → ((k : ℕ) → k < m - d → total m (λ r. binomial r k * f r) % 2 ≡ 0)
    → (r : ℕ) → r < m → f r % 2 ≡ 0
all_even zero d f hd low even r l = absurd (omega arith)
all_even (suc n) d f hd low even r l =
    ⊎_elim
    (λ (q : d < suc n).
    let last : sums f n % 2 ≡ 0 = omega (arith, even 0 (omega arith), total_same (suc n) (λ r. binomial r 0 * f r) f (λ r _. one-mul (f r))) in
    let rest : (r : ℕ) → r < n → sums f r % 2 ≡ 0 = all_even n d (sums f) (omega arith)
    (λ r l. total_even (suc r) f (λ j h. low j (omega arith)))
    (λ k l. omega (arith, even (suc k) (omega arith), by_parts n k f, times_even (binomial n (suc k)) (sums f n) last)) in
    from_sums (suc n) f (λ r l. ⊎_elim (rest r) (λ (h : n ≤ r). let z : r ≡ n = omega arith in ap (λ r. sums f r % 2) z ∙ last) (cases_lt r n)) r l)
    (λ (q : suc n ≤ d). low r (omega arith))
    (cases_lt d (suc n))
