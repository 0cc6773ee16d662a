-- The points of Hammersley and of Sobol are nets.
use Rattle.std.proofs.Common.{◌≡◌, ℕ, ◌+◌, ◌-◌, ◌*◌, ◌/◌, ◌%◌, ◌^◌, ◌<◌, ◌≤◌, get_or, sym, ◌∙◌, div-add-mod', mul-add, arith}
use Rattle.nets.specs.Digits.{digit, word}
use Rattle.nets.specs.Places.{IsNet}
use Rattle.nets.specs.Sums.{total}
use Rattle.nets.proofs.Counts.{total_add, total_same}
use Rattle.nets.proofs.Points.{point_at, net_from_points, index_same}
use Rattle.nets.proofs.Words.{word_below, digit_below, digits_same, top_number}
use Rattle.sequences.specs.Sequences.{binomial, hammersley, hammersley_net, sobol_bit, sobol, sobol_net}
use Rattle.nets.proofs.Coordinates.{below, reversed_below, tops_same}
use Rattle.sequences.proofs.Pascal.{all_even}

pub hammersley_is_net : (m : ℕ) → m ≤ 12 → IsNet m (hammersley_net m)
hammersley_is_net m hm =
    net_from_points hammersley m hm
    (λ i h. (below m i (omega arith) h, below m (word m (digit i)) (omega arith) (reversed_below m i)))
    (λ d i j hd hi hj s.
    let high : i / 2 ^ (m - d) ≡ j / 2 ^ (m - d) = sym (top_number m d i (omega arith) hd) ∙ s.x ∙ top_number m d j (omega arith) hd in
    let low : i % 2 ^ (m - d) ≡ j % 2 ^ (m - d) = digits_same (m - d) i j (tops_same m (m - d) (digit i) (digit j) (digit_below i) (digit_below j) (omega arith) (omega arith) s.y) in
    sym (div-add-mod' i (2 ^ (m - d))) ∙ rw (high, low) (div-add-mod' j (2 ^ (m - d))))

bit_below : (m i k : ℕ) → sobol_bit m i k < 2
bit_below m i k = omega arith

-- two indexes with the same bit k
bits_even : (m i j k : ℕ) → sobol_bit m i k ≡ sobol_bit m j k → total m (λ r. binomial r k * (digit i r + digit j r)) % 2 ≡ 0
bits_even m i j k e =
    omega (
      arith,
      total_same m (λ r. binomial r k * (digit i r + digit j r)) (λ r. binomial r k * digit i r + binomial r k * digit j r) (λ r _. mul-add (binomial r k) (digit i r) (digit j r)),
      total_add m (λ r. binomial r k * digit i r) (λ r. binomial r k * digit j r),
    )

pub sobol_is_net : (m : ℕ) → m ≤ 12 → IsNet m (sobol_net m)
sobol_is_net m hm =
    net_from_points sobol m hm
    (λ i h. (below m (word m (digit i)) (omega arith) (reversed_below m i), below m (word m (sobol_bit m i)) (omega arith) (word_below m (sobol_bit m i) (λ k _. bit_below m i k))))
    (λ d i j hd hi hj s.
    let first = tops_same m d (digit i) (digit j) (digit_below i) (digit_below j) (omega arith) hd s.x in
    let bits = tops_same m (m - d) (sobol_bit m i) (sobol_bit m j) (bit_below m i) (bit_below m j) (omega arith) (omega arith) s.y in
    let even = all_even m d (λ r. digit i r + digit j r) hd (λ r l. omega (arith, first r l)) (λ k l. bits_even m i j k (bits k l)) in
    index_same m i j hi hj (λ r l. omega (arith, even r l)))

-- the place at an index is Sobol's point there
pub sobol_at : (m i : ℕ) → i < 2 ^ m → get_or (sobol_net m) i (0, 0) ≡ sobol m i
sobol_at = point_at sobol
