-- Each number has one bit length.
use Rattle.std.proofs.Common.{◌≡◌, ℕ, zero, suc, ◌^◌, ◌<◌, ◌≤◌, ⊎_elim, arith, pow_mono}
use Rattle.std.proofs.lemmas.Bool.{cases_lt}
use Rattle.std.proofs.lemmas.Nat.{leading_length}
use Rattle.nets.specs.Digits.{IsBitLength}

below_power : (i : ℕ) → i < 2 ^ i
below_power zero = omega arith
below_power (suc i) = omega (arith, below_power i)

pub has_bit_length : (i : ℕ) → (n : ℕ) × IsBitLength i n
has_bit_length i =
    let l = leading_length i i (below_power i) in
    (l.0, record { reaches = λ k h. (let p : 2 ^ suc k ≤ 2 ^ l.0 = pow_mono (omega arith) in omega (arith, p, l.3)); below = l.2 })

not_less : (i a b : ℕ) → IsBitLength i a → IsBitLength i b → b ≤ a
not_less i a b x y = ⊎_elim (λ (l : a < b). absurd (omega (arith, y.reaches a l, x.below))) (λ (l : b ≤ a). l) (cases_lt a b)

pub bit_length_same : (i a b : ℕ) → IsBitLength i a → IsBitLength i b → a ≡ b
bit_length_same i a b x y = omega (arith, not_less i a b x y, not_less i b a y x)
