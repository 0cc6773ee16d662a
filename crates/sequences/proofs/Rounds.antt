-- The rounds of Sobol's loop: in each the lowest digit that is left is added, and then dropped.
use Rattle.std.proofs.Common.{◌≡◌, ℕ, zero, suc, ◌+◌, ◌-◌, ◌*◌, ◌/◌, ◌^◌, ◌<◌, ◌≤◌, sym, refl, ap, ◌∙◌, ⊎_elim, add-one, mul_assoc, mul_comm, arith, shr-shr, pow_pos, pow_mono, div-add-mod'}
use Rattle.std.proofs.Math.Nat.{div-eq_of_lt}
use Rattle.std.specs.Prelude.{bit_xor}
use Rattle.std.specs.Int.Bits.{xor_shifted}
use Rattle.std.proofs.lemmas.Nat.{mod_below, mul-le}
use Rattle.std.proofs.lemmas.Bool.{cases_lt}
use Rattle.nets.specs.Digits.{digit, word}
use Rattle.nets.proofs.Coordinates.{no_digit}
use Rattle.nets.proofs.Words.{word_pad}
use Rattle.sequences.specs.Sequences.{sobol}
use Rattle.sequences.proofs.Columns.{xor_columns, next_y, digit_clear, columns_make_y}

-- the digits that are left
pub half : (i n : ℕ) → i / 2 ^ n / 2 ≡ i / 2 ^ (n + 1)
half i n = shr-shr i n 1

pub none_left : (i n : ℕ) → i / 2 ^ n ≡ 0 → i < 2 ^ n
none_left i n e = omega (arith, div-add-mod' i (2 ^ n), mod_below i (2 ^ n) (pow_pos n), ap (λ z. z * 2 ^ n) e)

pub some_left : (i n : ℕ) → (i / 2 ^ n ≡ 0 → ⊥) → 2 ^ n ≤ i
some_left i n e = ⊎_elim (λ (l : i < 2 ^ n). absurd (e (div-eq_of_lt l))) (λ (l : 2 ^ n ≤ i). l) (cases_lt i (2 ^ n))

-- fewer rounds than the level has digits, while there is a set digit left
pub fewer : (m n i : ℕ) → i < 2 ^ m → 2 ^ n ≤ i → n < m
fewer m n i h r = ⊎_elim (λ (l : n < m). l) (λ (l : m ≤ n). let p : 2 ^ m ≤ 2 ^ n = pow_mono l in absurd (omega (arith, p))) (cases_lt n m)

-- x after n rounds
abbrev pub x_of : (n i : ℕ) → ℕ
x_of n i = word n (digit i) * 2 ^ (16 - n)

power : (n : ℕ) → n < 16 → 2 ^ (16 - n) ≡ 2 ^ (15 - n) * 2
power n h = let e : 16 - n ≡ suc (15 - n) = omega arith in ap (λ k. 2 ^ k) e ∙ omega arith

doubled : (w p : ℕ) → w * (p * 2) ≡ w * 2 * p
doubled w p = grind (arith, mul_assoc, mul_comm)

x_step : (n w d : ℕ) → n < 16 → w * 2 ^ (16 - n) + d * 2 ^ (15 - n) ≡ (w * 2 + d) * 2 ^ (16 - (n + 1))
x_step n w d h =
    let s : 16 - (n + 1) ≡ 15 - n = omega arith in
    rw (s, power n h) (grind (arith, doubled w (2 ^ (15 - n))))

pub next_x : (n i : ℕ) → n < 16 → x_of (n + 1) i ≡ bit_xor (x_of n i) (digit i n * 2 ^ (15 - n))
next_x n i h =
    let w = word n (digit i) in
    let small : digit i n * 2 ^ (15 - n) < 2 ^ (16 - n) = omega (arith, mul-le (digit i n) (2 ^ (15 - n)) 1 (2 ^ (15 - n)) (omega arith) (omega arith), power n h, pow_pos (15 - n)) in
    let last : word (n + 1) (digit i) ≡ w * 2 + digit i n = rw add-one refl in
    ap (λ v. v * 2 ^ (16 - (n + 1))) last ∙ sym (x_step n w (digit i n) h) ∙ sym (xor_shifted w (16 - n) (digit i n * 2 ^ (15 - n)) small)

-- digits past the highest that is 1 add nothing
columns_past : (i n k : ℕ) → i < 2 ^ n → xor_columns (n + k) i ≡ xor_columns n i
columns_past i n zero h = let e : n + 0 ≡ n = omega arith in ap (λ z. xor_columns z i) e
columns_past i n (suc k) h =
    let e : n + suc k ≡ suc (n + k) = omega arith in
    ap (λ z. xor_columns z i) e ∙ digit_clear (n + k) i (no_digit n i (n + k) h (omega arith)) ∙ columns_past i n k h

pub all_y : (m n i : ℕ) → i < 2 ^ n → n ≤ m → m ≤ 16 → xor_columns n i ≡ (sobol m i).1
all_y m n i h l hm = let e : n + (m - n) ≡ m = omega arith in sym (columns_past i n (m - n) h) ∙ ap (λ z. xor_columns z i) e ∙ columns_make_y m i hm

pub all_x : (m n i : ℕ) → i < 2 ^ n → n ≤ m → m ≤ 16 → x_of n i ≡ (sobol m i).0
all_x m n i h l hm = sym (word_pad n 16 (digit i) (omega arith) (λ k q _. no_digit n i k h q)) ∙ word_pad m 16 (digit i) hm (λ k q _. no_digit n i k h (omega arith))

pub ruleset rounds = (half, none_left, some_left, fewer, next_x, next_y, all_x, all_y)
