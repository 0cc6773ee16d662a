-- Bit k of y for all k at once: y is the XOR of one column for each set digit.
use Rattle.std.proofs.Common.{◌≡◌, ℕ, zero, suc, ◌+◌, ◌*◌, ◌%◌, ◌≤◌, refl, ap, ◌∙◌, ⊎_elim, add-one, one-mul, arith}
use Rattle.std.specs.Prelude.{bit_xor}
use Rattle.std.specs.Int.Bits.{xor_zero_r}
use Rattle.std.proofs.Math.Nat.{zero-mul}
use Rattle.std.proofs.lemmas.Bool.{cases_eq}
use Rattle.nets.specs.Digits.{digit, word}
use Rattle.nets.proofs.Counts.{total_same, total_none}
use Rattle.nets.proofs.Words.{word_same, word_pad, word_xor}
use Rattle.sequences.specs.Columns.{column}
use Rattle.sequences.specs.Sequences.{binomial, sobol_bit, sobol}
use Rattle.sequences.proofs.Pascal.{binomial_over}

-- the XOR of the columns of the set digits among the n lowest digits of i
abbrev pub xor_columns : (n i : ℕ) → ℕ
xor_columns zero i = 0
xor_columns (suc n) i = bit_xor (xor_columns n i) (digit i n * column n)

-- one digit more
pub next_y : (n i : ℕ) → xor_columns (n + 1) i ≡ bit_xor (xor_columns n i) (digit i n * column n)
next_y n i = rw add-one refl

digit_set : (n i : ℕ) → digit i n ≡ 1 → xor_columns (suc n) i ≡ bit_xor (xor_columns n i) (column n)
digit_set n i e = ap (λ d. bit_xor (xor_columns n i) (d * column n)) e ∙ ap (bit_xor (xor_columns n i)) (one-mul (column n))

pub digit_clear : (n i : ℕ) → digit i n ≡ 0 → xor_columns (suc n) i ≡ xor_columns n i
digit_clear n i e = ap (λ d. bit_xor (xor_columns n i) (d * column n)) e ∙ ap (bit_xor (xor_columns n i)) (zero-mul (column n)) ∙ xor_zero_r (xor_columns n i)

columns_word : (n i : ℕ) → xor_columns n i ≡ word 16 (sobol_bit n i)
unfolding column
columns_word zero i = refl
columns_word (suc n) i =
    let b : ℕ → ℕ = λ k. binomial n k % 2 in
    ⊎_elim
    (λ (e : digit i n ≡ 1).
    digit_set n i e ∙ ap (λ y. bit_xor y (column n)) (columns_word n i) ∙ word_xor 16 (sobol_bit n i) b (λ k _. omega arith) (λ k _. omega arith)
    ∙ word_same 16 (λ k. (sobol_bit n i k + b k) % 2) (sobol_bit (suc n) i) (λ k _. grind arith))
    (λ (e : digit i n ≡ 1 → ⊥).
    let clear : digit i n ≡ 0 = omega arith in
    digit_clear n i clear ∙ columns_word n i ∙ word_same 16 (sobol_bit n i) (sobol_bit (suc n) i) (λ k _. grind arith))
    (cases_eq (digit i n) 1)

-- the lower bits are 0
sobol_bit_over : (m i k : ℕ) → m ≤ k → sobol_bit m i k ≡ 0
sobol_bit_over m i k h =
    let none = total_same m (λ r. binomial r k * digit i r) (λ _. 0) (λ r l. grind (arith, binomial_over r k)) in
    grind (arith, total_none m)

pub columns_make_y : (m i : ℕ) → m ≤ 16 → xor_columns m i ≡ (sobol m i).1
columns_make_y m i hm = columns_word m i ∙ word_pad m 16 (sobol_bit m i) hm (λ k h _. sobol_bit_over m i k h)
