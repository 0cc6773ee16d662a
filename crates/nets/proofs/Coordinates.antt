-- A number of m bits as the top bits of a coordinate.
use Rattle.std.proofs.Common.{◌≡◌, ℕ, zero, suc, ◌+◌, ◌-◌, ◌*◌, ◌/◌, ◌%◌, ◌^◌, ◌<◌, ◌≤◌, sym, ◌∙◌, arith, add-mul, mul_assoc, shr-shr, pow_mono}
use Rattle.std.proofs.Math.Nat.{div-eq_of_lt}
use Rattle.std.specs.Int.{reverse_bits_onto}
use Rattle.std.proofs.lemmas.Nat.{shl_below}
use Rattle.nets.specs.Digits.{digit, word}
use Rattle.nets.specs.Places.{top}
use Rattle.nets.proofs.Words.{word_below, word_digits, word_pad, digit_below, top_word}

pub below : (m n : ℕ) → m ≤ 16 → n < 2 ^ m → n * 2 ^ (16 - m) < 2 ^ 16
below m n hm h = grind (arith, shl_below n m (16 - m))

pub reversed_below : (m i : ℕ) → word m (digit i) < 2 ^ m
reversed_below m i = word_below m (digit i) (λ r _. digit_below i r)

-- words with the same top e bits have the same first e digits
pub tops_same : (m e : ℕ) (b c : ℕ → ℕ) → ((k : ℕ) → b k < 2) → ((k : ℕ) → c k < 2) → m ≤ 16 → e ≤ m
    → top e (word m b * 2 ^ (16 - m)) ≡ top e (word m c * 2 ^ (16 - m)) → (k : ℕ) → k < e → b k ≡ c k
tops_same m e b c hb hc hm he s =
    word_digits e b c (λ k _. hb k) (λ k _. hc k) (sym (top_word m e b (λ k _. hb k) hm he) ∙ s ∙ top_word m e c (λ k _. hc k) hm he)

digit-half : (n k : ℕ) → digit (n / 2) k ≡ digit n (suc k)
digit-half n k = grind (arith, shr-shr n 1 k)

-- the lowest digit in front
word-suc : (k n : ℕ) → word (suc k) (digit n) ≡ n % 2 * 2 ^ k + word k (digit (n / 2))
word-suc zero n = omega arith
word-suc (suc k) n = let rest = word-suc k n in let last = digit-half n k in grind (arith, mul_assoc)

reverse_bits_onto-word : (k n a : ℕ) → reverse_bits_onto k n a ≡ a * 2 ^ k + word k (digit n)
unfolding reverse_bits_onto
reverse_bits_onto-word zero n a = omega arith
reverse_bits_onto-word (suc k) n a = let rest = reverse_bits_onto-word k (n / 2) (a * 2 + n % 2) in let front = word-suc k n in grind (arith, add-mul, mul_assoc)

pub no_digit : (m i r : ℕ) → i < 2 ^ m → m ≤ r → digit i r ≡ 0
no_digit m i r h l = grind (arith, pow_mono, div-eq_of_lt)

-- k bits reversed, of which the top k - m are 0
pub reversed_word : (m k n : ℕ) → m ≤ k → n < 2 ^ m → word m (digit n) * 2 ^ (k - m) ≡ reverse_bits_onto k n 0
reversed_word m k n hm h = omega (arith, reverse_bits_onto-word k n 0, word_pad m k (digit n) hm (λ r l _. no_digit m n r h l))
