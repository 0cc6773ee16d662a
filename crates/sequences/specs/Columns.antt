-- What a digit of an index adds to y. Contracts of inner functions alone cite it.
use Rattle.std.specs.Prelude.{ℕ, ◌%◌}
use Rattle.nets.specs.Digits.{word}
use Rattle.sequences.specs.Sequences.{binomial}

-- the column of digit r: bit k from the top is C(r, k) modulo 2
unfoldable pub column : (r : ℕ) → ℕ
column r = word 16 (λ k. binomial r k % 2)
