-- Maps of a coordinate under which two coordinates whose images agree in their top bits agree in theirs.
use Rattle.std.proofs.Common.{◌≡◌, ℕ, zero, suc, ◌+◌, ◌-◌, ◌*◌, ◌/◌, ◌%◌, ◌^◌, ◌<◌, ◌≤◌, sym, refl, ap, ◌∙◌, ⊎_elim, add-zero, arith}
use lib.Bits.{bit_xor, xor_assoc, xor_self, xor_zero_r, xor_lt, xor_shr, xor_block}
use lib.Pow.{split}
use Rattle.std.proofs.lemmas.Bool.{cases_lt}
use Rattle.nets.specs.Places.{top}
use Rattle.nets.specs.Digits.{digit, word}
use Rattle.nets.proofs.Intervals.{top_below}
use Rattle.nets.proofs.Words.{Bits, word_same, word_below, word_xor, digit_below, top_fewer, top_digits, top_word}
use Rattle.layers.specs.Layers.{flip, scramble_bit, scramble_of}

xor_cancel : (a b m : ℕ) → bit_xor a m ≡ bit_xor b m → a ≡ b
xor_cancel a b m e = simp (xor_assoc, xor_self, xor_zero_r) at (ap (λ z. bit_xor z m) e)

fewer : (k d x y : ℕ) → k ≤ d → d ≤ 16 → top d x ≡ top d y → top k x ≡ top k y
fewer k d x y hk hd e = cc (top_fewer k d x hk hd, top_fewer k d y hk hd)

-- a map of coordinates: images that agree in their top d bits are of coordinates that do
pub record Keeps (f : ℕ → ℕ) : Type 0 where
  pub below : (x : ℕ) → x < 2 ^ 16 → f x < 2 ^ 16
  pub tops : (d x y : ℕ) → d ≤ 16 → x < 2 ^ 16 → y < 2 ^ 16 → top d (f x) ≡ top d (f y) → top d x ≡ top d y

-- the bits of a mask that flip bit d hang on the d bits above it alone
abbrev Nested : (ℕ → ℕ) → Type 0
Nested mask = (d x y : ℕ) → d < 16 → top d x ≡ top d y → top (suc d) (mask x) ≡ top (suc d) (mask y)

-- flipping by such a mask
module _ (mask : ℕ → ℕ) (nested : Nested mask) where
  flipped : (d x y : ℕ) → d ≤ 16 → x < 2 ^ 16 → y < 2 ^ 16 → top d (bit_xor x (mask x)) ≡ top d (bit_xor y (mask y)) → top d x ≡ top d y
  flipped zero x y hd hx hy e = omega (arith, top_below 0 x hd hx, top_below 0 y hd hy)
  flipped (suc d) x y hd hx hy e =
      let above = flipped d x y (omega arith) hx hy (fewer d (suc d) _ _ (omega arith) hd e) in
      let same = nested d x y (omega arith) above in
      xor_cancel (top (suc d) x) (top (suc d) y) (top (suc d) (mask y)) (cc (same, xor_shr x (mask x) (16 - suc d), xor_shr y (mask y) (16 - suc d)))

  mask_keeps : ((x : ℕ) → mask x < 2 ^ 16) → Keeps (λ x. bit_xor x (mask x))
  mask_keeps small = record { below = λ x h. xor_lt 16 x (mask x) h (small x); tops = flipped }

pub shift_keeps : (s : ℕ) → s < 2 ^ 16 → Keeps (λ x. bit_xor x s)
shift_keeps s h = mask_keeps (λ _. s) (λ d x y hd e. refl) (λ _. h)

module _ (w : ℕ) where
  pub flip_bits : (x n : ℕ) → Bits n (flip w x)
  flip_bits x n k _ = digit_below w (2 ^ k + top k x)

  abbrev flips : ℕ → ℕ
  flips x = word 6 (flip w x) * 2 ^ 10

  flips_nested : Nested flips
  flips_nested d x y hd e =
      let same = λ (k : ℕ) (h : k ≤ d). ap (λ z. digit w (2 ^ k + z)) (fewer k d x y h (omega arith) e) in
      ⊎_elim
      (λ (h : d < 5).
      top_word 6 (suc d) (flip w x) (flip_bits x 6) (omega arith) (omega arith)
      ∙ word_same (suc d) (flip w x) (flip w y) (λ k l. same k (omega arith))
      ∙ sym (top_word 6 (suc d) (flip w y) (flip_bits y 6) (omega arith) (omega arith)))
      (λ (h : 5 ≤ d). ap (λ z. top (suc d) (z * 2 ^ 10)) (word_same 6 (flip w x) (flip w y) (λ k l. same k (omega arith))))
      (cases_lt d 5)

  abbrev masked : ℕ → ℕ
  masked x = bit_xor x (flips x)

  masked_keeps : Keeps masked
  masked_keeps = mask_keeps flips flips_nested (λ x. omega (arith, word_below 6 (flip w x) (flip_bits x 6)))

  -- one XOR scrambles the six bits and keeps the lower ten
  pub masked_is : (x : ℕ) → x < 2 ^ 16 → masked x ≡ scramble_of w x
  masked_is x h =
      let bits : Bits 6 (λ k. digit x (15 - k)) = λ k _. digit_below x (15 - k) in
      let six : bit_xor (top 6 x) (word 6 (flip w x)) ≡ word 6 (scramble_bit w x) =
      ap (λ z. bit_xor z (word 6 (flip w x))) (top_digits 6 x (omega arith) h) ∙ word_xor 6 (λ k. digit x (15 - k)) (flip w x) bits (flip_bits x 6)
      in
      (simp (split, add-zero, xor_zero_r) at (xor_block 10 (x / 2 ^ 10) (word 6 (flip w x)) (x % 2 ^ 10) 0 (omega arith) (omega arith)))
      ∙ ap (λ z. z * 2 ^ 10 + x % 2 ^ 10) six

  pub scramble_keeps : Keeps (scramble_of w)
  scramble_keeps =
      record {
        below = λ x h. rw (masked_is x h) at (masked_keeps.below x h);
        tops = λ d x y hd hx hy e. masked_keeps.tops d x y hd hx hy (rw (masked_is x hx, masked_is y hy) e);
      }
