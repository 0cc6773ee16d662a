-- A box of a net holds its share of the places. A strip, the places whose x has the same top k bits, cut
-- at a height, is off by one place at most. The ends of a strip of depth k are reached by adding and
-- taking away strips of depths up to k, so that the two are off by k + 1 together; and every box ends
-- within a strip of depth m, which holds one place.
use Rattle.std.proofs.Common.{◌≡◌, ℕ, zero, suc, ◌+◌, ◌-◌, ◌*◌, ◌/◌, ◌%◌, ◌^◌, ◌<◌, ◌≤◌, Bool, ◌&&◌, eqb, ltb, ◌⊎◌, List, count_by, ap, ◌∙◌, subst, inl, inr, ⊎_elim, mul-le-mul_right, div-lt_iff_lt-mul, mul-le-mul_left, div-mul-le_self, arith, pow_pos, pow-add}
use native.Mathlib.Nat.{lt-div-mul-add}
use Rattle.std.proofs.lemmas.Bool.{cases_lt}
use Rattle.std.proofs.lemmas.Bool.Decides.{nat_tests}
use Rattle.nets.specs.Places.{Place, IsNet}
use Rattle.nets.proofs.Intervals.{pow_sum}
use Rattle.coats.specs.Terms.{is_boxed}
use Rattle.radius.specs.Claims.{Off, BoxShares}
use Rattle.radius.proofs.Counts.{count_under, count_split, count_zero, below_next, and_left, and_right}

-- a length v ends in part q of n parts of size h
record EndsIn (v h n q : ℕ) : Type 0 where
  within : q < n
  low : q * h ≤ v
  high : v ≤ suc q * h

ends_in : (v h n : ℕ) → 0 < h → 1 ≤ v → v ≤ n * h → EndsIn v h n ((v - 1) / h)
ends_in v h n hp low high =
    record {
      within = (div-lt_iff_lt-mul hp).1 (omega arith);
      low = omega (arith, div-mul-le_self (v - 1) h);
      high = omega (arith, lt-div-mul-add {a = v - 1} hp);
    }

-- the strip number a of width g, cut at the height v
abbrev strip : (g a v : ℕ) → Place → Bool
strip g a v p = eqb (p.0 / g) a && ltb p.1 v

-- a strip whose n intervals, each of height h, hold one place each
module _ (ps : List Place) (g a h n : ℕ) (hp : 0 < h) (one : (j : ℕ) → j < n → count_by (λ p. eqb (p.0 / g) a && eqb (p.1 / h) j) ps ≡ 1) where
  whole_intervals : (j : ℕ) → j ≤ n → count_by (strip g a (j * h)) ps ≡ j
  whole_intervals zero hj = count_zero (strip g a (0 * h)) (λ p. grind (arith, nat_tests)) ps
  whole_intervals (suc j) hj =
      let next = count_split (strip g a (suc j * h)) (strip g a (j * h)) _ (λ p. and_left (eqb (p.0 / g) a) _ _ _ (below_next p.1 h j hp)) ps in
      omega (arith, one j hj, whole_intervals j (omega arith), next)

  at_least : (v j : ℕ) → j ≤ n → j * h ≤ v → j ≤ count_by (strip g a v) ps
  at_least v j hj le = omega (arith, whole_intervals j hj, count_under (strip g a (j * h)) (strip g a v) (λ p. grind (arith, nat_tests)) ps)

  at_most : (v j : ℕ) → j ≤ n → v ≤ j * h → count_by (strip g a v) ps ≤ j
  at_most v j hj le = omega (arith, whole_intervals j hj, count_under (strip g a v) (strip g a (j * h)) (λ p. grind (arith, nat_tests)) ps)

parity : (t : ℕ) → (2 * (t / 2) ≡ t) ⊎ (suc (2 * (t / 2)) ≡ t)
parity t = ⊎_elim (λ h. inl (omega arith)) (λ h. inr (omega arith)) (cases_lt (t % 2) 1)

-- a strip cut in part q holds q or q + 1 places
strip_off : (g n h k v q c : ℕ) → n * h ≡ 65536 → g * k ≡ 65536 * n → EndsIn v h n q → q ≤ c → c ≤ suc q → Off 1 c (k * (g * v))
strip_off g n h k v q c e f at few many =
    omega (arith, mul-le-mul_left n at.low, mul-le-mul_left n at.high, ap (λ z. q * z) e, ap (λ z. z * v) f)

-- a box between two that are a place apart: one of them is off by half of both at most
between : (m e f C D c k v t g u : ℕ) → e + f ≤ m + 1 → Off e C (k * (t * g * v)) → Off f D (k * (suc t * g * v)) → C ≤ c → c ≤ D → D ≤ C + 1 →
    EndsIn u g k t → k * g ≡ 65536 → v ≤ 65536 → Off ((m + 3) / 2) c (k * (u * v))
between m e f C D c k v t g u few p q low high one at whole v_high =
    let low' = mul-le-mul_right (k * v) at.low in
    let high' = mul-le-mul_right (k * v) at.high in
    let whole' = ap (λ z. z * v) whole in
    ⊎_elim (λ h. omega arith) (λ h. omega arith) (cases_lt e f)

module _ (m v : ℕ) (ps : List Place) (net : IsNet m ps) (v_low : 1 ≤ v) (v_high : v ≤ 65536) where
  -- the width of a strip of depth k
  abbrev width : ℕ → ℕ
  width k = 2 ^ (16 - k)

  -- the box of width u is off by e
  BoxOff : (e u : ℕ) → Type 0
  BoxOff e u = Off e (count_by (is_boxed u v) ps) (2 ^ m * (u * v))

  one_strip : (k a : ℕ) → k ≤ m → a < 2 ^ k → Off 1 (count_by (strip (width k) a v) ps) (2 ^ m * (width k * v)) × (count_by (strip (width k) a v) ps ≤ 2 ^ (m - k))
  one_strip k a hk ha =
      let r : ℕ = m - k in
      let hp = pow_pos (16 - r) in
      let e : 2 ^ r * 2 ^ (16 - r) ≡ 65536 = pow_sum r (16 - r) 16 (omega (arith, net.level)) in
      let f : 2 ^ (16 - k) * 2 ^ m ≡ 65536 * 2 ^ r = pow_sum (16 - k) m (16 + r) (omega (arith, net.level)) ∙ pow-add 2 16 r in
      let at = ends_in v (2 ^ (16 - r)) (2 ^ r) hp v_low (omega arith) in
      let one = λ (j : ℕ) (hj : j < 2 ^ r). net.one k a j hk ha hj in
      let least = at_least ps (width k) a (2 ^ (16 - r)) (2 ^ r) hp one v in
      let most = at_most ps (width k) a (2 ^ (16 - r)) (2 ^ r) hp one v in (
        strip_off (width k) (2 ^ r) (2 ^ (16 - r)) (2 ^ m) v _ _ e f at (least _ (omega (arith, at.within)) at.low) (most _ at.within at.high),
        most (2 ^ r) (omega arith) (omega arith),
      )

  next : (k t : ℕ) → count_by (is_boxed (suc t * width k) v) ps ≡ count_by (is_boxed (t * width k) v) ps + count_by (strip (width k) t v) ps
  next k t = count_split _ _ _ (λ p. and_right (ltb p.1 v) _ _ _ (below_next p.0 (width k) t (pow_pos (16 - k)))) ps

  forth : (k e t : ℕ) → k ≤ m → t < 2 ^ k → BoxOff e (t * width k) → BoxOff (e + 1) (suc t * width k)
  unfolding BoxOff
  forth k e t hk ht w = omega (arith, next k t, (one_strip k t hk ht).0)

  back : (k e t : ℕ) → k ≤ m → t < 2 ^ k → BoxOff e (suc t * width k) → BoxOff (e + 1) (t * width k)
  unfolding BoxOff
  back k e t hk ht w = omega (arith, next k t, (one_strip k t hk ht).0)

  empty_box : BoxOff 0 0
  unfolding BoxOff
  empty_box = omega (arith, count_zero (is_boxed 0 v) (λ p. grind (arith, nat_tests)) ps)

  -- the two ends of the strip t of depth k
  record Ends (k t : ℕ) : Type 0 where
    left : ℕ
    right : ℕ
    few : left + right ≤ k + 1
    at_left : BoxOff left (t * width k)
    at_right : BoxOff right (suc t * width k)

  -- a strip's halves share an end that is one half from either side
  halved : (k t : ℕ) → k < m → (width (suc k) * 2 ≡ width k) × (t * (width (suc k) * 2) ≡ t * width k)
  halved k t hk =
      let h : 2 ^ (16 - suc k) * 2 ≡ 2 ^ (16 - k) = pow_sum (16 - suc k) 1 (16 - k) (omega (arith, net.level)) in
      (h, ap (λ z. t * z) h)

  lower : (k t : ℕ) → k < m → t < 2 ^ k → Ends k t → Ends (suc k) (2 * t)
  lower k t hk ht p =
      let h = halved k t hk in
      record {
        left = p.left;
        right = p.right + 1;
        few = omega (arith, p.few);
        at_left = subst (BoxOff p.left) (omega (arith, h)) p.at_left;
        at_right = back (suc k) p.right (suc (2 * t)) hk (omega arith) (subst (BoxOff p.right) (omega (arith, h)) p.at_right);
      }

  upper : (k t : ℕ) → k < m → t < 2 ^ k → Ends k t → Ends (suc k) (suc (2 * t))
  upper k t hk ht p =
      let h = halved k t hk in
      record {
        left = p.left + 1;
        right = p.right;
        few = omega (arith, p.few);
        at_left = forth (suc k) p.left (2 * t) hk (omega arith) (subst (BoxOff p.left) (omega (arith, h)) p.at_left);
        at_right = subst (BoxOff p.right) (omega (arith, h)) p.at_right;
      }

  ends : (k t : ℕ) → k ≤ m → t < 2 ^ k → Ends k t
  ends zero t hk ht =
      let s : BoxOff 0 (t * 2 ^ 16) = subst (BoxOff 0) (omega arith) empty_box in
      record { left = 0; right = 1; few = omega arith; at_left = s; at_right = forth 0 0 t hk ht s }
  ends (suc k) t hk ht =
      let p = ends k (t / 2) (omega arith) (omega arith) in
      elim (parity t) [ inl even ↦ subst (Ends (suc k)) even (lower k (t / 2) hk (omega arith) p) | inr odd ↦ subst (Ends (suc k)) odd (upper k (t / 2) hk (omega arith) p) ]

  -- half of the depths would do
  box_off : (u : ℕ) → 1 ≤ u → u ≤ 65536 → BoxOff ((m + 3) / 2) u
  unfolding BoxOff
  box_off u u-low u-high =
      let g : ℕ = 2 ^ (16 - m) in
      let whole : 2 ^ m * 2 ^ (16 - m) ≡ 65536 = pow_sum m (16 - m) 16 (omega (arith, net.level)) in
      let t : ℕ = (u - 1) / g in
      let at = ends_in u g (2 ^ m) (pow_pos (16 - m)) u-low (omega arith) in
      let p = ends m t (omega arith) at.within in
      let none : m - m ≡ 0 = omega arith in
      let single : 2 ^ (m - m) ≡ 1 = ap (λ z. 2 ^ z) none in
      between m p.left p.right _ _ (count_by (is_boxed u v) ps) (2 ^ m) v t g u p.few p.at_left p.at_right
      (count_under (is_boxed (t * g) v) (is_boxed u v) (λ p. grind (arith, nat_tests, at.low)) ps)
      (count_under (is_boxed u v) (is_boxed (suc t * g) v) (λ p. grind (arith, nat_tests, at.high)) ps)
      (omega (arith, next m t, (one_strip m t (omega arith) at.within).1)) at whole v_high

pub box_shares : BoxShares
unfolding BoxOff
box_shares m u v ps net (u-low, u-high) (v_low, v_high) = omega (arith, box_off m v ps net v_low v_high u u-low u-high)
