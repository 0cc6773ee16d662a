-- Nets by their intervals' numbers, and nets whose places lie apart.
use Rattle.std.proofs.Common.{◌≡◌, ℕ, ◌+◌, ◌-◌, ◌*◌, ◌/◌, ◌%◌, ◌^◌, ◌<◌, ◌≤◌, true, ◌&&◌, eqb, List, length, get_or, count_by, sym, refl, ap, ◌∙◌, ⊎_elim, div-add-mod', arith, pow_pos, pow-add}
use Rattle.std.specs.List.{All}
use Rattle.std.proofs.lemmas.Nat.{mul-add-lt, div-mul-add, mod-mul-add, mod_below, div_below, pow_below}
use Rattle.std.proofs.lemmas.List.Elements.{All-get_or, All-weaker}
use Rattle.std.proofs.lemmas.Bool.{eqb-true, eq-eqb, and_from, cases_order}
use Rattle.std.proofs.lemmas.Bool.Decides.{nat_tests}
use Rattle.nets.specs.Sums.{total}
use Rattle.nets.specs.Places.{Place, IsOnPanel, top, in_interval, IsNet, interval_number, count_in}
use Rattle.nets.proofs.Counts.{spread, total_ones, total_squeeze, count_lone, lone_count, count_same}

pub pow_sum : (i j n : ℕ) → i + j ≡ n → 2 ^ i * 2 ^ j ≡ 2 ^ n
pow_sum i j n e = sym (pow-add 2 i j) ∙ ap (λ z. 2 ^ z) e

pub top_below : (d x : ℕ) → d ≤ 16 → x < 2 ^ 16 → top d x < 2 ^ d
top_below d x hd h = div_below x (2 ^ (16 - d)) (2 ^ d) (pow_pos (16 - d)) (omega (arith, pow_sum d (16 - d) 16 (omega arith)))

pub number_below : (m d : ℕ) (p : Place) → m ≤ 12 → d ≤ m → IsOnPanel p → interval_number m d p < 2 ^ m
number_below m d p hm hd h =
    omega (
      arith,
      mul-add-lt (top d p.0) (2 ^ (m - d)) (top (m - d) p.1) (2 ^ d) (top_below d p.0 (omega arith) h.0) (top_below (m - d) p.1 (omega arith) h.1),
      pow_sum (m - d) d m (omega arith),
    )

-- a number below w beside a multiple of w: both are told by the sum
digits : (x y i j w : ℕ) → y < w → j < w → x * w + y ≡ i * w + j → (x ≡ i) × (y ≡ j)
digits x y i j w hy hj e =
    (sym (div-mul-add x w y hy) ∙ ap (λ z. z / w) e ∙ div-mul-add i w j hj, sym (mod-mul-add x w y hy) ∙ ap (λ z. z % w) e ∙ mod-mul-add i w j hj)

pub told : (x y i j w : ℕ) → y < w → j < w → (eqb x i && eqb y j) ≡ eqb (x * w + y) (i * w + j)
told x y i j w hy hj = let d = digits x y i j w hy hj in grind (arith, nat_tests)

module _ (m d : ℕ) (ps : List Place) (hm : m ≤ 12) (hd : d ≤ m) (inside : All IsOnPanel ps) where
  -- an interval's count, by its number
  pub by_number : (i j : ℕ) → j < 2 ^ (m - d) → count_by (in_interval m d i j) ps ≡ count_in m d (i * 2 ^ (m - d) + j) ps
  unfolding count_in
  by_number i j hj =
      count_same IsOnPanel (in_interval m d i j) (λ p. eqb (interval_number m d p) (i * 2 ^ (m - d) + j))
      (λ p h. told (top d p.0) (top (m - d) p.1) i j (2 ^ (m - d)) (top_below (m - d) p.1 (omega arith) h.1) hj) ps inside

  pub all_numbers : length ps ≡ 2 ^ m → total (2 ^ m) (λ n. count_in m d n ps) ≡ 2 ^ m
  unfolding count_in
  all_numbers long = spread (interval_number m d) (2 ^ m) ps (All-weaker IsOnPanel (λ p. interval_number m d p < 2 ^ m) (λ p h. number_below m d p hm hd h) ps inside) ∙ long

-- two places in one interval of depth d
pub record Shares (m d : ℕ) (p q : Place) : Type 0 where
  pub x : top d p.0 ≡ top d q.0
  pub y : top (m - d) p.1 ≡ top (m - d) q.1

-- no two places of the list are in one interval of depth d
abbrev pub Apart : (m d : ℕ) → List Place → Type 0
Apart m d ps = (j k : ℕ) → j < length ps → k < length ps → Shares m d (get_or ps j (0, 0)) (get_or ps k (0, 0)) → j ≡ k

module _ (m : ℕ) (ps : List Place) (hm : m ≤ 12) (long : length ps ≡ 2 ^ m) (inside : All IsOnPanel ps) where
  net_by_numbers : ((d : ℕ) → d ≤ m → (n : ℕ) → n < 2 ^ m → count_in m d n ps ≡ 1) → IsNet m ps
  net_by_numbers one =
      record {
        level = hm;
        long = long;
        inside = inside;
        one = λ d i j hd hi hj. by_number m d ps hm hd inside i j hj
            ∙ one d hd (i * 2 ^ (m - d) + j) (omega (arith, mul-add-lt i (2 ^ (m - d)) j (2 ^ d) hi hj, pow_sum (m - d) d m (omega arith)));
      }

  -- the counts of a depth's 2^m intervals add up to 2^m: a list none of whose intervals is empty is a net
  pub net_from_held : ((d n : ℕ) → d ≤ m → n < 2 ^ m → 1 ≤ count_in m d n ps) → IsNet m ps
  net_from_held hit =
      net_by_numbers (λ d hd n hn. sym (total_squeeze (λ _. 1) (λ n. count_in m d n ps) (2 ^ m) (λ n. hit d n hd) (total_ones (2 ^ m) ∙ sym (all_numbers m d ps hm hd inside long)) n hn))

  number_shares : (d : ℕ) → d ≤ m → (n j k : ℕ) → j < length ps → k < length ps → eqb (interval_number m d (get_or ps j (0, 0))) n ≡ true → eqb (interval_number m d (get_or ps k (0, 0))) n ≡ true → Shares m d (get_or ps j (0, 0)) (get_or ps k (0, 0))
  number_shares d hd n j k hj hk a b =
      let p : Place = get_or ps j (0, 0) in
      let q : Place = get_or ps k (0, 0) in
      let below = λ (r : Place) (h : IsOnPanel r). top_below (m - d) r.1 (omega arith) h.1 in
      let s = digits (top d p.0) (top (m - d) p.1) (top d q.0) (top (m - d) q.1) (2 ^ (m - d)) (below p (All-get_or IsOnPanel ps j (0, 0) hj inside)) (below q (All-get_or IsOnPanel ps k (0, 0) hk inside)) (eqb-true _ _ a ∙ sym (eqb-true _ _ b)) in
      record { x = s.0; y = s.1 }

  -- and so is one whose places lie apart
  pub net_from_apart : ((d : ℕ) → d ≤ m → Apart m d ps) → IsNet m ps
  unfolding count_in
  net_from_apart apart =
      net_by_numbers
      (λ d hd. total_squeeze (λ n. count_in m d n ps) (λ _. 1) (2 ^ m)
      (λ n hn. count_lone (λ p. eqb (interval_number m d p) n) (0, 0) ps (λ j k hj hk a b. apart d hd j k hj hk (number_shares d hd n j k hj hk a b)))
      (all_numbers m d ps hm hd inside long ∙ sym (total_ones (2 ^ m))))

-- the places of a net lie apart
pub apart_from_net : (m : ℕ) (ps : List Place) → IsNet m ps → (d : ℕ) → d ≤ m → Apart m d ps
apart_from_net m ps net d hd j k hj hk s =
    let p : Place = get_or ps j (0, 0) in
    let q : Place = get_or ps k (0, 0) in
    let at : IsOnPanel q = All-get_or IsOnPanel ps k (0, 0) hk net.inside in
    lone_count (in_interval m d (top d q.0) (top (m - d) q.1)) (0, 0) ps
    (omega (arith, net.one d (top d q.0) (top (m - d) q.1) hd (top_below d q.0 (omega (arith, net.level)) at.0) (top_below (m - d) q.1 (omega (arith, net.level)) at.1)))
    j k hj hk
    (and_from _ _ (eq-eqb _ _ s.x) (eq-eqb _ _ s.y))
    (and_from _ _ (eq-eqb (top d q.0) _ refl) (eq-eqb (top (m - d) q.1) _ refl))

-- each numbered interval of a net holds one place
pub held_from_net : (m : ℕ) (ps : List Place) → IsNet m ps → (d n : ℕ) → d ≤ m → n < 2 ^ m → count_in m d n ps ≡ 1
held_from_net m ps net d n hd hn =
    let w : ℕ = 2 ^ (m - d) in
    let i : n / w < 2 ^ d = div_below n w (2 ^ d) (pow_pos (m - d)) (omega (arith, pow_sum d (m - d) m (omega arith))) in
    let j : n % w < w = mod_below n w (pow_pos (m - d)) in
    ap (λ z. count_in m d z ps) (sym (div-add-mod' n w)) ∙ sym (by_number m d ps net.level hd net.inside (n / w) (n % w) j) ∙ net.one d (n / w) (n % w) hd i j

-- a list has one level
pub same_level : (m k : ℕ) → 2 ^ m ≡ 2 ^ k → m ≡ k
same_level m k e = ⊎_elim (λ q. q) (⊎_elim (λ (l : m < k). absurd (omega (arith, pow_below m k l))) (λ (l : k < m). absurd (omega (arith, pow_below k m l)))) (cases_order m k)
