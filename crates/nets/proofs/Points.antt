-- The points of a formula, by index, and when they are a net.
use Rattle.std.proofs.Common.{◌≡◌, ℕ, ◌^◌, ◌<◌, ◌≤◌, List, length, get_or, sym, ◌∙◌, mod-eq_of_lt, arith}
use Rattle.std.proofs.lemmas.List.FromFn.{length-map-range_with_len, get_or-map-range_with_len}
use Rattle.std.proofs.lemmas.List.Elements.{All-from_get_or}
use Rattle.nets.specs.Digits.{digit}
use Rattle.nets.specs.Places.{Place, IsOnPanel, IsNet}
use Rattle.nets.specs.Points.{points_of}
use Rattle.nets.proofs.Intervals.{Shares, net_from_apart}
use Rattle.nets.proofs.Words.{digits_same}

-- the points f m 0, f m 1, .., f m (2^m - 1)
module _ (f : ℕ → ℕ → Place) (m : ℕ) where
  pub point_at : (i : ℕ) → i < 2 ^ m → get_or (points_of f m) i (0, 0) ≡ f m i
  point_at i h = get_or-map-range_with_len (f m) 0 (2 ^ m) i i (0, 0) h (omega arith)

  -- are a net, if two in one interval have one index
  pub net_from_points : m ≤ 12 → ((i : ℕ) → i < 2 ^ m → IsOnPanel (f m i)) → ((d i j : ℕ) → d ≤ m → i < 2 ^ m → j < 2 ^ m → Shares m d (f m i) (f m j) → i ≡ j)
      → IsNet m (points_of f m)
  net_from_points hm inside apart =
      let ps : List Place = points_of f m in
      let long : length ps ≡ 2 ^ m = length-map-range_with_len (f m) 0 (2 ^ m) in
      net_from_apart m ps hm long
      (All-from_get_or IsOnPanel ps (0, 0) (λ i h. let l : i < 2 ^ m = omega arith in rw (point_at i l) (inside i l)))
      (λ d hd j k hj hk s. let l : j < 2 ^ m = omega arith in let q : k < 2 ^ m = omega arith in apart d j k hd l q (rw (point_at j l, point_at k q) at s))

-- an index below 2^m is its m digits
pub index_same : (m i j : ℕ) → i < 2 ^ m → j < 2 ^ m → ((r : ℕ) → r < m → digit i r ≡ digit j r) → i ≡ j
index_same m i j hi hj h = sym (mod-eq_of_lt hi) ∙ digits_same m i j h ∙ mod-eq_of_lt hj
