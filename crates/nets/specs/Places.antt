-- Places, elementary intervals, and (0,m,2)-nets in base two (Niederreiter, Random Number Generation
-- and Quasi-Monte Carlo Methods).
use Rattle.std.specs.Prelude.{◌≡◌, ℕ, ◌+◌, ◌-◌, ◌*◌, ◌/◌, ◌^◌, ◌<◌, ◌≤◌, Bool, ◌&&◌, List, length, All, count_by, ◌==◌}

-- a place (x, y); a coordinate, 0 to 65535, stands for itself / 65536
abbrev pub Place : Type 0
Place = ℕ × ℕ

abbrev pub IsOnPanel : Place → Type 0
IsOnPanel p = (p.0 < 2 ^ 16) × (p.1 < 2 ^ 16)

-- the number that the top d of a coordinate's 16 bits make; for a d over 16, x itself
abbrev pub top : (d x : ℕ) → ℕ
top d x = x / 2 ^ (16 - d)

-- the elementary interval (i, j) of depth d at level m:
-- the top d bits of x make i, and the top m - d bits of y make j
abbrev pub in_interval : (m d i j : ℕ) → Place → Bool
in_interval m d i j p = top d p.0 == i && top (m - d) p.1 == j

-- a net of level m: 2^m places, and at each depth one in each interval
pub record IsNet (m : ℕ) (ps : List Place) : Type 0 where
  pub level : m ≤ 12
  pub long : length ps ≡ 2 ^ m
  pub inside : All IsOnPanel ps
  pub one : (d i j : ℕ) → d ≤ m → i < 2 ^ d → j < 2 ^ (m - d) → count_by (in_interval m d i j) ps ≡ 1

-- the intervals of a depth are numbered, (i, j) by i * 2^(m - d) + j.
-- The number of the one in which a place lies
abbrev pub interval_number : (m d : ℕ) → Place → ℕ
interval_number m d p = top d p.0 * 2 ^ (m - d) + top (m - d) p.1

-- how many places the interval number n holds
unfoldable pub count_in : (m d n : ℕ) → List Place → ℕ
count_in m d n ps = count_by (λ p. interval_number m d p == n) ps
