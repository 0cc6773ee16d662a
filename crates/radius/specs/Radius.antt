-- The sum of a map over places, and how far it may be from the truth.
use Rattle.std.specs.Prelude.{ℕ, ◌+◌, ◌-◌, ◌*◌, ◌^◌, ◌≤◌, List, ℤ, pos, ◌-ℤ◌, ◌*ℤ◌, unsigned_abs}
use Rattle.nets.specs.Places.{Place}
use Rattle.coats.specs.declared.term.Term.{Term}
use Rattle.coats.specs.Terms.{sum_of, coat_of, weight_of}
use Rattle.radius.specs.Panel.{panel}

-- the coat added over places
abbrev pub added : List Term → List Place → ℤ
added ts ps = sum_of (coat_of ts) ps

-- what the depths of a net of level m cost a sum over all of it
abbrev pub depth_cost : (m : ℕ) → List Term → ℕ
depth_cost m ts = (m + 1) * weight_of ts

-- and what the places cost that are not among the first n
abbrev pub rest_cost : (m n : ℕ) → List Term → ℕ
rest_cost m n ts = (2 ^ m - n) * weight_of ts

-- R: how far the sum over the first n places may be from the truth
abbrev pub radius_after : (m n : ℕ) → List Term → ℕ
radius_after m n ts = depth_cost m ts + rest_cost m n ts

-- the sum s over places of a net of level m is within r of the truth, 2^m times the mean coat:
-- 2^m / 2^32 of the coat added over all places of the panel
abbrev pub Near : (m : ℕ) → List Term → (s : ℤ) (r : ℕ) → Type 0
Near m ts s r = unsigned_abs (s *ℤ pos (2 ^ 32) -ℤ pos (2 ^ m) *ℤ added ts panel) ≤ r * 2 ^ 32

-- two sums s and s', over places of nets of levels m and m', agree within their radii
abbrev pub Agree : (m m' : ℕ) (s s' : ℤ) (r r' : ℕ) → Type 0
Agree m m' s s' r r' =
    unsigned_abs (s *ℤ pos (2 ^ m') -ℤ s' *ℤ pos (2 ^ m)) ≤ r * 2 ^ m' + r' * 2 ^ m
