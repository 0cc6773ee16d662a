-- What is proved of nets and maps.
use Rattle.std.specs.Prelude.{◌≡◌, ℕ, ◌+◌, ◌*◌, ◌^◌, ◌≤◌, List, take, All, count_by, ◌&&◌, ◌==◌}
use Rattle.std.specs.List.Sorted.{IsPermutation}
use Rattle.nets.specs.Places.{Place, IsOnPanel, IsNet}
use Rattle.coats.specs.declared.term.Term.{Term}
use Rattle.coats.specs.Terms.{IsSide, is_boxed, integral_of, IsMap}
use Rattle.radius.specs.Radius.{added, radius_after, Near, Agree}
use Rattle.radius.specs.Panel.{panel}

-- c places where a / 2^32 are due: off by e places at most
pub record Off (e c a : ℕ) : Type 0 where
  pub above : c * 2 ^ 32 ≤ a + e * 2 ^ 32
  pub below : a ≤ c * 2 ^ 32 + e * 2 ^ 32

-- a box of a net holds its share of the places, off by one for each depth at most
abbrev pub BoxShares : Type 0
BoxShares =
    (m u v : ℕ) (ps : List Place) → IsNet m ps → IsSide u → IsSide v →
    Off (m + 1) (count_by (is_boxed u v) ps) (2 ^ m * (u * v))

-- the sum over the first n places is within its radius of the truth
abbrev pub SumsNear : Type 0
SumsNear =
    (m n : ℕ) (ps : List Place) (ts : List Term) → IsNet m ps → IsMap ts →
    Near m ts (added ts (take n ps)) (radius_after m n ts)

-- two sums, of maps whose terms are the same up to order, agree within their radii
abbrev pub SumsAgree : Type 0
SumsAgree =
    (m n : ℕ) (ps : List Place) (ts : List Term) (m' n' : ℕ) (ps' : List Place) (ts' : List Term) →
    IsNet m ps → IsMap ts → IsNet m' ps' → IsMap ts' → IsPermutation ts ts' →
    Agree m m' (added ts (take n ps)) (added ts' (take n' ps'))
    (radius_after m n ts) (radius_after m' n' ts')

-- the coat added over all places of the panel is the integral: J / 2^32 is the mean coat
abbrev pub PanelAdds : Type 0
PanelAdds = (ts : List Term) → IsMap ts → added ts panel ≡ integral_of ts

-- the panel's list has each place of the panel once, and no other
pub record PanelWhole : Type 0 where
  pub inside : All IsOnPanel panel
  pub once : (p : Place) → IsOnPanel p → count_by (λ q. q.0 == p.0 && q.1 == p.1) panel ≡ 1
