-- A sum over the first places of a net, term by term: each term costs its box's error and the places
-- that are not taken. Two sums near one integral are near each other.
use Rattle.std.proofs.Common.{◌≡◌, ℕ, suc, ◌+◌, ◌-◌, ◌*◌, ◌^◌, List, [], ◌∷◌, take, ℤ, pos, negsuc, ◌*ℤ◌, nat_abs, count_by, sum_by, sym, ap, ◌∙◌, subst, add-mul, mul-le-mul_left, mul-add, arith}
use borrow.Author.Differences.{product_is}
use Rattle.std.specs.List.{All}
use Rattle.std.proofs.lemmas.Int.{ints}
use Rattle.std.proofs.lemmas.List.Elements.{All-head, All-tail}
use Rattle.std.proofs.lemmas.List.Sums.{sum_by-cons}
use Rattle.nets.specs.Places.{Place, IsNet}
use Rattle.coats.specs.declared.term.Term.{Term}
use Rattle.coats.specs.Terms.{is_boxed, weight_of, integral_of, HasSides, IsMap}
use Rattle.coats.proofs.Sums.{sum_of_shuffled}
use Rattle.radius.specs.Radius.{added, radius_after}
use Rattle.radius.specs.Claims.{Off, SumsNear, SumsAgree}
use Rattle.radius.proofs.Counts.{count_take}
use Rattle.radius.proofs.Strips.{box_shares}
use Rattle.radius.proofs.Panel.{added_none, added_term, panel_adds}
use Rattle.radius.proofs.Closeness.{Close, close_sum, close_two, near_of}

-- one term of weight w, on c places where k * a are due
close_term : (k e c a : ℕ) (w : ℤ) → Off e c (k * a) → Close k (e * nat_abs w * 2 ^ 32) (w *ℤ pos c) (w *ℤ pos a)
close_term k e c a (pos n) h = omega (arith, ints, mul-le-mul_left n h.above, mul-le-mul_left n h.below)
close_term k e c a (negsuc n) h =
    let p = product_is (negsuc n) (pos a) in
    omega (arith, ints, ap (λ z. k * z) p.0, ap (λ z. k * z) p.1, mul-le-mul_left (suc n) h.above, mul-le-mul_left (suc n) h.below)

module _ (m n : ℕ) (ps : List Place) (net : IsNet m ps) (err : Term → ℕ) (shares : (t : Term) → HasSides t → Off (err t) (count_by (is_boxed t.u t.v) ps) (2 ^ m * (t.u * t.v))) where
  -- what terms cost
  abbrev cost : Term → ℕ
  cost t = (err t + (2 ^ m - n)) * nat_abs t.w

  close : (ts : List Term) → All HasSides ts → Close (2 ^ m) (sum_by cost ts * 2 ^ 32) (added ts (take n ps)) (integral_of ts)
  close [] all = rw (added_none (take n ps)) (omega arith)
  close (t ∷ ts) all =
      let c : ℕ = count_by (is_boxed t.u t.v) (take n ps) in
      let part : Off (err t + (2 ^ m - n)) c (2 ^ m * (t.u * t.v)) = omega (arith, shares t (All-head HasSides t ts all), net.long, count_take (is_boxed t.u t.v) n ps) in
      let both = close_sum _ _ _ _ _ _ _ (close_term (2 ^ m) (err t + (2 ^ m - n)) c (t.u * t.v) t.w part) (close ts (All-tail HasSides t ts all)) in
      rw (added_term t ts (take n ps), sum_by-cons cost t ts) (omega (arith, both))

sum_by_times : (c : ℕ) (ts : List Term) → sum_by (λ t. c * nat_abs t.w) ts ≡ c * weight_of ts
sum_by_times c [] = omega arith
sum_by_times c (t ∷ ts) =
    sum_by-cons (λ (t : Term). c * nat_abs t.w) t ts
    ∙ (let rest = sum_by_times c ts in let q = mul-add c (nat_abs t.w) (weight_of ts) in rw (sum_by-cons (λ (t : Term). nat_abs t.w) t ts) (omega arith))

-- with one place for each depth the cost is the radius
close_radius : (m n : ℕ) (ps : List Place) (ts : List Term) → IsNet m ps → IsMap ts → Close (2 ^ m) (radius_after m n ts * 2 ^ 32) (added ts (take n ps)) (integral_of ts)
close_radius m n ps ts net map =
    let e : sum_by (λ (t : Term). (m + 1 + (2 ^ m - n)) * nat_abs t.w) ts ≡ radius_after m n ts = sum_by_times (m + 1 + (2 ^ m - n)) ts ∙ add-mul (m + 1) (2 ^ m - n) (weight_of ts) in
    subst (λ (r : ℕ). Close (2 ^ m) (r * 2 ^ 32) (added ts (take n ps)) (integral_of ts)) e (close m n ps net (λ _. m + 1) (λ t s. box_shares m t.u t.v ps net s.0 s.1) ts map.sides)

pub sums_near : SumsNear
sums_near m n ps ts net map = rw (panel_adds ts map) (near_of _ _ _ _ (close_radius m n ps ts net map))

pub sums_agree : SumsAgree
sums_agree m n ps ts m' n' ps' ts' net map net' map' same =
    close_two (2 ^ m) (2 ^ m') (radius_after m n ts) (radius_after m' n' ts') _ _ (integral_of ts) (close_radius m n ps ts net map)
    (subst (Close (2 ^ m') (radius_after m' n' ts' * 2 ^ 32) (added ts' (take n' ps'))) (sym (sum_of_shuffled (λ (t : Term). t.w *ℤ pos (t.u * t.v)) ts ts' same)) (close_radius m' n' ps' ts' net' map'))
