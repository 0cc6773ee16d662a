-- A net stays a net under each layer: no two of its places go into one interval.
use Rattle.std.proofs.Common.{◌≡◌, ℕ, ◌-◌, ◌^◌, ◌<◌, ◌≤◌, map, length, get_or, ◌∙◌, arith}
use lib.Bits.{bit_xor}
use lib.ListN.{length-map}
use Rattle.std.proofs.lemmas.List.{get_or-map, map-id}
use Rattle.std.proofs.lemmas.List.Elements.{All-get_or, All-map, All-weaker}
use Rattle.nets.specs.Places.{Place, IsOnPanel}
use Rattle.nets.proofs.Intervals.{Shares, net_from_apart, apart_from_net}
use Rattle.layers.specs.Layers.{KeepsNets, shift_of, scramble_of, scramble_place, swap_of}
use Rattle.layers.proofs.Prefixes.{Keeps, shift_keeps, scramble_keeps}

-- places whose images share an interval of depth d share one of some depth
abbrev Parts : (m : ℕ) → (Place → Place) → Type 0
Parts m f = (d : ℕ) (p q : Place) → d ≤ m → IsOnPanel p → IsOnPanel q → Shares m d (f p) (f q) → (e : ℕ) × (e ≤ m) × Shares m e p q

net_mapped : (f : Place → Place) → ((p : Place) → IsOnPanel p → IsOnPanel (f p)) → ((m : ℕ) → m ≤ 12 → Parts m f) → KeepsNets f
net_mapped f on parts m ps net =
    net_from_apart m (map f ps) net.level (length-map ps f ∙ net.long) (All-map IsOnPanel f ps (All-weaker IsOnPanel (λ p. IsOnPanel (f p)) on ps net.inside))
    (λ d hd j k hj hk s.
    let hj' : j < length ps = omega (arith, length-map ps f) in
    let hk' : k < length ps = omega (arith, length-map ps f) in
    let at = λ (i : ℕ) (h : i < length ps). get_or-map f ps i (0, 0) (0, 0) h in
    let o = parts m net.level d (get_or ps j (0, 0)) (get_or ps k (0, 0)) hd (All-get_or IsOnPanel ps j (0, 0) hj' net.inside) (All-get_or IsOnPanel ps k (0, 0) hk' net.inside) (rw (at j hj', at k hk') at s) in
    apart_from_net m ps net o.0 o.1 j k hj' hk' o.2)

-- a map of each coordinate
net_by_coordinates : (f g : ℕ → ℕ) → Keeps f → Keeps g → KeepsNets (λ p. (f p.0, g p.1))
net_by_coordinates f g F G =
    net_mapped (λ p. (f p.0, g p.1)) (λ p h. (F.below p.0 h.0, G.below p.1 h.1))
    (λ m low d p q hd hp hq s. (d, hd, record { x = F.tops d p.0 q.0 (omega arith) hp.0 hq.0 s.x; y = G.tops (m - d) p.1 q.1 (omega arith) hp.1 hq.1 s.y }))

pub net_shifted : (s t : ℕ) → s < 2 ^ 16 → t < 2 ^ 16 → KeepsNets (shift_of s t)
net_shifted s t hs ht = net_by_coordinates (λ x. bit_xor x s) (λ y. bit_xor y t) (shift_keeps s hs) (shift_keeps t ht)

pub net_scrambled : (v w : ℕ) → KeepsNets (scramble_place v w)
net_scrambled v w = net_by_coordinates (scramble_of v) (scramble_of w) (scramble_keeps v) (scramble_keeps w)

pub net_swapped : KeepsNets swap_of
net_swapped =
    net_mapped swap_of (λ p h. (h.1, h.0))
    (λ m low d p q hd hp hq s. let back : m - (m - d) ≡ d = omega arith in (m - d, omega arith, record { x = s.y; y = rw back s.x }))

pub net_kept : KeepsNets (λ p. p)
net_kept m ps net = rw (map-id ps) net
