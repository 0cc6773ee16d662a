-- What a map means: a list of terms, the coat that they give a place, and their weight.
use Rattle.std.specs.Prelude.{ℕ, ◌*◌, ◌≤◌, Bool, if◌then◌else◌, ◌&&◌, List, [], ◌∷◌, All, ℤ, pos, ◌+ℤ◌, ◌*ℤ◌, sum_by, nat_lt, unsigned_abs}
use Rattle.nets.specs.Places.{Place}
use Rattle.coats.specs.declared.term.Term.{Term}
use Rattle.coats.specs.declared.checks.TheConstants.{HEAVIEST, PANEL_SIDE}

abbrev pub term : (w : ℤ) (u v : ℕ) → Term
term w u v = record { w = w; u = u; v = v }

-- the sum of f over a list
abbrev pub sum_of : {X : Type 0} → (X → ℤ) → List X → ℤ
sum_of f [] = pos 0
sum_of f (x ∷ xs) = f x +ℤ sum_of f xs

-- the box of width u and height v: the places with x < u and y < v
abbrev pub is_boxed : (u v : ℕ) → Place → Bool
is_boxed u v p = nat_lt p.0 u && nat_lt p.1 v

-- what a term adds at a place
abbrev pub share_of : Place → Term → ℤ
share_of p t = if is_boxed t.u t.v p then t.w else pos 0

-- the coat at a place: w added over the terms in whose box it lies
abbrev pub coat_of : List Term → Place → ℤ
coat_of ts p = sum_of (share_of p) ts

-- W: |w| added over the terms
abbrev pub weight_of : List Term → ℕ
weight_of ts = sum_by (λ t. unsigned_abs t.w) ts

-- J: w * u * v added over the terms, 2^32 times the mean coat of the panel
abbrev pub integral_of : List Term → ℤ
integral_of ts = sum_of (λ t. t.w *ℤ pos (t.u * t.v)) ts

-- a width or height that a box may have
abbrev pub IsSide : ℕ → Type 0
IsSide n = (1 ≤ n) × (n ≤ PANEL_SIDE)

abbrev pub HasSides : Term → Type 0
HasSides t = IsSide t.u × IsSide t.v

-- terms that are a map: sides from 1 to 65536, and W at most 16384
pub record IsMap (ts : List Term) : Type 0 where
  pub sides : All HasSides ts
  pub light : weight_of ts ≤ HEAVIEST
