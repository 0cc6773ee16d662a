-- What the place call of a plan answers.
use Rattle.std.specs.Prelude.{◌≡◌, ℕ, ◌^◌, ◌<◌, ◌≤◌, List, [], ◌∷◌, IfOk, Ok, Err, Result, slice_index_or}
use Rattle.nets.specs.declared.faults.PlaceFault.{PlaceFault}
use Rattle.nets.specs.Places.{Place}
use Rattle.nets.specs.Refusals.{place_told}
use Rattle.refusals.specs.Told.{refused}

-- at level m an index is below 2^m, or else it is refused with 11
abbrev pub ChecksIndex : {X : Type 0} → (m i : ℕ) → Result X PlaceFault → Type 0
ChecksIndex m i (Ok _) = i < 2 ^ m
ChecksIndex m i (Err e) = (2 ^ m ≤ i) × (place_told e ≡ refused 11 (i ∷ []))

-- the place call answers the place at an index
abbrev pub GivesPlace : (m : ℕ) (ps : List Place) (i : ℕ) → Result Place PlaceFault → Type 0
GivesPlace m ps i r = ChecksIndex m i r × IfOk r (λ p. p ≡ slice_index_or ps i (0, 0))
