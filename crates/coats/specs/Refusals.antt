-- What the refusals of rows tell, their texts, and when each is told.
use Rattle.std.specs.Prelude.{◌≡◌, ℕ, ◌<◌, ◌≤◌, ◌⊎◌, List, [], ◌∷◌, ◌++◌, length, All, codes, decimal}
use Rattle.std.specs.List.{HoldsAt, AllWithin}
use Rattle.refusals.specs.Told.{Told, refused}
use Rattle.coats.specs.declared.term.Term.{Term}
use Rattle.coats.specs.Terms.{weight_of}
use Rattle.coats.specs.declared.faults.MapFault.{MapFault}
use Rattle.coats.specs.declared.checks.TheConstants.{HEAVIEST}
use Rattle.coats.specs.declared.faults.MapFault.TheVariants as of_map

-- 7: too many rows. 8: a row is out of its bounds; its number. 9: the weight is over 16,384
abbrev pub map_told : MapFault → Told
map_told of_map.Count = refused 7 (0 ∷ [])
map_told (of_map.Row i) = refused 8 (i ∷ [])
map_told of_map.Weight = refused 9 (0 ∷ [])

abbrev pub map_text : MapFault → List ℕ
map_text of_map.Count = codes "refused 7"
map_text (of_map.Row i) = codes "refused 8 row " ++ decimal i
map_text of_map.Weight = codes "refused 9"

-- the first row that is out of its bounds, with its number
pub record IsFirstOut {R : Type 0} (Bounds : R → Type 0) (rows : List R) (i : ℕ) : Type 0 where
  pub here : i < length rows
  pub out : HoldsAt Bounds rows i → ⊥
  pub before : AllWithin Bounds rows 0 i

-- rows that a map may have: not too many, each within its bounds, and W at most 16384
pub record IsGood {R : Type 0} (Few : Type 0) (Bounds : R → Type 0) (rows : List R) (ts : List Term) : Type 0 where
  pub few : Few
  pub bounds : All Bounds rows
  pub light : weight_of ts ≤ HEAVIEST

-- there are more rows than the kind allows
pub record IsTooMany (Few : Type 0) (t : Told) : Type 0 where
  pub many : Few → ⊥
  pub tells : t ≡ refused 7 (0 ∷ [])

pub record IsOutOfBounds {R : Type 0} (Bounds : R → Type 0) (rows : List R) (t : Told) : Type 0 where
  pub i : ℕ
  pub first : IsFirstOut Bounds rows i
  pub tells : t ≡ refused 8 (i ∷ [])

pub record IsTooHeavy (ts : List Term) (t : Told) : Type 0 where
  pub heavy : HEAVIEST < weight_of ts
  pub tells : t ≡ refused 9 (0 ∷ [])

-- the first fault of rows: too many, or one out of its bounds, or too heavy
abbrev pub RefusesRows :
    {R : Type 0} (Few : Type 0) (Bounds : R → Type 0) (rows : List R) (ts : List Term) (t : Told) → Type 0
RefusesRows Few Bounds rows ts t =
    IsTooMany Few t
    ⊎ (Few × IsOutOfBounds Bounds rows t)
    ⊎ (Few × All Bounds rows × IsTooHeavy ts t)
