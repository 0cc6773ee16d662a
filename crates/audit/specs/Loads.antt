-- What loading a point list answers, and what the list then holds.
use Rattle.std.specs.Prelude.{◌≡◌, ℕ, ◌*◌, ◌^◌, ◌⊎◌, List, length, Ok, Err, vec_items, Result}
use Rattle.audit.specs.Bytes.{places_in}
use Rattle.nets.specs.Places.{IsNet}
use Rattle.refusals.specs.Told.{Told, no_memory}
use Rattle.audit.specs.declared.faults.LoadFault.{LoadFault}
use Rattle.audit.specs.declared.point_list.PointList.{PointList}
use Rattle.audit.specs.Audits.{IsExamined, RefusesBytes}
use Rattle.audit.specs.Refusals.{load_told}

-- n intervals were examined, and the list is the places that the bytes lay down
pub record LoadsPlaces (bytes : List ℕ) (n : ℕ) (list : PointList) : Type 0 where
  pub long : length bytes ≡ 4 * 2 ^ list.level.m
  pub places : vec_items list.places ≡ places_in bytes
  pub examined : IsExamined list.level.m (places_in bytes) n

-- want of memory, which is told of nets alone
pub record WantsMemory (bytes : List ℕ) (t : Told) : Type 0 where
  pub m : ℕ
  pub long : length bytes ≡ 4 * 2 ^ m
  pub net : IsNet m (places_in bytes)
  pub tells : t ≡ no_memory

-- loading replaces the list by an accepted one, or else leaves it as it was
abbrev pub Loads : (bytes : List ℕ) (old new : PointList) → Result ℕ LoadFault → Type 0
Loads bytes old new (Ok n) = LoadsPlaces bytes n new
Loads bytes old new (Err e) = (RefusesBytes bytes (load_told e) ⊎ WantsMemory bytes (load_told e)) × (new ≡ old)
