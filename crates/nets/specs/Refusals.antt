-- What the refusals of a plan and of its making tell: their numbers, values and texts.
use Rattle.std.specs.Prelude.{◌≡◌, ℕ, ◌<◌, ◌≤◌, List, [], ◌∷◌, ◌++◌, Ok, Err, Result, codes, decimal}
use Rattle.refusals.specs.Told.{Told, refused}
use Rattle.nets.specs.declared.faults.PlaceFault.{PlaceFault}
use Rattle.nets.specs.declared.faults.PlaceFault.TheVariants.{NoPlace}
use Rattle.nets.specs.declared.faults.LevelFault.{LevelFault}
use Rattle.nets.specs.declared.faults.LevelFault.TheVariants.{TooHigh}

-- 11: there is no such place; the index
abbrev pub place_told : PlaceFault → Told
place_told (NoPlace i) = refused 11 (i ∷ [])

abbrev pub place_text : PlaceFault → List ℕ
place_text (NoPlace i) = codes "refused 11 place " ++ decimal i

-- 4: the level is over 12; the level
abbrev pub level_told : LevelFault → Told
level_told (TooHigh m) = refused 4 (m ∷ [])

abbrev pub level_text : LevelFault → List ℕ
level_text (TooHigh m) = codes "refused 4 level " ++ decimal m

-- something of level m, or a refusal with 4 if m is over 12
abbrev pub MakesLevel : {P : Type 0} → (level : P → ℕ) (m : ℕ) → Result P LevelFault → Type 0
MakesLevel level m (Ok p) = (m ≤ 12) × (level p ≡ m)
MakesLevel level m (Err e) = (12 < m) × (level_told e ≡ refused 4 (m ∷ []))
