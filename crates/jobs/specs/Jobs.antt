-- What reading a job answers, and what the recipe then is.
use Rattle.std.specs.Prelude.{◌≡◌, ℕ, false, List, [], ◌∷◌, Ok, Err, Result, ⊤}
use Rattle.refusals.specs.Told.{no_memory}
use Rattle.refusals.specs.Checks.{Passes}
use Rattle.maps.specs.declared.map.MapKind.TheVariants.{Boxes}
use Rattle.maps.specs.Kinds.{terms_of}
use Rattle.maps.specs.Kinds.{kind_of as map_kind_of}
use Rattle.plans.specs.declared.plan.PlanKind.TheVariants.{Hammersley}
use Rattle.plans.specs.Plans.{kind_of, level_of, places_of}
use Rattle.jobs.specs.Checks.{HasShape, checks, IsRefused}
use Rattle.jobs.specs.Layout.{offset, section, SaysPlan, SaysLayers, SaysMap}
use Rattle.jobs.specs.Refusals.{job_told}
use Rattle.jobs.specs.declared.job_fault.JobFault.{JobFault}
use Rattle.jobs.specs.declared.job_fault.JobFault.TheVariants.{Map}
use Rattle.jobs.specs.declared.map_section_fault.MapSectionFault.TheVariants.{Rows}
use Rattle.jobs.specs.declared.recipe.Recipe.{Recipe}

-- a job that passes all checks, and the recipe that its bytes say
pub record IsJob (job : List ℕ) (r : Recipe) : Type 0 where
  pub passes : Passes (checks job)
  pub plan : SaysPlan (section job 0) r.plan
  pub layers : SaysLayers (section job 1) r.layers
  pub map : SaysMap (section job 2) r.map

-- a job is parsed to its recipe, and any other is refused
abbrev pub Parses : (job : List ℕ) → Result Recipe JobFault → Type 0
Parses job (Ok r) = IsJob job r
Parses job (Err e) = IsRefused job (job_told e)

-- a job is read into the recipe; any other is refused, and leaves it as it was
abbrev pub Reads : (job : List ℕ) (old new : Recipe) → {X : Type 0} → Result X JobFault → Type 0
Reads job old new (Ok _) = IsJob job new
Reads job old new (Err e) = IsRefused job (job_told e) × (new ≡ old)

-- rows at fault are those of the map section, by its start and its kind
abbrev pub TellsRows : (job : List ℕ) → JobFault → Type 0
TellsRows job (Map (Rows e)) = (e.start ≡ offset job 2) × HasShape e.kind (section job 2)
TellsRows job _ = ⊤

-- a job that passes all checks is read, unless memory is wanting
abbrev pub Accepts : (job : List ℕ) → {X : Type 0} → Result X JobFault → Type 0
Accepts job (Ok _) = ⊤
Accepts job (Err e) = Passes (checks job) → job_told e ≡ no_memory

-- as a recipe begins: Hammersley's level 0, with the one place (0, 0), no layer that moves it, and no boxes
pub record IsBlank (r : Recipe) : Type 0 where
  pub plan_kind : kind_of r.plan ≡ Hammersley
  pub level : level_of r.plan ≡ 0
  pub places : places_of r.plan ≡ (0, 0) ∷ []
  pub map_kind : map_kind_of r.map ≡ Boxes
  pub layers : r.layers ≡ record { s = 0; t = 0; x_word = 0; y_word = 0; swap = false }
  pub map : terms_of r.map ≡ []
