-- Words of the crate's own parts. No public promise rests on them.
use Rattle.std.specs.Prelude.{◌≡◌, ℕ, List, drop, ⊤}
use Rattle.refusals.specs.Checks.{Passes, FirstTells}
use Rattle.audit.specs.declared.net_bytes.NetBytes.{NetBytes}
use Rattle.audit.specs.declared.place_bytes.PlaceBytes.{PlaceBytes}
use Rattle.audit.specs.Audits.{IsNoNet}
use Rattle.audit.specs.Bytes.{places_in}
use Rattle.audit.specs.Refusals.{net_told}
use Rattle.coats.specs.declared.faults.MapFault.{MapFault}
use Rattle.maps.specs.declared.map.MapKind.{MapKind}
use Rattle.plans.specs.declared.plan.Plan.{Plan}
use Rattle.plans.specs.declared.plan.PlanKind.{PlanKind}
use Rattle.plans.specs.declared.plan.PlanKind.TheVariants.{Hammersley, Sobol, Points}
use Rattle.jobs.specs.declared.job_file.Extent.{Extent}
use Rattle.jobs.specs.declared.map_section_fault.MapSectionFault.{MapSectionFault}
use Rattle.jobs.specs.declared.map_section_fault.MapSectionFault.TheVariants.{Rows}
use Rattle.jobs.specs.declared.plan_section_fault.PointsAt.{PointsAt}
use Rattle.jobs.specs.declared.plan_section.PlanSection.{PlanSection}
use Rattle.jobs.specs.declared.plan_section.PlanSection.TheVariants as of_section
use Rattle.jobs.specs.Checks.{HasShape, map_checks}
use Rattle.jobs.specs.Layout.{offset, size, kind_byte, level_byte, SaysPlan}
use Rattle.jobs.specs.Refusals.{rows_told}

-- the kinds of plan as bytes
abbrev pub plan_code : PlanKind → ℕ
plan_code Hammersley = 0
plan_code Sobol = 1
plan_code Points = 2

-- what pair k of the directory says
abbrev pub IsPair : (job : List ℕ) (k : ℕ) → Extent → Type 0
IsPair job k e = (e.off ≡ offset job k) × (e.len ≡ size job k)

-- the plan section of these bytes
abbrev pub SaysSection : List ℕ → PlanSection → Type 0
SaysSection bytes (of_section.Hammersley level) = (kind_byte bytes ≡ 0) × (level.m ≡ level_byte bytes)
SaysSection bytes (of_section.Sobol level) = (kind_byte bytes ≡ 1) × (level.m ≡ level_byte bytes)
SaysSection bytes (of_section.Points net) =
    (kind_byte bytes ≡ 2) × (net.places.level.m ≡ level_byte bytes) × (net.places.bytes.now ≡ drop 2 bytes)

-- what the audit finds of the places of a section
pub record IsNetAt (p : PlaceBytes) (net : NetBytes) : Type 0 where
  pub places : net.places ≡ p

pub record IsNoNetAt (start : ℕ) (p : PlaceBytes) (e : PointsAt) : Type 0 where
  pub start_is : e.start ≡ start
  pub none : IsNoNet p.level.m (places_in p.bytes.now) (net_told e.fault)

-- a plan says what each section says that it is of
pub record IsPlanOf (s : PlanSection) (p : Plan) : Type 0 where
  pub says : (bytes : List ℕ) → SaysSection bytes s → SaysPlan bytes p

-- and only a section with a list of places needs memory for one
pub record NeedsList (s : PlanSection) : Type 0 where
  pub listed : (bytes : List ℕ) → SaysSection bytes s → kind_byte bytes ≡ 2

-- the rows of a map section, wherever it starts: they pass, or their fault is the first that is not passed
abbrev pub AcceptsRowsOf : (bytes : List ℕ) → Type 0
AcceptsRowsOf bytes = (start : ℕ) → Passes (map_checks start bytes)

abbrev pub RefusesRowsOf : MapKind → (bytes : List ℕ) → MapFault → Type 0
RefusesRowsOf k bytes e = (start : ℕ) → FirstTells (map_checks start bytes) (rows_told start k e)

-- rows at fault are those of this section
abbrev pub TellsRowsOf : (start : ℕ) (bytes : List ℕ) → MapSectionFault → Type 0
TellsRowsOf start bytes (Rows e) = (e.start ≡ start) × HasShape e.kind bytes
TellsRowsOf start bytes _ = ⊤
