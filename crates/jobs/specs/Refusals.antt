-- What the faults of a job tell, and their text: number, section and place, and for 13 depth and interval.
-- A section is 1 for the plan, 2 for the layers, 3 for the map, and 0 for the directory. A place is a byte of
-- the file.
use Rattle.std.specs.Prelude.{ℕ, ◌+◌, ◌*◌, List, [], ◌∷◌, Some, None, Option, codes, decimal}
use Rattle.refusals.specs.Told.{Told, refused, no_memory}
use Rattle.refusals.specs.Texts.{text_of}
use Rattle.audit.specs.declared.faults.NotNet.{NotNet}
use Rattle.coats.specs.declared.faults.MapFault.{MapFault}
use Rattle.coats.specs.declared.faults.MapFault.TheVariants.{Count, Row, Weight}
use Rattle.maps.specs.declared.map.MapKind.{MapKind}
use Rattle.jobs.specs.declared.directory_fault.DirectoryFault.{DirectoryFault}
use Rattle.jobs.specs.declared.directory_fault.DirectoryFault.TheVariants.{Size, Pair}
use Rattle.jobs.specs.declared.plan_section_fault.PlanSectionFault.{PlanSectionFault}
use Rattle.jobs.specs.declared.plan_section_fault.PlanSectionFault.TheVariants.{Kind, Level, Length, Points}
use Rattle.jobs.specs.declared.layer_section_fault.LayerSectionFault.{LayerSectionFault}
use Rattle.jobs.specs.declared.map_section_fault.MapSectionFault.{MapSectionFault}
use Rattle.jobs.specs.declared.map_section_fault.MapSectionFault.TheVariants.{Layout, Rows}
use Rattle.jobs.specs.declared.job_fault.JobFault.{JobFault}
use Rattle.jobs.specs.declared.job_fault.JobFault.TheVariants as of_job
use Rattle.jobs.specs.declared.refusal.Refusal.{Refusal}
use Rattle.jobs.specs.Layout.{row_start}

-- 1: the file's length. 2: the pair of this number
abbrev pub directory_told : DirectoryFault → Told
directory_told Size = refused 1 (0 ∷ 0 ∷ [])
directory_told (Pair k) = refused 2 (0 ∷ (4 * k) ∷ [])

-- 3: kind. 4: level. 5: length. 13: not a net
abbrev pub plan_told : PlanSectionFault → Told
plan_told (Kind start) = refused 3 (1 ∷ start ∷ [])
plan_told (Level start) = refused 4 (1 ∷ (start + 1) ∷ [])
plan_told (Length start) = refused 5 (1 ∷ (start + 2) ∷ [])
plan_told (Points e) = refused 13 (1 ∷ (e.start + 2) ∷ e.fault.depth ∷ e.fault.interval ∷ [])

-- 6: length or swap byte
abbrev pub layers_told : LayerSectionFault → Told
layers_told e = refused 6 (2 ∷ e.0 ∷ [])

-- 7: too many rows, 8: a row out of its bounds, 9: the weight, of rows of this kind in a section that starts here
abbrev pub rows_told : (start : ℕ) → MapKind → MapFault → Told
rows_told start kind Count = refused 7 (3 ∷ start ∷ [])
rows_told start kind (Row i) = refused 8 (3 ∷ (start + row_start kind i) ∷ [])
rows_told start kind Weight = refused 9 (3 ∷ start ∷ [])

abbrev pub map_section_told : MapSectionFault → Told
map_section_told (Layout start) = refused 7 (3 ∷ start ∷ [])
map_section_told (Rows e) = rows_told e.start e.kind e.fault

abbrev pub job_told : JobFault → Told
job_told (of_job.Directory e) = directory_told e
job_told (of_job.Plan e) = plan_told e
job_told (of_job.Layers e) = layers_told e
job_told (of_job.Map e) = map_section_told e
job_told of_job.Memory = no_memory

-- the first empty interval, where there is one
abbrev pub empty_told : Option NotNet → List ℕ
empty_told None = []
empty_told (Some e) = e.depth ∷ e.interval ∷ []

-- what a refusal of the code tells
abbrev pub refusal_told : Refusal → Told
refusal_told r = refused r.number (r.section ∷ r.place ∷ empty_told r.empty)

-- depth and interval, where they are told
abbrev pub empty_text : List ℕ → List ℕ
empty_text (d ∷ i ∷ []) = text_of (codes " depth " ∷ decimal d ∷ codes " interval " ∷ decimal i ∷ [])
empty_text _ = []

-- section, place, and what else is told
abbrev pub values_text : List ℕ → List ℕ
values_text (s ∷ p ∷ rest) =
    text_of (codes " section " ∷ decimal s ∷ codes " place " ∷ decimal p ∷ empty_text rest ∷ [])
values_text _ = []

abbrev pub told_text : Told → List ℕ
told_text (refused n values) = text_of (codes "refused " ∷ decimal n ∷ values_text values ∷ [])
told_text no_memory = codes "out of memory"
