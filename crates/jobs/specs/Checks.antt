-- The table of refusals. Its checks run from the top, and a job is refused by the first that it does not pass.
use Rattle.std.specs.Prelude.{◌≡◌, ℕ, zero, suc, ◌+◌, ◌*◌, ◌^◌, ◌≤◌, ◌⊎◌, if◌then◌else◌, ◌==◌, List, [], ◌∷◌, ◌++◌, length, All, ⊤}
use Rattle.refusals.specs.Told.{Told, refused, no_memory}
use Rattle.refusals.specs.Checks.{Check, Passes, FirstTells}
use Rattle.nets.specs.Places.{IsNet}
use Rattle.audit.specs.Audits.{IsFirstEmpty}
use Rattle.coats.specs.declared.checks.TheConstants.{HEAVIEST}
use Rattle.coats.specs.Refusals.{IsFirstOut}
use Rattle.coats.specs.Terms.{weight_of}
use Rattle.boxes.specs.declared.boxes.TheConstants.{MOST_BOXES}
use Rattle.boxes.specs.Rows.{HasBoxBounds}
use Rattle.steps.specs.declared.steps.TheConstants.{MOST_STEPS}
use Rattle.steps.specs.Rows.{HasStepBounds}
use Rattle.maps.specs.declared.map.MapKind.{MapKind}
use Rattle.maps.specs.declared.map.MapKind.TheVariants.{Boxes, Steps, Cells}
use Rattle.jobs.specs.declared.job_file.TheConstants.{DIRECTORY_SIZE, LONGEST_JOB}
use Rattle.jobs.specs.Layout.{offset, stop, section, kind_byte, level_byte, listed_places, swap_byte, map_code, row_start, first_count, second_count, row_count, boxes_in, x_steps, y_steps, terms_in}

-- a check that tells a number, a section and a place
abbrev pub check : (number section place : ℕ) → Type 0 → Check
check number section place passed =
    record { Passed = passed; Tells = λ t. t ≡ refused number (section ∷ place ∷ []) }

-- a section begins after the directory and the section ahead of it, and ends within the file
abbrev pub IsInPlace : List ℕ → ℕ → Type 0
IsInPlace job zero = (DIRECTORY_SIZE ≤ offset job 0) × (stop job 0 ≤ length job)
IsInPlace job (suc k) =
    (DIRECTORY_SIZE ≤ offset job (suc k)) × (stop job k ≤ offset job (suc k)) × (stop job (suc k) ≤ length job)

abbrev pub directory_checks : (job : List ℕ) → List Check
directory_checks job =
    check 1 0 0 ((DIRECTORY_SIZE ≤ length job) × (length job ≤ LONGEST_JOB))
    ∷ check 2 0 0 (IsInPlace job 0)
    ∷ check 2 0 4 (IsInPlace job 1)
    ∷ check 2 0 8 (IsInPlace job 2)
    ∷ []

-- how long a plan section is: kind 2 has places
abbrev pub plan_size : (kind m : ℕ) → ℕ
plan_size k m = if k == 2 then 2 + 4 * 2 ^ m else 2

-- 13 tells the first empty interval too
abbrev pub net_check : (start : ℕ) (bytes : List ℕ) → Check
net_check start bytes = record {
  Passed = kind_byte bytes ≡ 2 → IsNet (level_byte bytes) (listed_places bytes);
  Tells =
      λ t. (d : ℕ) × (n : ℕ) × IsFirstEmpty (level_byte bytes) (listed_places bytes) d n
      × (t ≡ refused 13 (1 ∷ (start + 2) ∷ d ∷ n ∷ []));
}

-- of a section that starts at a byte of the file
unfoldable pub plan_checks : (start : ℕ) (bytes : List ℕ) → List Check
plan_checks start bytes =
    check 3 1 start ((1 ≤ length bytes) × (kind_byte bytes ≤ 2))
    ∷ check 4 1 (start + 1) ((2 ≤ length bytes) × (level_byte bytes ≤ 12))
    ∷ check 5 1 (start + 2) (length bytes ≡ plan_size (kind_byte bytes) (level_byte bytes))
    ∷ net_check start bytes
    ∷ []

unfoldable pub layer_checks : (start : ℕ) (bytes : List ℕ) → List Check
layer_checks start bytes = check 6 2 start ((length bytes ≡ 21) × (swap_byte bytes ≤ 1)) ∷ []

-- no more rows than a kind allows
abbrev pub HasFewRows : MapKind → List ℕ → Type 0
HasFewRows Boxes bytes = first_count bytes ≤ MOST_BOXES
HasFewRows Steps bytes = (first_count bytes ≤ MOST_STEPS) × (second_count bytes ≤ MOST_STEPS)
HasFewRows Cells bytes = ⊤

-- of a kind, with no more rows than it allows, and as long as they are
pub record HasShape (k : MapKind) (bytes : List ℕ) : Type 0 where
  pub kind : kind_byte bytes ≡ map_code k
  pub few : HasFewRows k bytes
  pub long : length bytes ≡ row_start k (row_count k bytes)

-- the rows of a kind are within their bounds, or one is the first out of them; any cell is within them
abbrev pub AllInBounds : MapKind → List ℕ → Type 0
AllInBounds Boxes bytes = All HasBoxBounds (boxes_in bytes)
AllInBounds Steps bytes = All HasStepBounds (x_steps bytes ++ y_steps bytes)
AllInBounds Cells bytes = ⊤

abbrev pub IsFirstOutAt : MapKind → List ℕ → (i : ℕ) → Type 0
IsFirstOutAt Boxes bytes i = IsFirstOut HasBoxBounds (boxes_in bytes) i
IsFirstOutAt Steps bytes i = IsFirstOut HasStepBounds (x_steps bytes ++ y_steps bytes) i
IsFirstOutAt Cells bytes i = ⊥

-- what holds of the kind that the section says
abbrev pub OfItsKind : List ℕ → (MapKind → Type 0) → Type 0
OfItsKind bytes P = (k : MapKind) → kind_byte bytes ≡ map_code k → P k

-- 8 tells the first byte of the first row out of its bounds
abbrev pub bounds_check : (start : ℕ) (bytes : List ℕ) → Check
bounds_check start bytes = record {
  Passed = OfItsKind bytes (λ k. AllInBounds k bytes);
  Tells =
      λ t. (k : MapKind) × (i : ℕ) × (kind_byte bytes ≡ map_code k) × IsFirstOutAt k bytes i
      × (t ≡ refused 8 (3 ∷ (start + row_start k i) ∷ []));
}

unfoldable pub map_checks : (start : ℕ) (bytes : List ℕ) → List Check
map_checks start bytes =
    check 7 3 start ((k : MapKind) × HasShape k bytes)
    ∷ bounds_check start bytes
    ∷ check 9 3 start (OfItsKind bytes (λ k. weight_of (terms_in k bytes) ≤ HEAVIEST))
    ∷ []

-- those of the sections of a job
abbrev pub plan_checks_of : (job : List ℕ) → List Check
plan_checks_of job = plan_checks (offset job 0) (section job 0)

abbrev pub layer_checks_of : (job : List ℕ) → List Check
layer_checks_of job = layer_checks (offset job 1) (section job 1)

abbrev pub map_checks_of : (job : List ℕ) → List Check
map_checks_of job = map_checks (offset job 2) (section job 2)

unfoldable pub checks : (job : List ℕ) → List Check
checks job = directory_checks job ++ (plan_checks_of job ++ (layer_checks_of job ++ map_checks_of job))

-- a job that passes all checks, and has a list of places, the only part of a job that needs memory
abbrev pub NeedsMemory : (job : List ℕ) → Type 0
NeedsMemory job = Passes (checks job) × (kind_byte (section job 0) ≡ 2)

-- what is told of a job that is not read: the first check that it does not pass, or want of memory
abbrev pub IsRefused : (job : List ℕ) → Told → Type 0
IsRefused job t = FirstTells (checks job) t ⊎ (NeedsMemory job × (t ≡ no_memory))
