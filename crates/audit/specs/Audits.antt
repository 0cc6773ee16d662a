-- What the audit answers.
use Rattle.std.specs.Prelude.{◌≡◌, ◌≢◌, ℕ, ◌+◌, ◌*◌, ◌^◌, ◌<◌, ◌≤◌, ◌⊎◌, List, [], ◌∷◌, length, Some, None, Ok, Err, Option, Result}
use Rattle.audit.specs.Bytes.{places_in}
use Rattle.nets.specs.Places.{Place, IsNet, count_in}
use Rattle.refusals.specs.Told.{Told, refused}
use Rattle.audit.specs.declared.net_bytes.NetBytes.{NetBytes}
use Rattle.audit.specs.declared.place_bytes.PlaceBytes.{PlaceBytes}
use Rattle.audit.specs.declared.faults.AuditFault.{AuditFault}
use Rattle.audit.specs.declared.faults.NotNet.{NotNet}
use Rattle.audit.specs.Refusals.{net_told, audit_told}

-- n is each * 2^m for no level m
abbrev pub IsNoLevel : (each n : ℕ) → Type 0
IsNoLevel each n = (m : ℕ) → m ≤ 12 → n ≢ each * 2 ^ m

-- the first number below n that is clear, where all before it are full
abbrev pub FirstClear : (n : ℕ) (full clear : ℕ → Type 0) → Option ℕ → Type 0
FirstClear n full clear None = (k : ℕ) → k < n → full k
FirstClear n full clear (Some i) = (i < n) × clear i × ((k : ℕ) → k < i → full k)

-- the first empty interval of depth d, if there is one
abbrev pub FirstEmptyAt : (m d : ℕ) → List Place → Option ℕ → Type 0
FirstEmptyAt m d ps = FirstClear (2 ^ m) (λ k. 1 ≤ count_in m d k ps) (λ k. count_in m d k ps ≡ 0)

-- d is the smallest depth that has an empty interval, and n the smallest empty number there
pub record IsFirstEmpty (m : ℕ) (ps : List Place) (d n : ℕ) : Type 0 where
  pub depth : d ≤ m
  pub smallest : FirstEmptyAt m d ps (Some n)
  pub shallowest : (e : ℕ) → e < d → FirstEmptyAt m e ps None

-- refused with 12: the length is no level's
pub record HasWrongLength (each n : ℕ) (t : Told) : Type 0 where
  pub never : IsNoLevel each n
  pub tells : t ≡ refused 12 (n ∷ [])

-- refused with 13: 2^m places that are no net
pub record IsNoNet (m : ℕ) (ps : List Place) (t : Told) : Type 0 where
  pub d : ℕ
  pub n : ℕ
  pub level : m ≤ 12
  pub long : length ps ≡ 2 ^ m
  pub first : IsFirstEmpty m ps d n
  pub tells : t ≡ refused 13 (d ∷ n ∷ [])

-- a net is accepted with the number of its intervals at all depths, (m + 1) * 2^m
pub record IsExamined (m : ℕ) (ps : List Place) (n : ℕ) : Type 0 where
  pub net : IsNet m ps
  pub all : n ≡ (m + 1) * 2 ^ m

-- what the audit of 2^m places answers
abbrev pub Judges : (m : ℕ) → List Place → Result ℕ NotNet → Type 0
Judges m ps (Ok n) = IsExamined m ps n
Judges m ps (Err e) = IsNoNet m ps (net_told e)

abbrev pub Audits : List Place → Result ℕ AuditFault → Type 0
Audits ps (Ok n) = (m : ℕ) × IsExamined m ps n
Audits ps (Err e) = HasWrongLength 1 (length ps) (audit_told e) ⊎ ((m : ℕ) × IsNoNet m ps (audit_told e))

-- of bytes that lay down places, four to a place
abbrev pub RefusesBytes : List ℕ → Told → Type 0
RefusesBytes bytes t =
    HasWrongLength 4 (length bytes) t ⊎ ((m : ℕ) × (length bytes ≡ 4 * 2 ^ m) × IsNoNet m (places_in bytes) t)

abbrev pub AuditsBytes : List ℕ → Result NetBytes AuditFault → Type 0
AuditsBytes bytes (Ok net) =
    (net.places.bytes.now ≡ bytes) × IsExamined net.places.level.m (places_in bytes) net.intervals
AuditsBytes bytes (Err e) = RefusesBytes bytes (audit_told e)

-- of bytes that are known to be as many as a level's places have
abbrev pub AuditsPlaces : PlaceBytes → Result NetBytes NotNet → Type 0
AuditsPlaces p (Ok net) = (net.places ≡ p) × IsExamined p.level.m (places_in p.bytes.now) net.intervals
AuditsPlaces p (Err e) = IsNoNet p.level.m (places_in p.bytes.now) (net_told e)
