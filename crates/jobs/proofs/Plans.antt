-- What the audit says of the places of a plan section.
use Rattle.std.proofs.Common.{◌≡◌, ◌≢◌, ap, ℕ, ◌*◌, ◌^◌, ◌≤◌, List, length, drop, length-drop, ◌∙◌, subst, inl, inr, refl, arith}
use Rattle.refusals.specs.Checks.{Passes, FirstTells}
use Rattle.nets.specs.declared.level.Level.{Level}
use Rattle.nets.specs.Places.{Place, IsNet}
use Rattle.audit.specs.declared.faults.NotNet.{NotNet}
use Rattle.audit.specs.declared.net_bytes.NetBytes.{NetBytes}
use Rattle.audit.specs.declared.place_bytes.PlaceBytes.{PlaceBytes}
use Rattle.audit.specs.Audits.{IsFirstEmpty, IsNoNet}
use Rattle.audit.specs.Bytes.{places_in}
use Rattle.audit.specs.Refusals.{net_told}
use Rattle.audit.proofs.Accepts.{not_refused}
use Rattle.jobs.specs.Checks.{plan_size, plan_checks}
use Rattle.jobs.specs.Inner.{IsNetAt, IsNoNetAt}
use Rattle.jobs.specs.declared.plan_section_fault.PointsAt.{PointsAt}
use Rattle.jobs.specs.Layout.{kind_byte, level_byte, listed_places}
use Rattle.jobs.specs.Refusals.{plan_told}
use Rattle.jobs.specs.declared.plan_section_fault.PlanSectionFault.TheVariants.{Points, Length}

-- places that the audit refuses have this first empty interval
first_empty : (m : ℕ) (ps : List Place) (e : NotNet) → IsNoNet m ps (net_told e) → IsFirstEmpty m ps e.depth e.interval
first_empty m ps e x =
    let d : x.d ≡ e.depth = cc in
    let n : x.n ≡ e.interval = cc in
    subst (λ z. IsFirstEmpty m ps z e.interval) d (subst (λ z. IsFirstEmpty m ps x.d z) n x.first)

-- as many places as the level has that the section says
module _ (start : ℕ) (bytes : List ℕ) (level : Level) (p : PlaceBytes) (kind : kind_byte bytes ≡ 2) (head : 2 ≤ length bytes) (says : level.m ≡ level_byte bytes) (same : p.level ≡ level) (rest : p.bytes.now ≡ drop 2 bytes) where
  is : p.level.m ≡ level_byte bytes
  is = ap (λ (l : Level). l.m) same ∙ says

  size : length bytes ≡ plan_size (kind_byte bytes) (level_byte bytes)
  size = let long : length (drop 2 bytes) ≡ 4 * 2 ^ level_byte bytes = cc (p.long, is, rest) in rw kind (omega (arith, long, length-drop 2 bytes))

  listed : places_in p.bytes.now ≡ listed_places bytes
  listed = cc (rest)

  pub points_pass : (net : NetBytes) → IsNetAt p net → Passes (plan_checks start bytes)
  unfolding plan_checks
  points_pass net x =
      let here : IsNet p.level.m (places_in p.bytes.now) = subst (λ (q : PlaceBytes). IsNet q.level.m (places_in q.bytes.now)) x.places net.net in
      ((omega arith, omega arith), ((head, omega (arith, p.level.low, is)), (size, ((λ _. subst (λ m. IsNet m (listed_places bytes)) is (subst (IsNet p.level.m) listed here)), tt))))

  pub points_refused : (e : PointsAt) → IsNoNetAt start p e → FirstTells (plan_checks start bytes) (plan_told (Points e))
  unfolding plan_checks
  points_refused e x =
      let here : IsNoNet (level_byte bytes) (listed_places bytes) (net_told e.fault) = subst (λ m. IsNoNet m (listed_places bytes) (net_told e.fault)) is (subst (λ ps. IsNoNet p.level.m ps (net_told e.fault)) listed x.none) in
      inr ((omega arith, omega arith), inr ((head, omega (arith, p.level.low, is)), inr (size, inl ((λ net. not_refused _ _ _ _ (net kind) here), (e.fault.depth, e.fault.interval, first_empty _ _ e.fault here, rw x.start_is refl)))))

-- another length
pub points_longer : (start : ℕ) (bytes : List ℕ) (level : Level) → kind_byte bytes ≡ 2 → 2 ≤ length bytes → level.m ≡ level_byte bytes → length (drop 2 bytes) ≢ 4 * 2 ^ level.m → FirstTells (plan_checks start bytes) (plan_told (Length start))
unfolding plan_checks
points_longer start bytes level kind head is other =
    let short : length bytes ≡ plan_size (kind_byte bytes) (level_byte bytes) → ⊥ = λ long. other (let e : length bytes ≡ plan_size 2 (level_byte bytes) = subst (λ k. length bytes ≡ plan_size k (level_byte bytes)) kind long in omega (arith, e, length-drop 2 bytes, ap (λ m. 2 ^ m) is)) in
    inr ((omega arith, omega arith), inr ((head, omega (arith, level.low, is)), inl (short, refl)))

pub ruleset points = (points_pass, points_refused, points_longer)
