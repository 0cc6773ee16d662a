-- The worked figures hold.
use Rattle.std.proofs.Common.{◌≡◌, ℕ, zero, suc, ◌^◌, ◌<◌, ◌≤◌, pow_mono, rules, [], ◌∷◌, refl, MatchResult, Result, Ok, Err, inl, inr, arith, subst, sym, ap, ◌∙◌}
use Rattle.nets.specs.Digits.{IsBitLength}
use Rattle.nets.specs.Places.{Place, IsNet, count_in}
use Rattle.nets.specs.Plans.{GivesPlace}
use Rattle.nets.specs.Refusals.{place_told}
use Rattle.refusals.specs.Told.{refused}
use Rattle.nets.specs.declared.faults.PlaceFault.{PlaceFault}
use Rattle.nets.proofs.Intervals.{same_level}
use Rattle.audit.specs.Audits.{IsFirstEmpty, Audits}
use Rattle.audit.specs.Refusals.{audit_told}
use Rattle.audit.specs.declared.faults.AuditFault.{AuditFault}
use Rattle.sequences.specs.Sequences.{hammersley_net}
use Rattle.sequences.proofs.AreNets.{hammersley_is_net}
use Rattle.coats.specs.Terms.{IsMap}
use Rattle.boxes.specs.Rows.{boxes_terms}
use Rattle.survey.specs.Setups.{IsSetup}
use Rattle.survey.specs.Life.{Call, Answer, answer, State, after, Allowed, BringsPage, IsStep, Lived}
use Rattle.worked_figures.specs.Figures.{Figures, quarter, quarter_map, grid, plan, opening, two_takes, refused_change}

past : (r : Result Place PlaceFault) → GivesPlace 2 (hammersley_net 2) 4 r → MatchResult r (λ _. ⊥) (λ e. place_told e ≡ refused 11 (4 ∷ []))
past (Ok p) h = omega (arith, h.0)
past (Err e) h = h.0.1

grid_empty : count_in 2 0 1 grid ≡ 0
unfolding count_in
grid_empty = refl

grid_full : count_in 2 0 0 grid ≡ 2
unfolding count_in
grid_full = refl

grid_no_net : IsNet 2 grid → ⊥
grid_no_net net = omega (arith, net.one 0 0 1 (omega arith) (omega arith) (omega arith))

grid_first : (d n : ℕ) → IsFirstEmpty 2 grid d n → (d ≡ 0) × (n ≡ 1)
grid_first (suc d) n first = absurd (omega (arith, first.shallowest 0 (omega arith) 1 (omega arith), grid_empty))
grid_first zero zero first = omega (arith, first.smallest.1, grid_full)
grid_first zero (suc zero) first = (refl, refl)
grid_first zero (suc (suc n)) first = absurd (omega (arith, first.smallest.2 1 (omega arith), grid_empty))

refused_grid : (r : Result ℕ AuditFault) → Audits grid r → MatchResult r (λ _. ⊥) (λ e. audit_told e ≡ refused 13 (0 ∷ 1 ∷ []))
refused_grid (Ok n) (m, x) = grid_no_net (subst (λ k. IsNet k grid) (same_level m 2 (sym x.net.long)) x.net)
refused_grid (Err e) (inl w) = absurd (w.never 2 (omega arith) (omega arith))
refused_grid (Err e) (inr (m, x)) =
    let first : IsFirstEmpty 2 grid x.d x.n = subst (λ k. IsFirstEmpty k grid x.d x.n) (same_level m 2 (sym x.long)) x.first in
    let is = grid_first x.d x.n first in
    x.tells ∙ ap (λ d. refused 13 (d ∷ x.n ∷ [])) is.0 ∙ ap (λ n. refused 13 (0 ∷ n ∷ [])) is.1

-- whoever reaches a power of two reaches those below it
reached : (i n k : ℕ) → k ≤ n → 2 ^ n ≤ i → 2 ^ k ≤ i
reached i n k l h = let p : 2 ^ k ≤ 2 ^ n = pow_mono l in omega (arith, p)

quarter_is_map : IsMap (boxes_terms (quarter ∷ []))
quarter_is_map = record { sides = search rules; light = omega arith }

recipe : IsSetup opening
recipe = record { plan = hammersley_is_net 2 (omega arith); map = quarter_is_map }

-- a call, allowed and answered by the rules
step : {c : Call} {a : Answer} {s : State} → Allowed s.stage c → BringsPage c → a ≡ answer s c → IsStep c a s (after c a s)
step ok page at = record { allowed = ok; page = page; answers = at; leads = refl }

takes : Lived opening two_takes
takes = ((((recipe, step refl tt refl), step refl tt refl), step refl tt refl), step refl tt refl)

change : Lived opening refused_change
change = (((((((recipe, step refl tt refl), step refl tt refl), step refl tt refl), step refl (hammersley_is_net 3 (omega arith)) refl), step (plan 3, refl) quarter_is_map refl), step (plan 3, quarter_map, refl) tt refl), step refl tt refl)

pub figures : Figures
figures = record {
  limits = record { most_places = refl; panel_side = refl; heaviest = refl; most_boxes = refl; most_steps = refl; first_limit = refl };
  hammersley_2 = refl;
  past_the_last = past;
  sobol_2 = refl;
  sobol_3 = refl;
  rounds_0 = record { reaches = λ k h. absurd (omega arith); below = omega arith };
  rounds_5 = record { reaches = λ k h. reached 5 2 k (omega arith) (omega arith); below = omega arith };
  rounds_4095 = record { reaches = λ k h. reached 4095 11 k (omega arith) (omega arith); below = omega arith };
  scramble_low = refl;
  scramble_high = refl;
  shift = refl;
  quarter_weight = refl;
  quarter_inside = refl;
  quarter_outside = refl;
  half_weight = refl;
  grid_refused = refused_grid;
  takes = takes;
  change = change;
}
