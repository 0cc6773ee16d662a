-- The worked figures.
use Rattle.std.specs.Prelude.{◌≡◌, ℕ, List, [], ◌∷◌, pos, MatchResult, Result}
use Rattle.nets.specs.declared.level.TheConstants.{MOST_PLACES}
use Rattle.nets.specs.Digits.{IsBitLength}
use Rattle.nets.specs.Places.{Place}
use Rattle.nets.specs.Plans.{GivesPlace}
use Rattle.nets.specs.Refusals.{place_told}
use Rattle.refusals.specs.Told.{refused}
use Rattle.nets.specs.declared.faults.PlaceFault.{PlaceFault}
use Rattle.audit.specs.Audits.{Audits}
use Rattle.audit.specs.Refusals.{audit_told}
use Rattle.audit.specs.declared.faults.AuditFault.{AuditFault}
use Rattle.sequences.specs.Sequences.{hammersley_net, sobol, sobol_net}
use Rattle.layers.specs.Layers.{shift_of, scramble_of}
use Rattle.coats.specs.Terms.{coat_of, weight_of}
use Rattle.coats.specs.declared.checks.TheConstants.{HEAVIEST, PANEL_SIDE}
use Rattle.boxes.specs.declared.boxes.TheConstants.{MOST_BOXES}
use Rattle.boxes.specs.declared.row.BoxRow.{BoxRow}
use Rattle.boxes.specs.Rows.{boxes_terms}
use Rattle.steps.specs.declared.steps.TheConstants.{MOST_STEPS}
use Rattle.survey.specs.declared.costs.TheConstants.{FIRST_LIMIT}
use Rattle.survey.specs.Setups.{Plan, Map, Setup}
use Rattle.survey.specs.Life.{History, Lived, take_next, report, set_limit, begin, map_page, commit, counted, reported, limited, begun, paged, refusal}

-- the box of weight 3 on the places with x and y below 32768
abbrev pub quarter : BoxRow
quarter = record { x0 = 0; x1 = 32768; y0 = 0; y1 = 32768; w = pos 3 }

-- a strip of weight 5, from x = 16384 to 49152
abbrev pub half : BoxRow
half = record { x0 = 16384; x1 = 49152; y0 = 0; y1 = 65536; w = pos 5 }

-- a square grid, which is no net
abbrev pub grid : List Place
grid = (0, 0) ∷ (0, 32768) ∷ (32768, 0) ∷ (32768, 32768) ∷ []

-- Hammersley's plan of a level
abbrev pub plan : (m : ℕ) → Plan
plan m = record { level = m; places = hammersley_net m }

-- the map of the first box
abbrev pub quarter_map : Map
quarter_map = record { terms = boxes_terms (quarter ∷ []) }

-- Hammersley at level 2, and the first box
abbrev pub opening : Setup
opening = record { plan = plan 2; map = quarter_map }

-- one place taken and then the other three, each with its report; the newest call is first
abbrev pub two_takes : History
two_takes =
    (report, reported 2 4 (pos 3) 9)
    ∷ (take_next 3, counted 4)
    ∷ (report, reported 2 1 (pos 3) 18)
    ∷ (take_next 1, counted 1)
    ∷ []

-- after the first place, a limit of 8 and of 9, and a change to level 3 that is refused
abbrev pub refused_change : History
refused_change =
    (report, reported 2 1 (pos 3) 18)
    ∷ (commit, refusal (refused 24 (12 ∷ [])))
    ∷ (map_page quarter_map, paged)
    ∷ (begin (plan 3), begun)
    ∷ (set_limit 9, limited)
    ∷ (set_limit 8, refusal (refused 23 (9 ∷ [])))
    ∷ (take_next 1, counted 1)
    ∷ []

-- the limits
pub record Limits : Type 0 where
  pub most_places : MOST_PLACES ≡ 4096
  pub panel_side : PANEL_SIDE ≡ 65536
  pub heaviest : HEAVIEST ≡ 16384
  pub most_boxes : MOST_BOXES ≡ 32
  pub most_steps : MOST_STEPS ≡ 16
  pub first_limit : FIRST_LIMIT ≡ 212992

pub record Figures : Type 0 where
  pub limits : Limits
  pub hammersley_2 : hammersley_net 2 ≡ (0, 0) ∷ (16384, 32768) ∷ (32768, 16384) ∷ (49152, 49152) ∷ []
  pub past_the_last :
      (r : Result Place PlaceFault) → GivesPlace 2 (hammersley_net 2) 4 r →
      MatchResult r (λ _. ⊥) (λ e. place_told e ≡ refused 11 (4 ∷ []))
  pub sobol_2 : sobol_net 2 ≡ (0, 0) ∷ (32768, 32768) ∷ (16384, 49152) ∷ (49152, 16384) ∷ []
  pub sobol_3 : sobol 3 5 ≡ (40960, 8192)
  pub rounds_0 : IsBitLength 0 0
  pub rounds_5 : IsBitLength 5 3
  pub rounds_4095 : IsBitLength 4095 12
  pub scramble_low : scramble_of 4 0 ≡ 16384
  pub scramble_high : scramble_of 4 32768 ≡ 32768
  pub shift : shift_of 1 65535 (0, 0) ≡ (1, 65535)
  pub quarter_weight : weight_of (boxes_terms (quarter ∷ [])) ≡ 3
  pub quarter_inside : coat_of (boxes_terms (quarter ∷ [])) (32767, 0) ≡ pos 3
  pub quarter_outside : coat_of (boxes_terms (quarter ∷ [])) (32768, 0) ≡ pos 0
  pub half_weight : weight_of (boxes_terms (half ∷ [])) ≡ 10
  pub grid_refused :
      (r : Result ℕ AuditFault) → Audits grid r → MatchResult r (λ _. ⊥) (λ e. audit_told e ≡ refused 13 (0 ∷ 1 ∷ []))
  pub takes : Lived opening two_takes
  pub change : Lived opening refused_change
