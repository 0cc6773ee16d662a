-- A plan with all three layers on it.
use Rattle.std.specs.Prelude.{◌≡◌, if◌then◌else◌, Some, None, Option}
use Rattle.layers.specs.declared.layer_numbers.LayerNumbers.{LayerNumbers}
use Rattle.layers.specs.declared.layered.Layered.{Layered}
use Rattle.layers.specs.declared.scramble.ScrambleLayer.{ScrambleLayer}
use Rattle.layers.specs.declared.shift.ShiftLayer.{ShiftLayer}
use Rattle.layers.specs.declared.swap.SwapLayer.{SwapLayer}
use Rattle.plans.specs.declared.plan.Plan.{Plan}

-- a plan of any kind with all three layers on it
abbrev pub PagePlan : Type 0
PagePlan = Layered (Layered (Layered Plan ShiftLayer) ScrambleLayer) (Option SwapLayer)

-- the plan with layers of these numbers on it: the shift, then the scramble, and then the swap or none
pub record HasLayers (ns : LayerNumbers) (p : Plan) (page : PagePlan) : Type 0 where
  pub below : page.plan.plan.plan ≡ p
  pub shift : (page.plan.plan.layer.s ≡ ns.s) × (page.plan.plan.layer.t ≡ ns.t)
  pub scramble : (page.plan.layer.x_word ≡ ns.x_word) × (page.plan.layer.y_word ≡ ns.y_word)
  pub swap : page.layer ≡ (if ns.swap then Some (record {}) else None)
