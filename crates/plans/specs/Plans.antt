-- What a plan of any kind means.
use Rattle.std.specs.Prelude.{ℕ, List, Bool, true, false, vec_items}
use Rattle.nets.specs.Places.{Place}
use Rattle.sequences.specs.Sequences.{hammersley_net, sobol_net}
use Rattle.plans.specs.declared.plan.Plan.{Plan}
use Rattle.plans.specs.declared.plan.Plan.TheVariants.{Hammersley, Sobol, Points}
use Rattle.plans.specs.declared.plan.PlanKind.{PlanKind}
use Rattle.plans.specs.declared.plan.PlanKind.TheVariants as kind

abbrev pub kind_of : Plan → PlanKind
kind_of (Hammersley p) = kind.Hammersley
kind_of (Sobol p) = kind.Sobol
kind_of (Points p) = kind.Points

abbrev pub level_of : Plan → ℕ
level_of (Hammersley p) = p.level.m
level_of (Sobol p) = p.level.m
level_of (Points p) = p.level.m

abbrev pub places_of : Plan → List Place
places_of (Hammersley p) = hammersley_net p.level.m
places_of (Sobol p) = sobol_net p.level.m
places_of (Points p) = vec_items p.places

-- whether the plan counts the rounds in which it makes a place
abbrev pub counts_of : Plan → Bool
counts_of (Hammersley p) = false
counts_of (Sobol p) = true
counts_of (Points p) = false
