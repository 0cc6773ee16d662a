-- The kinds of the pages that lines hand over.
use Rattle.std.specs.Prelude.{◌≡◌, ⊤}
use Rattle.maps.specs.declared.map.Map.{Map}
use Rattle.maps.specs.Kinds.{kind_of as map_kind}
use Rattle.pages.specs.Layers.{PagePlan}
use Rattle.plans.specs.Plans.{kind_of as plan_kind}
use Rattle.survey.specs.declared.call.Call.{Call}
use Rattle.survey.specs.declared.call.Call.TheVariants.{Begin, MapPage}
use Rattle.gauge.specs.declared.commands.Kinds.{Kinds}

-- a page that a call hands over is of these kinds, below its layers
abbrev pub IsOf : Kinds → Call PagePlan Map → Type 0
IsOf kinds (Begin p) = plan_kind p.plan.plan.plan ≡ kinds.plan
IsOf kinds (MapPage m) = map_kind m ≡ kinds.map
IsOf kinds _ = ⊤
