-- A gauge along its life.
use Rattle.nets.specs.declared.net.Net.{Ghosts as Nets}
use Rattle.coats.specs.declared.coat_map.CoatMap.{Ghosts as Maps}
use Rattle.survey.specs.Setups.{Setup}
use Rattle.survey.specs.Life.{History}
use Rattle.survey.specs.Promise.{ComesTo}
use Rattle.survey.specs.Surveys.{Opens}
use Rattle.survey.specs.Gauges.{gauge_state}
use Rattle.survey.specs.declared.gauge.Gauge.{Gauge}
use Rattle.survey.specs.declared.gauge.Gauge.TheVariants.{Survey}

module _ {P M : Type 0} {nets : Nets P} {maps : Maps M} where
  -- a life that has come to the gauge, with the promise
  abbrev pub Life : Gauge P M nets maps → Type 0
  Life g = (o : Setup) × (h : History) × ComesTo o h (gauge_state g)

  -- there is one
  abbrev pub HasLife : Gauge P M nets maps → Type 0
  HasLife g = ∥ Life g ∥₁

  -- a gauge as it is opened
  abbrev pub IsOpen : P → M → Gauge P M nets maps → Type 0
  IsOpen p m (Survey s) = Opens p m s
  IsOpen p m _ = ⊥
