-- A life begins as a gauge is opened, and goes on with each call.
use Rattle.std.proofs.Common.{[], ◌∷◌, Some, None, Option}
use Rattle.std.proofs.Math.Logic.{∥∥₁_elim}
use Rattle.nets.specs.declared.net.Net.{Ghosts as Nets}
use Rattle.coats.specs.declared.coat_map.CoatMap.{Ghosts as Maps}
use Rattle.survey.specs.Setups.{setup_of}
use Rattle.survey.specs.Promise.{Lives}
use Rattle.survey.specs.Surveys.{Opens}
use Rattle.survey.specs.Gauges.{answer_of, call_of, Asks, AskLives}
use Rattle.survey.specs.declared.call.Answer.{Answer}
use Rattle.survey.specs.declared.call.Call.{Call}
use Rattle.survey.specs.declared.gauge.After.{After}
use Rattle.survey.specs.declared.gauge.Gauge.{Gauge}
use Rattle.survey.specs.declared.gauge.Gauge.TheVariants as at
use Rattle.survey.specs.declared.survey.Survey.{Survey}
use Rattle.hosts.specs.Keepers.{Life, HasLife}

module _ {P M : Type 0} {nets : Nets P} {maps : Maps M} where
  pub life_begins : Lives → (p : P) (m : M) (s : Survey P M nets maps) → Opens p m s → HasLife (at.Survey s)
  life_begins lives p m s opens = ∣ (setup_of nets maps p m, [], rw opens.state (lives.begins _ opens.is_setup)) ∣₁

  life_by : (g : Gauge P M nets maps) (c : Call P M) (a : Option Answer) (to : Gauge P M nets maps) → Asks g c (record { gauge = to; answer = a }) → AskLives g c (record { gauge = to; answer = a }) → Life g → Life to
  life_by g c None to rule _ life = rw rule life
  life_by g c (Some a) to rule lives (o, h, at) = (o, (call_of nets maps c, answer_of a) ∷ h, lives o h at)

  pub lives_on : (g : Gauge P M nets maps) (c : Call P M) (r : After P M nets maps) → Asks g c r → AskLives g c r → HasLife g → HasLife r.gauge
  lives_on g c r rule lives life = ∥∥₁_elim life squash₁ (λ x. ∣ life_by g c r.answer r.gauge rule lives x ∣₁)
