-- A line whose call the gauge is asked.
use Rattle.std.proofs.Common.{◌≡◌, ℕ, Some, None, Ok, Option, refl}
use Rattle.maps.specs.declared.map.Map.{Map}
use Rattle.survey.specs.Gauges.{Asks, AskSteps, AskLives}
use Rattle.survey.specs.declared.call.Answer.{Answer}
use Rattle.survey.specs.declared.call.Call.{Call}
use Rattle.hosts.specs.declared.keeper.Keeper.{Keeper}
use Rattle.pages.specs.Layers.{PagePlan}
use Rattle.gauge.specs.Commands.{verb_of}
use Rattle.gauge.specs.Kinds.{IsOf}
use Rattle.gauge.specs.Lines.{reply_to}
use Rattle.gauge.specs.Sessions.{Calls, Hears, Obeys}
use Rattle.gauge.specs.declared.commands.Kinds.{Kinds}
use Rattle.gauge.specs.declared.commands.Verb.{Verb}
use Rattle.gauge.specs.declared.reply.Reply.{Reply}
use Rattle.gauge.specs.declared.reply.Reply.TheVariants as reply
use Rattle.gauge.specs.declared.sessions.Obeyed.{Obeyed}
use Rattle.gauge.specs.declared.sessions.Session.{Session}
use Rattle.gauge.specs.declared.sessions.Session.TheVariants.{Open}

-- whether the call is allowed or not, the line has its answer
pub asked : (v : Verb) (kinds : Kinds) (old new : Keeper PagePlan Map _ _) (c : Call PagePlan Map) (a : Option Answer) → v ≡ verb_of c → IsOf kinds c → Asks old.gauge c (record { gauge = new.gauge; answer = a }) → AskSteps old.gauge c (record { gauge = new.gauge; answer = a }) → AskLives old.gauge c (record { gauge = new.gauge; answer = a }) → Obeys v (Open kinds old) (record { session = Open kinds new; outcome = Ok (reply_to a) })
asked v kinds old new c (Some a) same of rule step life = (c, same, (of, Some a, refl, refl, rule, step, life))
asked v kinds old new c None same of rule step life = (c, same, (of, None, refl, refl, rule, step, life))

told_of : (number : ℕ) (v : Verb) (old : Session) (r : Reply) (new : Session) → Calls v old r new → Hears number old (Some r) new
told_of number v old (reply.Wrong _ _) new h = absurd h
told_of number v old reply.Plan new h = (v, h)
told_of number v old reply.Opened new h = (v, h)
told_of number v old (reply.Answer _) new h = (v, h)
told_of number v old reply.NotAllowed new h = (v, h)

-- the answer of a command is that of its line
pub told : (number : ℕ) (v : Verb) (old : Session) (o : Obeyed) (r : Reply) → o.outcome ≡ Ok r → Obeys v old o → Hears number old (Some r) o.session
told number v old o r is h = let calls : Calls v old r o.session = rw is at h in told_of number v old r o.session calls
