-- What a line does to a session, and what it is answered.
use Rattle.std.specs.Prelude.{◌≡◌, ◌≢◌, ⊤, ℕ, Some, None, Option, MatchResult}
use Rattle.maps.specs.Kinds.{kind_of as map_kind}
use Rattle.maps.specs.declared.map.Map.{Map}
use Rattle.survey.specs.Gauges.{Asks, AskSteps, AskLives}
use Rattle.survey.specs.declared.call.Answer.{Answer}
use Rattle.survey.specs.declared.call.Call.{Call}
use Rattle.hosts.specs.Keepers.{IsOpen}
use Rattle.pages.specs.Layers.{PagePlan}
use Rattle.pages.specs.declared.fault.PageFault.TheVariants.{Memory, Words}
use Rattle.gauge.specs.Commands.{verb_of}
use Rattle.gauge.specs.Kinds.{IsOf}
use Rattle.gauge.specs.Lines.{reply_to}
use Rattle.gauge.specs.declared.commands.Verb.{Verb}
use Rattle.gauge.specs.declared.commands.Verb.TheVariants as verb
use Rattle.gauge.specs.declared.lines.Line.{Line}
use Rattle.gauge.specs.declared.lines.Line.TheVariants.{Passed, TooLong, NotText, Text}
use Rattle.gauge.specs.declared.reply.Reply.{Reply}
use Rattle.gauge.specs.declared.reply.Reply.TheVariants as reply
use Rattle.gauge.specs.declared.sessions.Obeyed.{Obeyed}
use Rattle.gauge.specs.declared.sessions.Session.{Session}
use Rattle.gauge.specs.declared.sessions.Session.TheVariants.{New, Planned, Open}
use Rattle.gauge.specs.declared.unreadable.Unreadable.TheVariants as fault
use Rattle.gauge.specs.declared.unreadable.Unreadable.TheVariants.{Page}

-- the gauge is asked a call of the kinds that were opened, and the line has its answer: by the call's rule, as a
-- step of a life, and each life that has come to the gauge goes on with the promise whole
abbrev pub IsAsked : Call PagePlan Map → Session → Reply → Session → Type 0
IsAsked c (Open kinds old) r (Open kinds' new) =
    IsOf kinds c × (a : Option Answer) × (r ≡ reply_to a) × (kinds' ≡ kinds)
    × Asks old.gauge c (record { gauge = new.gauge; answer = a })
    × AskSteps old.gauge c (record { gauge = new.gauge; answer = a })
    × AskLives old.gauge c (record { gauge = new.gauge; answer = a })
IsAsked c _ r _ = ⊥

-- a survey is opened on a plan and a map, whose kinds are kept
abbrev pub IsOpened : Session → Session → Type 0
IsOpened (Planned p) (Open kinds k) =
    (m : Map) × IsOpen p.plan m k.gauge × (kinds.plan ≡ p.kind) × (kinds.map ≡ map_kind m)
IsOpened _ _ = ⊥

-- the opening has its plan
abbrev pub IsPlanned : Session → Session → Type 0
IsPlanned New (Planned _) = ⊤
IsPlanned _ _ = ⊥

-- a command of this verb that has an answer opens the plan or the recipe, or it is a call that the gauge is asked
abbrev pub Calls : Verb → Session → Reply → Session → Type 0
Calls v old (reply.Wrong _ _) new = ⊥
Calls v old reply.Plan new = (v ≡ verb.Open) × IsPlanned old new
Calls v old reply.Opened new = (v ≡ verb.Map) × IsOpened old new
Calls v old r new = (c : Call PagePlan Map) × (v ≡ verb_of c) × IsAsked c old r new

-- of a command: a fault leaves the session as it was
abbrev pub Obeys : Verb → Session → Obeyed → Type 0
Obeys v old r = MatchResult r.outcome (λ reply. Calls v old reply r.session) (λ _. r.session ≡ old)

-- of the line of a number: one that makes no call, or has no answer, leaves the session as it was; want of memory is
-- told in no line
abbrev pub Hears : (number : ℕ) → Session → Option Reply → Session → Type 0
Hears number old None new = new ≡ old
Hears number old (Some (reply.Wrong n e)) new = (n ≡ number) × (e ≢ Page Memory) × (new ≡ old)
Hears number old (Some r) new = (v : Verb) × Calls v old r new

-- a remark has no answer, and a line that cannot be read is told with its number
abbrev pub Answers : (number : ℕ) → Line → Option Reply → Type 0
Answers number Passed r = r ≡ None
Answers number TooLong r = r ≡ Some (reply.Wrong number fault.TooLong)
Answers number NotText r = r ≡ Some (reply.Wrong number (Page Words))
Answers number (Text _) r = ⊤
