-- What a log of calls, made one after another from opening on, answers.
use Rattle.std.specs.Prelude.{◌<◌, List, length, map, reverse, vec_items, Option, Result, MatchResult, Vec}
use Rattle.std.specs.Option.{option_map}
use Rattle.std.specs.declared.alloc.AllocError.{AllocError}
use Rattle.std.specs.declared.alloc.Global.{Global}
use Rattle.nets.specs.declared.net.Net.{Ghosts as Nets}
use Rattle.coats.specs.declared.coat_map.CoatMap.{Ghosts as Maps}
use Rattle.survey.specs.Setups.{setup_of}
use Rattle.survey.specs.Life.{History}
use Rattle.survey.specs.Runs.{Runs}
use Rattle.survey.specs.Promise.{ComesTo}
use Rattle.survey.specs.Gauges.{call_of, answer_of, gauge_state}
use Rattle.survey.specs.declared.call.Answer.{Answer}
use Rattle.survey.specs.declared.call.Call.{Call}
use Rattle.survey.specs.declared.gauge.Gauge.{Gauge}
use Rattle.survey.specs.declared.log.Run.{Run}

module _ {P M : Type 0} {nets : Nets P} {maps : Maps M} where
  -- calls were answered so, in order, and the gauge is where their life has come to, with the promise
  pub record IsRun
      (p : P) (m : M) (cs : List (Call P M))
      (g : Gauge P M nets maps) (rs : List (Option Answer)) : Type 0 where
    pub life : History
    pub runs :
        Runs (setup_of nets maps p m)
        (reverse (map (call_of nets maps) cs)) (reverse (map (option_map answer_of) rs)) life
    pub comes : ComesTo (setup_of nets maps p m) life (gauge_state g)

  -- a run, or want of memory for the answers of a log that is not empty
  abbrev pub RunsLog : P → M → List (Call P M) → Result (Run P M nets maps) AllocError → Type 0
  RunsLog p m cs r =
      MatchResult r (λ run. IsRun p m cs run.gauge (vec_items run.answers)) (λ _. 0 < length cs)

module _ {P M : Type 0} (nets : Nets P) (maps : Maps M) where
  -- the answers of a run
  abbrev pub Replays :
      P → M → List (Call P M) → Result (Vec (Option Answer) Global) AllocError → Type 0
  Replays p m cs r =
      MatchResult r (λ v. (g : Gauge P M nets maps) × IsRun p m cs g (vec_items v))
      (λ _. 0 < length cs)
