-- A log, one call after another.
use Rattle.std.proofs.Common.{◌≡◌, List, [], ◌∷◌, ◌++◌, map, reverse, Some, None, Option, ap, ◌∙◌}
use Rattle.std.specs.Option.{option_map}
use Rattle.std.proofs.lemmas.List.{map_push, reverse-append}
use Rattle.nets.specs.declared.net.Net.{Ghosts as Nets}
use Rattle.coats.specs.declared.coat_map.CoatMap.{Ghosts as Maps}
use Rattle.survey.specs.Gauges.{answer_of, call_of, gauge_state, Asks, AskSteps, AskLives}
use Rattle.survey.specs.Runs.{opened, answered, barred}
use Rattle.survey.specs.Logs.{IsRun}
use Rattle.survey.specs.Surveys.{Opens}
use Rattle.survey.specs.declared.call.Answer.{Answer}
use Rattle.survey.specs.declared.call.Call.{Call}
use Rattle.survey.specs.declared.gauge.Gauge.{Gauge}
use Rattle.survey.specs.declared.gauge.Gauge.TheVariants as at
use Rattle.survey.specs.declared.gauge.After.{After}
use Rattle.survey.specs.declared.survey.Survey.{Survey}
use Rattle.survey.proofs.Promises.{begins, continues}

-- the newest first, of one more
reverse_push : {X Y : Type 0} (f : X → Y) (xs : List X) (x : X) → reverse (map f (xs ++ x ∷ [])) ≡ f x ∷ reverse (map f xs)
reverse_push f xs x = ap reverse (map_push f xs x) ∙ reverse-append (map f xs) (f x ∷ [])

module _ {P M : Type 0} {nets : Nets P} {maps : Maps M} (g : Gauge P M nets maps) (c : Call P M) where
  steps_live : (a : Option Answer) (to : Gauge P M nets maps) → AskSteps g c (record { gauge = to; answer = a }) → AskLives g c (record { gauge = to; answer = a })
  steps_live None to bars = tt
  steps_live (Some a) to step = continues (call_of nets maps c) (answer_of a) (gauge_state g) (gauge_state to) step

  pub ask_lives : (r : After P M nets maps) → AskSteps g c r → AskLives g c r
  ask_lives r step = steps_live r.answer r.gauge step

module _ {P M : Type 0} {nets : Nets P} {maps : Maps M} (p : P) (m : M) where
  pub run_none : (s : Survey P M nets maps) → Opens p m s → IsRun p m [] (at.Survey s) []
  run_none s opens = record { life = []; runs = opened; comes = rw opens.state (begins _ opens.is_setup) }

  module _ (cs : List (Call P M)) (rs : List (Option Answer)) (g : Gauge P M nets maps) (c : Call P M) (run : IsRun p m cs g rs) where
    by_answer : (a : Option Answer) (to : Gauge P M nets maps) → Asks g c (record { gauge = to; answer = a }) → AskSteps g c (record { gauge = to; answer = a }) → AskLives g c (record { gauge = to; answer = a }) →
        IsRun p m (cs ++ c ∷ []) to (rs ++ a ∷ [])
    by_answer None to rule bars _ =
        record {
          life = run.life;
          runs = rw (reverse_push (call_of nets maps) cs c, reverse_push (option_map answer_of) rs None) (barred _ _ run.life (call_of nets maps c) run.runs (rw run.comes.here bars));
          comes = rw rule run.comes;
        }
    by_answer (Some b) to rule step lives =
        let next = lives _ run.life run.comes in
        record {
          life = (call_of nets maps c, answer_of b) ∷ run.life;
          runs = rw (reverse_push (call_of nets maps) cs c, reverse_push (option_map answer_of) rs (Some b)) (answered _ _ run.life (call_of nets maps c) (answer_of b) run.runs next.promise.lived.1);
          comes = next;
        }

  pub run_more : (cs : List (Call P M)) (rs rs' : List (Option Answer)) (g : Gauge P M nets maps) (c : Call P M) (r : After P M nets maps) →
      IsRun p m cs g rs → Asks g c r → AskSteps g c r → AskLives g c r → rs' ≡ rs ++ r.answer ∷ [] → IsRun p m (cs ++ c ∷ []) r.gauge rs'
  run_more cs rs rs' g c r run rule step lives e = rw e (by_answer cs rs g c run r.answer r.gauge rule step lives)
