-- What calls answer that are made one after another from opening on.
use Rattle.std.specs.Prelude.{List, [], ◌∷◌, Some, None, Option}
use Rattle.survey.specs.Setups.{Setup}
use Rattle.survey.specs.Life.{Call, Answer, History, state, Allowed, IsStep}

-- calls, what each answered, and the life of those that were allowed, each the newest first. A call
-- that was not allowed has no answer, and is no event of the life
pub data Runs (o : Setup) : List Call → List (Option Answer) → History → Type 0 where
  opened : Runs o [] [] []
  answered :
      (cs : List Call) (rs : List (Option Answer)) (h : History) (c : Call) (a : Answer) →
      Runs o cs rs h →
      IsStep c a (state o h) (state o ((c, a) ∷ h)) →
      Runs o (c ∷ cs) (Some a ∷ rs) ((c, a) ∷ h)
  barred :
      (cs : List Call) (rs : List (Option Answer)) (h : History) (c : Call) → Runs o cs rs h →
      (Allowed (state o h).stage c → ⊥) → Runs o (c ∷ cs) (None ∷ rs) h
