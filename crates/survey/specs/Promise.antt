-- What every life of a survey keeps.
use Rattle.std.specs.Prelude.{◌≡◌, ℕ, List, [], ◌∷◌, ◌++◌, map, ℤ, Some, Option}
use Rattle.std.specs.List.Sorted.{IsPermutation}
use Rattle.coats.specs.declared.term.Term.{Term}
use Rattle.coats.specs.Terms.{IsMap}
use Rattle.radius.specs.Radius.{Near, Agree}
use Rattle.survey.specs.Setups.{Setup, IsSetup}
use Rattle.survey.specs.Life.{Call, Answer, report, reported, History, State, opening, state, IsStep, Lived}
use Rattle.survey.specs.Runs.{Runs}
use Rattle.survey.specs.Strikes.{Strikes}

-- a report in a life: what it answered, and the terms of the map that was held then
pub record Reported (o : Setup) (h : History) : Type 0 where
  pub m : ℕ
  pub n : ℕ
  pub s : ℤ
  pub r : ℕ
  pub later : History
  pub earlier : History
  pub at : h ≡ later ++ (report, reported m n s r) ∷ earlier

abbrev pub terms_at : {o : Setup} {h : History} → Reported o h → List Term
terms_at {o} x = (state o x.earlier).held.map.terms

abbrev pub calls : History → List Call
calls h = map (λ e. e.0) h

abbrev pub answers : History → List (Option Answer)
answers h = map (λ e. Some e.1) h

pub record Promise (o : Setup) (h : History) : Type 0 where
  pub lived : Lived o h
  -- no report misses the true value
  pub near : (x : Reported o h) → Near x.m (terms_at x) x.s x.r
  -- what is held at a report is a map
  pub is_map : (x : Reported o h) → IsMap (terms_at x)
  -- what was refused or given up leaves no trace: the rest is a life with the same answers, and has
  -- come to the same state
  pub rest : History
  pub strikes : Strikes h rest
  pub rest_lived : Lived o rest
  pub rest_state : state o rest ≡ state o h
  -- a life with the calls of the rest has its answers too
  pub same : (g : History) → Lived o g → calls g ≡ calls rest → g ≡ rest
  -- the calls of the rest, made again, are all allowed and have its answers
  pub again :
      (rs : List (Option Answer)) (g : History) → Runs o (calls rest) rs g →
      (g ≡ rest) × (rs ≡ answers rest)
  -- two surveys agree where their maps have the same terms up to order
  pub agrees :
      (o' : Setup) (h' : History) → Lived o' h' → (x : Reported o h) (x' : Reported o' h') →
      IsPermutation (terms_at x) (terms_at x') → Agree x.m x'.m x.s x'.s x.r x'.r

-- every life keeps the promise
abbrev pub Kept : Type 0
Kept = (o : Setup) (h : History) → Lived o h → Promise o h

-- a life that has come to a state, with the promise
pub record ComesTo (o : Setup) (h : History) (s : State) : Type 0 where
  pub promise : Promise o h
  pub here : state o h ≡ s

-- a call with its answer carries on each life that has come to one state: one call longer, it has come
-- to the other
abbrev pub Continues : Call → Answer → (from to : State) → Type 0
Continues c a from to =
    (o : Setup) (h : History) → ComesTo o h from → ComesTo o ((c, a) ∷ h) to

-- a life begins as it is opened, and each step carries it on
pub record Lives : Type 0 where
  pub begins : (o : Setup) → IsSetup o → ComesTo o [] (opening o)
  pub continues :
      (c : Call) (a : Answer) (from to : State) → IsStep c a from to → Continues c a from to
