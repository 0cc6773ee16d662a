-- Every life keeps the promise.
use Rattle.std.proofs.Common.{◌≡◌, List, [], ◌∷◌, ◌++◌, Option, refl, sym, ap, ◌∙◌, subst}
use Rattle.std.specs.List.Sorted.{IsPermutation}
use Rattle.radius.specs.Radius.{Near, Agree}
use Rattle.survey.specs.Setups.{Setup, IsSetup}
use Rattle.survey.specs.Life.{Call, Answer, report, reported, answer, History, State, opening, after, state, IsStep, Lived}
use Rattle.survey.specs.Runs.{Runs, opened, answered, barred}
use Rattle.survey.specs.Promise.{Reported, terms_at, calls, answers, Kept, ComesTo, Continues, Lives}
use Rattle.survey.proofs.Steps.{step_from, held_is}
use Rattle.survey.proofs.Nears.{setups_agree, told, told_near}
use Rattle.survey.proofs.Strikes.{strike}

module _ (o : Setup) where
  lived_from : (l e : History) → Lived o (l ++ e) → Lived o e
  lived_from [] e h = h
  lived_from (x ∷ l) e h = lived_from l e h.0

  report_is : (h : History) → Lived o h → (x : Reported o h) →
      IsSetup (state o x.earlier).held × (reported x.m x.n x.s x.r ≡ answer (state o x.earlier) report)
  report_is h l x = let at = lived_from x.later _ (subst (Lived o) x.at l) in (held_is o x.earlier at.0, at.1.answers)

  -- a life is what its calls run to
  run_of : (h : History) → Lived o h → Runs o (calls h) (answers h) h
  run_of [] l = opened
  run_of ((c, a) ∷ h) (l, step) = answered _ _ h c a (run_of h l) step

  -- and they run to nothing else
  again : (h : History) → Lived o h → (rs : List (Option Answer)) (g : History) → Runs o (calls h) rs g → (g ≡ h) × (rs ≡ answers h)
  again [] l _ _ opened = (refl, refl)
  again ((c, b) ∷ h) (l, step) _ _ (answered _ rs g _ a r step') =
      let x = again h l rs g r in
      let life = x.0 in
      let told = x.1 in
      let before = step.answers in
      let now = step'.answers in
      (cc, cc)
  again ((c, b) ∷ h) (l, step) _ _ (barred _ rs g _ r bars) = let life = (again h l rs g r).0 in absurd (bars (rw life step.allowed))

pub reports_near : (o : Setup) (h : History) → Lived o h → (x : Reported o h) → Near x.m (terms_at x) x.s x.r
reports_near o h l x = let at = report_is o h l x in told_near (state o x.earlier) at.0 x.m x.n x.s x.r at.1

pub reports_agree : (o : Setup) (h : History) → Lived o h → (o' : Setup) (h' : History) → Lived o' h' → (x : Reported o h) (x' : Reported o' h') →
    IsPermutation (terms_at x) (terms_at x') → Agree x.m x'.m x.s x'.s x.r x'.r
reports_agree o h l o' h' l' x x' same =
    let at = report_is o h l x in
    let at' = report_is o' h' l' x' in
    let s = state o x.earlier in
    let s' = state o' x'.earlier in
    let e = told s x.m x.n x.s x.r at.1 in
    let e' = told s' x'.m x'.n x'.s x'.r at'.1 in
    rw (e.0, e.1, e.2, e'.0, e'.1, e'.2) (setups_agree s.held s'.held at.0 at'.0 s.taken s'.taken same)

pub promise : Kept
promise o h l =
    let g = strike o h l in
    record {
      lived = l;
      near = reports_near o h l;
      is_map = λ x. (report_is o h l x).0.map;
      rest = g.0;
      strikes = g.1;
      rest_lived = g.2;
      rest_state = g.3;
      same = λ k lk e. (again o g.0 g.2 (answers k) k (subst (λ (cs : List Call). Runs o cs (answers k) k) e (run_of o k lk))).0;
      again = again o g.0 g.2;
      agrees = λ o' h' l'. reports_agree o h l o' h' l';
    }

pub begins : (o : Setup) → IsSetup o → ComesTo o [] (opening o)
begins o is = record { promise = promise o [] is; here = refl }

pub continues : (c : Call) (a : Answer) (from to : State) → IsStep c a from to → Continues c a from to
continues c a from to step o h at =
    record {
      promise = promise o _ (at.promise.lived, step_from c a from to (state o h) at.here step);
      here = ap (after c a) at.here ∙ sym step.leads;
    }

pub lives : Lives
lives = record { begins = begins; continues = continues }
