-- A step is made again where the state is the same, and leads from sound states to sound ones.
use Rattle.std.proofs.Common.{◌≡◌, [], ◌∷◌, refl}
use Rattle.std.proofs.lemmas.Bool.{cond_both}
use Rattle.coats.specs.Terms.{IsMap}
use Rattle.survey.specs.Setups.{Setup, IsPlan, IsSetup}
use Rattle.survey.specs.Life.{Call, begin, map_page, commit, abandon, Answer, accepts, History, Stage, survey, half, full, offer_of, State, effect_of, after, state, Allowed, BringsPage, IsStep, Lived}

-- a call and its answer, made again where the state is the same
pub step_from : (c : Call) (a : Answer) (s to t : State) → t ≡ s → IsStep c a s to → IsStep c a t (after c a t)
step_from c a s to t e step = rw e (record { allowed = step.allowed; page = step.page; answers = step.answers; leads = refl })

-- the pages so far are a plan and a map
ArePages : Stage → Type 0
ArePages survey = Unit {0}
ArePages (half p) = IsPlan p
ArePages (full p t) = IsPlan p × IsMap t.terms

IsSound : State → Type 0
IsSound s = IsSetup s.held × ArePages s.stage

offered_is : (q : Setup) → IsSetup q → (s : Stage) → ArePages s → IsSetup (offer_of q s)
unfolding ArePages
offered_is q is survey _ = is
offered_is q is (half p) _ = is
offered_is q is (full p t) (hp, ht) = record { plan = hp; map = ht }

effect_sound : (c : Call) (s : State) → Allowed s.stage c → BringsPage c → IsSound s → IsSound (effect_of c s)
unfolding ArePages IsSound
effect_sound (begin p) s ok page is = (is.0, page)
effect_sound (map_page t) s ok page is =
    let at = ok.1 in
    (is.0, rw at (rw at at is.1, page))
effect_sound commit s ok page is = (offered_is s.held is.0 s.stage is.1, tt)
effect_sound abandon s ok page is = (is.0, tt)
effect_sound _ s ok page is = is

sound : (o : Setup) (h : History) → Lived o h → IsSound (state o h)
unfolding ArePages IsSound
sound o [] l = (l, tt)
sound o ((c, a) ∷ h) (l, step) =
    let is = sound o h l in
    cond_both (accepts a) _ _ IsSound (λ _. effect_sound c (state o h) step.allowed step.page is) (λ _. (is.0, tt))

pub held_is : (o : Setup) (h : History) → Lived o h → IsSetup (state o h).held
unfolding IsSound
held_is o h l = (sound o h l).0
