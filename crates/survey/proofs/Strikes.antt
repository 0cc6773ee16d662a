-- Every life has a struck one, which is a life that has come to the same state.
use Rattle.std.proofs.Common.{◌≡◌, true, [], ◌∷◌, ◌++◌, refl, sym, ap, ◌∙◌, inl, inr}
use Rattle.std.proofs.lemmas.Bool.{cases_Bool}
use Rattle.survey.specs.Setups.{Plan, Map, Setup}
use Rattle.survey.specs.Life.{Call, begin, map_page, commit, abandon, Answer, begun, paged, accepts, History, survey, half, full, State, effect_of, after, state, Lived}
use Rattle.survey.specs.Strikes.{alone, Struck, nothing, stays, goes, changed, lost, left_half, left_full, Strikes, closed, open_half, open_full}
use Rattle.survey.proofs.Steps.{step_from}

-- g is what is left of h, where no change is open
record Same (o : Setup) (h g : History) : Type 0 where
  struck : Struck h g
  lived : Lived o g
  states : state o g ≡ state o h
  here : (state o h).stage ≡ survey

-- a life, by the change that is open at its end
data View (o : Setup) : History → Type 0 where
  at_survey : {h : History} (g : History) → Same o h g → View o h
  at_half : {h : History} (g : History) (p : Plan) → Same o h g → View o ((begin p, begun) ∷ h)
  at_full : {h : History} (g : History) (p : Plan) (t : Map) → Same o h g → View o ((map_page t, paged) ∷ (begin p, begun) ∷ h)

alone_stage : (c : Call) (s : State) → alone c ≡ true → (effect_of c s).stage ≡ s.stage
alone_stage (begin p) s e = absurd cc
alone_stage (map_page t) s e = absurd cc
alone_stage commit s e = absurd cc
alone_stage abandon s e = absurd cc
alone_stage _ s e = refl

module _ (o : Setup) where
  -- the same calls, made where the state is the same
  made_again : (es h g : History) → state o g ≡ state o h → Lived o g → Lived o (es ++ h) → Lived o (es ++ g) × (state o (es ++ g) ≡ state o (es ++ h))
  made_again [] h g e l _ = (l, e)
  made_again ((c, a) ∷ es) h g e l (k, step) =
      let x = made_again es h g e l k in
      ((x.0, step_from c a (state o (es ++ h)) _ (state o (es ++ g)) x.1 step), ap (after c a) x.1)

  -- a refused call, and a change that is given up, alter nothing
  unaltered : {h g k : History} → Same o h g → Struck k g → state o k ≡ record (state o h) { stage = survey } → View o k
  unaltered {h} {g} s struck e =
      at_survey g (record { struck = struck; lived = s.lived; states = s.states ∙ ap (λ x. record (state o h) { stage = x }) s.here ∙ sym e; here = ap (λ (t : State). t.stage) e })

  same_at : (h : History) → View o h → (state o h).stage ≡ survey → (g : History) × Same o h g
  same_at h (at_survey g s) e = (g, s)
  same_at _ (at_half g p s) e = absurd cc
  same_at _ (at_full g p t s) e = absurd cc

  -- after a call of the survey itself
  alone_view : (c : Call) (a : Answer) (h : History) → alone c ≡ true → Lived o ((c, a) ∷ h) → (state o h).stage ≡ survey → View o h → View o ((c, a) ∷ h)
  alone_view c a h e l here v =
      let x = same_at h v here in
      let g = x.0 in
      let s = x.1 in
      elim (cases_Bool (accepts a)) [
        | inl accept ↦
            let y = made_again ((c, a) ∷ []) h g s.states s.lived l in
            at_survey ((c, a) ∷ g) (record { struck = stays c a e accept s.struck; lived = y.0; states = y.1; here = rw accept (alone_stage c (state o h) e ∙ here) })
        | inr refuse ↦ unaltered s (goes c a e refuse s.struck) (rw refuse refl)
      ]

  page_view : (a : Answer) (t : Map) (h : History) (p : Plan) → (state o h).stage ≡ half p → a ≡ paged → View o h → View o ((map_page t, a) ∷ h)
  page_view a t h p at e (at_survey g s) = absurd (cc s.here)
  page_view a t _ p at e (at_half g q s) = rw e (at_full g q t s)
  page_view a t _ p at e (at_full g q u s) = absurd cc

  commit_view : (a : Answer) (h : History) (p : Plan) (t : Map) → (state o h).stage ≡ full p t → Lived o ((commit, a) ∷ h) → View o h → View o ((commit, a) ∷ h)
  commit_view a h p t at l (at_survey g s) = absurd (cc s.here)
  commit_view a _ p t at l (at_half g q s) = absurd cc
  commit_view a _ p t at l (at_full {h} g q u s) =
      elim (cases_Bool (accepts a)) [
        | inl accept ↦
            let y = made_again ((commit, a) ∷ (map_page u, paged) ∷ (begin q, begun) ∷ []) h g s.states s.lived l in
            at_survey _ (record { struck = changed q u begun paged a accept s.struck; lived = y.0; states = y.1; here = rw accept refl })
        | inr refuse ↦ unaltered s (lost q u begun paged a refuse s.struck) (rw refuse refl)
      ]

  abandon_view : (a : Answer) (h : History) → ((state o h).stage ≡ survey → ⊥) → accepts a ≡ true → View o h → View o ((abandon, a) ∷ h)
  abandon_view a h barred e (at_survey g s) = absurd (barred s.here)
  abandon_view a _ barred e (at_half g p s) = unaltered s (left_half p begun a s.struck) (rw e refl)
  abandon_view a _ barred e (at_full g p t s) = unaltered s (left_full p t begun paged a s.struck) (rw e refl)

  view : (h : History) → Lived o h → View o h
  view [] l = at_survey [] (record { struck = nothing; lived = l; states = refl; here = refl })
  view ((begin p, a) ∷ h) (l, step) =
      let x = same_at h (view h l) step.allowed in
      rw step.answers (at_half x.0 p x.1)
  view ((map_page t, a) ∷ h) (l, step) = page_view a t h step.allowed.0 step.allowed.1 step.answers (view h l)
  view ((commit, a) ∷ h) (l, step) = commit_view a h step.allowed.0 step.allowed.1 step.allowed.2 (l, step) (view h l)
  view ((abandon, a) ∷ h) (l, step) = abandon_view a h step.allowed (ap accepts step.answers) (view h l)
  view ((c, a) ∷ h) (l, step) = alone_view c a h refl (l, step) step.allowed (view h l)

  -- the struck life
  struck_of : (h : History) → Lived o h → View o h → (g : History) × Strikes h g × Lived o g × (state o g ≡ state o h)
  struck_of h l (at_survey g s) = (g, closed s.struck, s.lived, s.states)
  struck_of _ l (at_half {h} g p s) =
      let y = made_again ((begin p, begun) ∷ []) h g s.states s.lived l in
      (_, open_half p begun s.struck, y.0, y.1)
  struck_of _ l (at_full {h} g p t s) =
      let y = made_again ((map_page t, paged) ∷ (begin p, begun) ∷ []) h g s.states s.lived l in
      (_, open_full p t begun paged s.struck, y.0, y.1)

  pub strike : (h : History) → Lived o h → (g : History) × Strikes h g × Lived o g × (state o g ≡ state o h)
  strike h l = struck_of h l (view h l)
