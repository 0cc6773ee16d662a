-- A survey's life: the calls that were made of it with what each answered, the newest first, and what
-- it has come to.
use Rattle.std.specs.Prelude.{⊤, ◌≡◌, ℕ, ◌+◌, Bool, true, false, if◌then◌else◌, List, [], ◌∷◌, ℤ, ◌==◌, nat_lt}
use Rattle.refusals.specs.Told.{Told, refused}
use Rattle.coats.specs.Terms.{IsMap}
use Rattle.survey.specs.declared.costs.TheConstants.{FIRST_LIMIT}
use Rattle.survey.specs.Setups.{Plan, Map, Setup, IsPlan, IsSetup, left_of, coat_sum, cost_of, radius_of}

pub data Call : Type 0 where
  take_next : (k : ℕ) → Call
  report : Call
  set_limit : (l : ℕ) → Call
  begin : Plan → Call
  map_page : Map → Call
  commit : Call
  abandon : Call

pub data Answer : Type 0 where
  -- the new count
  counted : (n : ℕ) → Answer
  -- m, n, S and R
  reported : (m n : ℕ) (s : ℤ) (r : ℕ) → Answer
  limited : Answer
  begun : Answer
  paged : Answer
  committed : Answer
  abandoned : Answer
  refusal : Told → Answer

abbrev pub accepts : Answer → Bool
accepts (refusal t) = false
accepts _ = true

abbrev pub History : Type 0
History = List (Call × Answer)

-- whether a change is under way, and its pages so far
pub data Stage : Type 0 where
  survey : Stage
  half : Plan → Stage
  full : Plan → Map → Stage

-- what a history has come to
pub record State : Type 0 where
  pub stage : Stage
  -- the recipe of opening, or of the last accepted commit
  pub held : Setup
  -- L: that of opening, or of the last accepted limit
  pub limit : ℕ
  -- n: the total of k over the takes accepted since the held recipe came in
  pub taken : ℕ

abbrev pub opening : Setup → State
opening o = record { stage = survey; held = o; limit = FIRST_LIMIT; taken = 0 }

abbrev pub with_map : Map → Stage → Stage
with_map t survey = survey
with_map t (half p) = full p t
with_map t (full p u) = full p t

-- the recipe that a commit would bring in, where there are pages for one
abbrev pub offer_of : Setup → Stage → Setup
offer_of old survey = old
offer_of old (half p) = old
offer_of old (full p t) = record { plan = p; map = t }

-- what an accepted call makes of it
abbrev pub effect_of : Call → State → State
effect_of (take_next k) s = record s { taken = s.taken + k }
effect_of (set_limit l) s = record s { limit = l }
effect_of (begin p) s = record s { stage = half p }
effect_of (map_page t) s = record s { stage = with_map t s.stage }
effect_of commit s = record s { stage = survey; held = offer_of s.held s.stage; taken = 0 }
effect_of abandon s = record s { stage = survey }
effect_of report s = s

-- a refused call leaves no change under way, and all else as it was
abbrev pub after : Call → Answer → State → State
after c a s = if accepts a then effect_of c s else record s { stage = survey }

abbrev pub state : Setup → History → State
state o [] = opening o
state o ((c, a) ∷ h) = after c a (state o h)

-- the rules: what a take of k answers after n places, a limit l, and a commit under the limit l
abbrev pub on_take : Setup → (n k : ℕ) → Answer
on_take q n k =
    if k == 0 then refusal (refused 21 (0 ∷ []))
    else if nat_lt (left_of q.plan n) k then refusal (refused 22 (left_of q.plan n ∷ []))
    else counted (n + k)

abbrev pub on_limit : Setup → (l : ℕ) → Answer
on_limit q l = if nat_lt l (cost_of q) then refusal (refused 23 (cost_of q ∷ [])) else limited

abbrev pub on_commit : Setup → (l : ℕ) → Answer
on_commit q l = if nat_lt l (cost_of q) then refusal (refused 24 (cost_of q ∷ [])) else committed

-- what a call answers
abbrev pub answer : State → Call → Answer
answer s (take_next k) = on_take s.held s.taken k
answer s report =
    reported s.held.plan.level s.taken (coat_sum s.held s.taken) (radius_of s.held s.taken)
answer s (set_limit l) = on_limit s.held l
answer s (begin p) = begun
answer s (map_page t) = paged
answer s commit = on_commit (offer_of s.held s.stage) s.limit
answer s abandon = abandoned

-- where a call is allowed
abbrev pub Allowed : Stage → Call → Type 0
Allowed s (map_page t) = (p : Plan) × (s ≡ half p)
Allowed s commit = (p : Plan) × (t : Map) × (s ≡ full p t)
Allowed s abandon = s ≡ survey → ⊥
Allowed s _ = s ≡ survey

-- the page that a call brings is a plan, or a map
abbrev pub BringsPage : Call → Type 0
BringsPage (begin p) = IsPlan p
BringsPage (map_page t) = IsMap t.terms
BringsPage _ = ⊤

-- a call is allowed, is answered by the rules, and leads from one state to another
pub record IsStep (c : Call) (a : Answer) (from to : State) : Type 0 where
  pub allowed : Allowed from.stage c
  pub page : BringsPage c
  pub answers : a ≡ answer from c
  pub leads : to ≡ after c a from

-- a life from the opening on the recipe o: one call after another
abbrev pub Lived : (o : Setup) → History → Type 0
Lived o [] = IsSetup o
Lived o ((c, a) ∷ h) = Lived o h × IsStep c a (state o h) (state o ((c, a) ∷ h))
