-- What is left of a life when what was refused or given up is struck out.
use Rattle.std.specs.Prelude.{◌≡◌, Bool, true, false, [], ◌∷◌}
use Rattle.survey.specs.Setups.{Plan, Map}
use Rattle.survey.specs.Life.{Call, begin, map_page, commit, abandon, Answer, accepts, History}

-- a call of a survey itself, and not of a change
abbrev pub alone : Call → Bool
alone (begin p) = false
alone (map_page t) = false
alone commit = false
alone abandon = false
alone _ = true

-- a history with no change open at its end, and what is left of it
pub data Struck : (whole left : History) → Type 0 where
  nothing : Struck [] []
  -- an accepted call of the survey itself stays
  stays : (c : Call) (a : Answer) {h g : History} → alone c ≡ true → accepts a ≡ true → Struck h g →
      Struck ((c, a) ∷ h) ((c, a) ∷ g)
  -- a refused one goes
  goes : (c : Call) (a : Answer) {h g : History} → alone c ≡ true → accepts a ≡ false → Struck h g →
      Struck ((c, a) ∷ h) g
  -- a change whose commit was accepted stays
  changed : (p : Plan) (t : Map) (a b d : Answer) {h g : History} → accepts d ≡ true → Struck h g →
      Struck ((commit, d) ∷ (map_page t, b) ∷ (begin p, a) ∷ h)
      ((commit, d) ∷ (map_page t, b) ∷ (begin p, a) ∷ g)
  -- one whose commit was refused goes, and so does one that was abandoned
  lost : (p : Plan) (t : Map) (a b d : Answer) {h g : History} → accepts d ≡ false → Struck h g →
      Struck ((commit, d) ∷ (map_page t, b) ∷ (begin p, a) ∷ h) g
  left_half : (p : Plan) (a d : Answer) {h g : History} → Struck h g →
      Struck ((abandon, d) ∷ (begin p, a) ∷ h) g
  left_full : (p : Plan) (t : Map) (a b d : Answer) {h g : History} → Struck h g →
      Struck ((abandon, d) ∷ (map_page t, b) ∷ (begin p, a) ∷ h) g

-- a change that is still open at the end stays
pub data Strikes : (whole left : History) → Type 0 where
  closed : {h g : History} → Struck h g → Strikes h g
  open_half : (p : Plan) (a : Answer) {h g : History} → Struck h g →
      Strikes ((begin p, a) ∷ h) ((begin p, a) ∷ g)
  open_full : (p : Plan) (t : Map) (a b : Answer) {h g : History} → Struck h g →
      Strikes ((map_page t, b) ∷ (begin p, a) ∷ h) ((map_page t, b) ∷ (begin p, a) ∷ g)
