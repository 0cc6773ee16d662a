-- What is written of a picture.
use Rattle.std.specs.Prelude.{◌≡◌, ℕ, ◌++◌, List, length, drop, Some, None, ⊤, Option}
use Rattle.std.specs.Io.KnownBytes.{Appends}

-- known bytes stay in front
abbrev pub Grows : (old new : Option (List ℕ)) → Type 0
Grows None new = ⊤
Grows (Some xs) None = ⊥
Grows (Some xs) (Some ys) = ys ≡ xs ++ drop (length xs) ys

-- known bytes grow by dots and then figures, with something before, between and after them
pub record AppendsPicture (old new : Option (List ℕ)) (dots figures : List ℕ) : Type 0 where
  pub before : List ℕ
  pub between : List ℕ
  pub after : List ℕ
  pub appended : Appends old new (before ++ (dots ++ (between ++ (figures ++ after))))
