-- Texts that are put together.
use Rattle.std.specs.Prelude.{ℕ, List, [], ◌∷◌, ◌++◌}

-- one after another
abbrev pub text_of : List (List ℕ) → List ℕ
text_of [] = []
text_of (part ∷ []) = part
text_of (part ∷ more ∷ parts) = part ++ text_of (more ∷ parts)
