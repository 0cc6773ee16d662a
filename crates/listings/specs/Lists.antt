-- The texts of places.
use Rattle.std.specs.Prelude.{ℕ, ◌<◌, List, [], ◌∷◌, ◌++◌, length, codes, decimal, flat_map, slice_index_or, ℤ, Bool, true, false, is_some, Some, None, Option}
use Rattle.std.specs.Fmt.{signed_decimal}
use Rattle.std.specs.Io.KnownBytes.{Appends}
use Rattle.std.specs.List.{range_with_len}
use Rattle.std.specs.Option.{option_map}
use Rattle.refusals.specs.Texts.{text_of}
use Rattle.nets.specs.Places.{Place}
use Rattle.nets.specs.Rounds.{TellsRounds}
use Rattle.coats.specs.declared.term.Term.{Term}
use Rattle.coats.specs.Terms.{coat_of}
use Rattle.listings.specs.declared.lists.Form.{Form}
use Rattle.listings.specs.declared.lists.Form.TheVariants.{Lines, Csv}

-- what stands between two numbers
abbrev pub separator_of : Form → List ℕ
separator_of Lines = codes " "
separator_of Csv = codes ","

-- what stands before the first place, without or with rounds and coats
abbrev pub head_of : Form → (rounds coats : Bool) → List ℕ
head_of Lines _ _ = []
head_of Csv false false = codes "x,y\n"
head_of Csv false true = codes "x,y,coat\n"
head_of Csv true false = codes "x,y,rounds\n"
head_of Csv true true = codes "x,y,rounds,coat\n"

-- a further number on the line of a place, after a separator, if it is told
abbrev pub further_column : Form → Option (List ℕ) → List (List ℕ)
further_column form None = []
further_column form (Some number) = separator_of form ∷ number ∷ []

-- x and y of a place, the rounds in which it is made, and the coat there, each of the two if it is told
abbrev pub place_text : Form → Place → (rounds : Option ℕ) (coat : Option ℤ) → List ℕ
place_text form p rounds coat =
    text_of (
    decimal p.0 ∷ separator_of form ∷ decimal p.1
    ∷ further_column form (option_map decimal rounds) ++ further_column form (option_map signed_decimal coat)
    )

-- a place on a line of its own, with the coat that terms give it, if there are terms
abbrev pub line_of : Form → Option (List Term) → (rounds : Option ℕ) → Place → List ℕ
line_of form terms rounds p = place_text form p rounds (option_map (λ ts. coat_of ts p) terms) ++ codes "\n"

-- all places, a line for each
abbrev pub list_text : Form → Option (List Term) → List Place → List ℕ
list_text form terms ps = head_of form false (is_some terms) ++ flat_map (line_of form terms None) ps

-- all places, a line for each, with the rounds of each index
abbrev pub rounds_text : Form → (counts : Bool) (rounds : ℕ → Option ℕ) → Option (List Term) → List Place → List ℕ
rounds_text form counts rounds terms ps =
    head_of form counts (is_some terms)
    ++ flat_map (λ i. line_of form terms (rounds i) (slice_index_or ps i (0, 0))) (range_with_len 0 (length ps))

-- known bytes grow by the lines of all places, with the rounds that a plan tells of each
pub record AppendsRounds (old new : Option (List ℕ)) (form : Form) (counts : Bool) (terms : Option (List Term)) (ps : List Place) : Type 0 where
  pub rounds : ℕ → Option ℕ
  pub told : (i : ℕ) → i < length ps → TellsRounds counts i (rounds i)
  pub appended : Appends old new (rounds_text form counts rounds terms ps)
