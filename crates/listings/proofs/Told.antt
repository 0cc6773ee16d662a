-- The rounds that a plan tells of each index.
use Rattle.std.proofs.Common.{◌≡◌, ℕ, ℤ, zero, suc, ◌+◌, Bool, true, false, List, [], ◌∷◌, ◌++◌, length, slice_index_or, Some, None, Option, refl, ap, subst, ◌∙◌, append-nil, append_assoc, arith}
use Rattle.std.specs.Io.KnownBytes.{Appends}
use Rattle.std.specs.List.{flat_map, range_with_len}
use Rattle.std.specs.Option.{option_map}
use Rattle.std.specs.Prelude.{codes, is_some}
use Rattle.std.proofs.KnownBytes.{Appends-trans}
use Rattle.std.proofs.lemmas.Grind.{flat_map-append}
use Rattle.coats.specs.Terms.{coat_of}
use Rattle.coats.specs.declared.term.Term.{Term}
use Rattle.nets.specs.Places.{Place}
use Rattle.nets.specs.Rounds.{TellsRounds}
use Rattle.nets.proofs.BitLengths.{has_bit_length, bit_length_same}
use Rattle.listings.specs.Lists.{head_of, place_text, line_of, AppendsRounds}
use Rattle.listings.specs.declared.lists.Form.{Form}

-- the rounds that are told of an index
abbrev pub rounds_of : (counts : Bool) (i : ℕ) → Option ℕ
rounds_of true i = Some (has_bit_length i).0
rounds_of false i = None

pub rounds_told : (counts : Bool) (i : ℕ) → TellsRounds counts i (rounds_of counts i)
rounds_told true i = (has_bit_length i).1
rounds_told false i = tt

-- and nothing else may be told of it
pub rounds_same : (counts : Bool) (i : ℕ) (r : Option ℕ) → TellsRounds counts i r → r ≡ rounds_of counts i
rounds_same true i (Some n) h = ap Some (bit_length_same i n (has_bit_length i).0 h (has_bit_length i).1)
rounds_same true i None h = absurd h
rounds_same false i (Some n) h = absurd h
rounds_same false i None h = refl

-- a number more at the end
range_more : (a n : ℕ) → range_with_len a (suc n) ≡ range_with_len a n ++ (a + n) ∷ []
range_more a zero = let e : a + 0 ≡ a = omega arith in rw e refl
range_more a (suc n) = let e : (a + 1) + n ≡ a + suc n = omega arith in ap (λ xs. a ∷ xs) (range_more (a + 1) n ∙ ap (λ z. range_with_len (a + 1) n ++ z ∷ []) e)

one_line_more : (f : ℕ → List ℕ) (n : ℕ) → flat_map f (range_with_len 0 (n + 1)) ≡ flat_map f (range_with_len 0 n) ++ f n
one_line_more f n =
    let one : n + 1 ≡ suc n = omega arith in
    let last : 0 + n ≡ n = omega arith in
    rw one (ap (flat_map f) (range_more 0 n) ∙ flat_map-append f (range_with_len 0 n) ((0 + n) ∷ []) ∙ ap (λ xs. flat_map f (range_with_len 0 n) ++ xs) (append-nil (f (0 + n)) ∙ ap f last))

-- the line of an index
abbrev pub told_line : Form → (counts : Bool) → Option (List Term) → List Place → (i : ℕ) → List ℕ
told_line form counts terms ps i = line_of form terms (rounds_of counts i) (slice_index_or ps i (0, 0))

module _ (a b : Option (List ℕ)) (head : List ℕ) (form : Form) (counts : Bool) (terms : Option (List Term)) (ps : List Place) (n : ℕ) (so_far : Appends a b (head ++ flat_map (told_line form counts terms ps) (range_with_len 0 n))) where
  -- one place more
  pub line_more : (c : Option (List ℕ)) (p : Place) (rounds : Option ℕ) (coat : Option ℤ)
      → Appends b c (place_text form p rounds coat ++ codes "\n") → p ≡ slice_index_or ps n (0, 0) → TellsRounds counts n rounds → coat ≡ option_map (λ ts. coat_of ts p) terms
      → Appends a c (head ++ flat_map (told_line form counts terms ps) (range_with_len 0 (n + 1)))
  line_more c p rounds coat line at told there =
      let q : Place = slice_index_or ps n (0, 0) in
      let here : coat ≡ option_map (λ ts. coat_of ts q) terms = subst (λ p. coat ≡ option_map (λ ts. coat_of ts p) terms) at there in
      let placed : Appends b c (place_text form q rounds coat ++ codes "\n") = subst (λ p. Appends b c (place_text form p rounds coat ++ codes "\n")) at line in
      let counted : Appends b c (place_text form q (rounds_of counts n) coat ++ codes "\n") = subst (λ r. Appends b c (place_text form q r coat ++ codes "\n")) (rounds_same counts n rounds told) placed in
      let is : Appends b c (told_line form counts terms ps n) = subst (λ z. Appends b c (place_text form q (rounds_of counts n) z ++ codes "\n")) here counted in
      let all = Appends-trans a b c (head ++ flat_map (told_line form counts terms ps) (range_with_len 0 n)) (told_line form counts terms ps n) so_far is in
      rw (one_line_more (told_line form counts terms ps) n) (rw (append_assoc head _ _) at all)

-- all places
pub all_told : (a b : Option (List ℕ)) (form : Form) (counts : Bool) (terms : Option (List Term)) (ps : List Place) (n : ℕ) → n ≡ length ps
    → Appends a b (head_of form counts (is_some terms) ++ flat_map (told_line form counts terms ps) (range_with_len 0 n)) → AppendsRounds a b form counts terms ps
all_told a b form counts terms ps n e h = record { rounds = rounds_of counts; told = λ i _. rounds_told counts i; appended = rw e at h }

pub ruleset told = (line_more, all_told)
