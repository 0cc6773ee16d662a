-- Bytes that lay down places, four for each.
use Rattle.std.proofs.Common.{◌≡◌, ℕ, zero, suc, ◌+◌, ◌*◌, ◌/◌, ◌<◌, List, [], ◌∷◌, ◌++◌, map, length, Option, refl, slice_index, arith, subst}
use Rattle.std.specs.List.{range_with_len}
use Rattle.std.specs.Io.KnownBytes.{Appends}
use Rattle.std.proofs.KnownBytes.{Appends-nil, Appends-trans}
use Rattle.std.proofs.lemmas.List.{get_or_append_left, get_or-append-add, length-append}
use Rattle.std.proofs.lemmas.List.FromFn.{map-range_with_len_more}
use Rattle.audit.specs.Bytes.{place_at, places_in}
use Rattle.nets.specs.Places.{Place}
use Rattle.listings.specs.Bytes.{AppendsPlaces}

-- functions that agree on a range
same_on : {X : Type 0} (f g : ℕ → X) (a n : ℕ) → ((i : ℕ) → a + i < a + n → f (a + i) ≡ g (a + i)) → map f (range_with_len a n) ≡ map g (range_with_len a n)
same_on f g a zero h = refl
same_on f g a (suc n) h =
    let at : a + 0 ≡ a = omega arith in
    let first : f a ≡ g a = subst (λ n. f n ≡ g n) at (h 0 (omega arith)) in
    let later : map f (range_with_len (a + 1) n) ≡ map g (range_with_len (a + 1) n) = same_on f g (a + 1) n (λ i l. let e : (a + 1) + i ≡ a + (1 + i) = omega arith in rw e (h (1 + i) (omega arith))) in
    rw (first, later) refl

module _ (bs q : List ℕ) (k : ℕ) (long : length bs ≡ 4 * k) where
  before : (i : ℕ) → i < k → place_at (bs ++ q) i ≡ place_at bs i
  before i l = rw (get_or_append_left bs q 0 (4 * i) (omega arith), get_or_append_left bs q 0 (4 * i + 1) (omega arith), get_or_append_left bs q 0 (4 * i + 2) (omega arith), get_or_append_left bs q 0 (4 * i + 2 + 1) (omega arith)) refl

  there : (j : ℕ) → slice_index (bs ++ q) (4 * k + j) ≡ slice_index q j
  there j = subst (λ n. slice_index (bs ++ q) (n + j) ≡ slice_index q j) long (get_or-append-add bs q j 0)

  last : place_at (bs ++ q) k ≡ place_at q 0
  last =
      let a : slice_index (bs ++ q) (4 * k) ≡ slice_index q 0 = let e : 4 * k + 0 ≡ 4 * k = omega arith in subst (λ n. slice_index (bs ++ q) n ≡ slice_index q 0) e (there 0) in
      let b : slice_index (bs ++ q) (4 * k + 1) ≡ slice_index q 1 = there 1 in
      let c : slice_index (bs ++ q) (4 * k + 2) ≡ slice_index q 2 = there 2 in
      let d : slice_index (bs ++ q) (4 * k + 2 + 1) ≡ slice_index q 3 = let e : 4 * k + 2 + 1 ≡ 4 * k + 3 = omega arith in rw e (there 3) in
      rw (a, b, c, d) refl

  places_in_more : length q ≡ 4 → places_in (bs ++ q) ≡ places_in bs ++ place_at q 0 ∷ []
  places_in_more four =
      let all : length (bs ++ q) ≡ 4 * (k + 1) = rw (length-append bs q) (omega arith) in
      let n : length (bs ++ q) / 4 ≡ k + 1 = rw all (omega arith) in
      let m : length bs / 4 ≡ k = rw long (omega arith) in
      let more = map-range_with_len_more (place_at (bs ++ q)) 0 k k (omega arith) in
      let same = same_on (place_at (bs ++ q)) (place_at bs) 0 k (λ i l. let z : 0 + i ≡ i = omega arith in rw z (before i (omega (arith, l)))) in
      rw (n, m, more, same, last) refl

pub none_yet : (a : Option (List ℕ)) → AppendsPlaces a a []
none_yet a = record { bytes = []; appended = Appends-nil a; long = refl; places = refl }

pub just_one : (a b : Option (List ℕ)) (p : Place) (q : List ℕ) → Appends a b q → length q ≡ 4 → place_at q 0 ≡ p → AppendsPlaces a b (p ∷ [])
just_one a b p q more four is = record { bytes = q; appended = more; long = four; places = rw (four, is) refl }

pub one_more : (a b c : Option (List ℕ)) (ps : List Place) (p : Place) → AppendsPlaces a b ps → AppendsPlaces b c (p ∷ []) → AppendsPlaces a c (ps ++ p ∷ [])
one_more a b c ps p x y =
    let four : length y.bytes ≡ 4 = y.long in
    let is : place_at y.bytes 0 ∷ [] ≡ p ∷ [] = rw four at y.places in
    record {
      bytes = x.bytes ++ y.bytes;
      appended = Appends-trans a b c x.bytes y.bytes x.appended y.appended;
      long = rw (length-append x.bytes y.bytes, length-append ps (p ∷ []), x.long, four) (omega arith);
      places = rw (places_in_more x.bytes y.bytes (length ps) x.long four, x.places, is) refl;
    }
