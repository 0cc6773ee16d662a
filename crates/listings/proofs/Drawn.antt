-- Dots and figures, with something before, between and after them.
use Rattle.std.proofs.Common.{ℕ, List, ◌++◌, length, drop, Some, None, Option, []}
use Rattle.std.specs.Io.KnownBytes.{Appends}
use Rattle.std.proofs.KnownBytes.{Appends-trans}
use Rattle.listings.specs.Pictures.{Grows, AppendsPicture}

-- what comes after the known bytes
abbrev rest : Option (List ℕ) → Option (List ℕ) → List ℕ
rest (Some xs) (Some ys) = drop (length xs) ys
rest _ _ = []

appended : (a b : Option (List ℕ)) → Grows a b → Appends a b (rest a b)
appended None b g = tt
appended (Some xs) None g = absurd g
appended (Some xs) (Some ys) g = g

-- something, and then a text
after : (a b c : Option (List ℕ)) (text : List ℕ) → Grows a b → Appends b c text → Appends a c (rest a b ++ text)
after a b c text g h = Appends-trans a b c (rest a b) text (appended a b g) h

pub drawn : (a b c d e f : Option (List ℕ)) (dots figures : List ℕ) → Grows a b → Appends b c dots → Grows c d → Appends d e figures → Grows e f → AppendsPicture a f dots figures
drawn a b c d e f dots figures back here next there end =
    let told : Appends d f (figures ++ rest e f) = Appends-trans d e f figures (rest e f) there (appended e f end) in
    let below : Appends c f (rest c d ++ (figures ++ rest e f)) = after c d f (figures ++ rest e f) next told in
    let all : Appends b f (dots ++ (rest c d ++ (figures ++ rest e f))) = Appends-trans b c f dots (rest c d ++ (figures ++ rest e f)) here below in
    record {
      before = rest a b;
      between = rest c d;
      after = rest e f;
      appended = after a b f (dots ++ (rest c d ++ (figures ++ rest e f))) back all;
    }
