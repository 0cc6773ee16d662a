-- Places written as bytes.
use Rattle.std.specs.Prelude.{◌≡◌, ℕ, ◌*◌, List, length, Option}
use Rattle.std.specs.Io.KnownBytes.{Appends}
use Rattle.audit.specs.Bytes.{places_in}
use Rattle.nets.specs.Places.{Place}

-- known bytes grow by four for each place, and these lay down the places
pub record AppendsPlaces (old new : Option (List ℕ)) (ps : List Place) : Type 0 where
  pub bytes : List ℕ
  pub appended : Appends old new bytes
  pub long : length bytes ≡ 4 * length ps
  pub places : places_in bytes ≡ ps
