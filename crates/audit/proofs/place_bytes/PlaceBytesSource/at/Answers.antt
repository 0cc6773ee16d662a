use Rattle.std.proofs.Common.{ℕ, arith}
use Rattle.std.proofs.lemmas.List.FromFn.{length-map-range_with_len, get_or-map-range_with_len}
use Rattle.audit.proofs.place_bytes.PlaceBytesSource.at.Goals as goal

pub read_place-requires : goal.read_place-requires
read_place-requires c = omega (arith, length-map-range_with_len {X = ℕ × ℕ})

pub returns : goal.returns
returns c = grind (arith, length-map-range_with_len {X = ℕ × ℕ}, get_or-map-range_with_len {X = ℕ × ℕ})
