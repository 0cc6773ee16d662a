use Rattle.std.proofs.Common.{ℕ, arith}
use Rattle.std.proofs.lemmas.List.FromFn.{length-map-range_with_len}
use Rattle.audit.proofs.place_bytes.PlaceBytes.audit.Goals as goal

pub invariant_of-examination : goal.invariant_of-examination
invariant_of-examination c = grind (arith, length-map-range_with_len {X = ℕ × ℕ})
