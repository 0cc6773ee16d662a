-- The first element that fails a test, or that all pass.
use Rattle.std.proofs.lemmas.List.Elements.{All-from_all_within, AllWithin-upto}

pub ruleset firsts = (All-from_all_within, AllWithin-upto)
