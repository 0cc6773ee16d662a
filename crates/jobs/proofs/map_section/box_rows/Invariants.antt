use Rattle.std.proofs.Common.{◌≡◌, map}
use Rattle.std.specs.List.{range_with_len}
use Rattle.maps.specs.declared.map.MapKind.TheVariants.{Boxes}
use Rattle.jobs.specs.Layout.{box_from, row_start}
use Rattle.jobs.proofs.map_section.box_rows.Given as goal

abbrev pub invariant-loop-i : goal.invariant-loop-i
invariant-loop-i l = l.rows.items ≡ map (λ i. box_from l.bytes (row_start Boxes i)) (range_with_len 0 l.i)
