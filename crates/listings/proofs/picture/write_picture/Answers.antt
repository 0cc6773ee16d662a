use Rattle.std.proofs.Common.{◌≡◌, rules}
use Rattle.listings.proofs.Drawn.{drawn}
use Rattle.listings.specs.Dots.{dot_radius}
use Rattle.listings.proofs.picture.write_picture.Goals as goal

pub returns : goal.returns
returns g c =
    let radius : c.dot_radius.result ≡ dot_radius (g.P.Net.level c.args.plan.now) = search rules in
    rw (← radius) (drawn _ _ _ _ _ _ _ _ c.in_ok-write_back.ensures c.in_ok-write_dots.ensures c.in_ok-write_numbers.ensures c.in_ok-write_figures.ensures c.in_ok-write_end.ensures)
