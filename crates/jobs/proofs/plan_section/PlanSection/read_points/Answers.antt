use Rattle.std.proofs.Common.{rules, ◌≡◌, drop}
use Rattle.audit.specs.declared.place_bytes.PlaceBytes.{PlaceBytes}
use Rattle.jobs.specs.Inner.{IsNetAt}
use Rattle.jobs.proofs.Plans.{points_pass}
use Rattle.jobs.proofs.plan_section.PlanSection.read_points.Goals as goal

pub returns : goal.returns
returns c =
    let p : PlaceBytes = c.in_ok-places.places in
    let same : p.level ≡ c.args.level = search rules in
    let rest : p.bytes.now ≡ drop 2 c.args.bytes.now = search rules in
    let net : IsNetAt p c.in_ok-audit_at.field-0 = search rules in
    (search rules, points_pass c.args.start c.args.bytes.now c.args.level p c.requires.kind c.requires.head c.requires.level same rest _ net)
