-- A net is accepted, and by the number of its own level.
use Rattle.std.proofs.Common.{◌≡◌, ℕ, ◌+◌, ◌*◌, ◌^◌, List, Ok, Err, Result, sym, ap, ◌∙◌, subst, inl, inr, arith}
use Rattle.nets.specs.Places.{Place, IsNet}
use Rattle.refusals.specs.Told.{Told}
use Rattle.nets.proofs.Intervals.{held_from_net, same_level}
use Rattle.audit.specs.declared.faults.AuditFault.{AuditFault}
use Rattle.audit.specs.declared.faults.NotNet.{NotNet}
use Rattle.audit.specs.Audits.{IsNoNet, Judges, Audits}

-- a net is not refused as none
pub not_refused : (m k : ℕ) (ps : List Place) (t : Told) → IsNet m ps → IsNoNet k ps t → ⊥
not_refused m k ps t net e =
    let first = e.first in
    let here : IsNet k ps = subst (λ z. IsNet z ps) (same_level m k (sym net.long ∙ e.long)) net in
    omega (arith, first.smallest.1, held_from_net k ps here e.d e.n first.depth first.smallest.0)

-- the examination accepts a net of its level
pub net_judged : (m : ℕ) (ps : List Place) (r : Result ℕ NotNet) → IsNet m ps → Judges m ps r → r ≡ Ok ((m + 1) * 2 ^ m)
net_judged m ps (Ok n) net e = ap Ok e.all
net_judged m ps (Err e) net h = absurd (not_refused m m ps _ net h)

-- and so does the audit, which finds the level by the length
pub accepted : (ps : List Place) (r : Result ℕ AuditFault) → Audits ps r → (m : ℕ) → IsNet m ps → r ≡ Ok ((m + 1) * 2 ^ m)
accepted ps (Ok n) (k, e) m net = ap Ok (e.all ∙ ap (λ z. (z + 1) * 2 ^ z) (same_level k m (sym e.net.long ∙ net.long)))
accepted ps (Err e) (inl w) m net = absurd (w.never m net.level (omega (arith, net.long)))
accepted ps (Err e) (inr (k, h)) m net = absurd (not_refused m k ps _ net h)
