-- What the refusals of the audit and of loading tell: their numbers, values and texts.
use Rattle.std.specs.Prelude.{ℕ, List, [], ◌∷◌, codes, decimal}
use Rattle.refusals.specs.Told.{Told, refused, no_memory}
use Rattle.refusals.specs.Texts.{text_of}
use Rattle.audit.specs.declared.faults.NotNet.{NotNet}
use Rattle.audit.specs.declared.faults.AuditFault.{AuditFault}
use Rattle.audit.specs.declared.faults.AuditFault.TheVariants.{Length, Empty}
use Rattle.audit.specs.declared.faults.LoadFault.{LoadFault}
use Rattle.audit.specs.declared.faults.LoadFault.TheVariants.{Audit, Memory}

-- 13: not a net; the depth and the number of an empty interval
abbrev pub net_told : NotNet → Told
net_told e = refused 13 (e.depth ∷ e.interval ∷ [])

abbrev pub net_text : NotNet → List ℕ
net_text e = text_of (codes "refused 13 depth " ∷ decimal e.depth ∷ codes " interval " ∷ decimal e.interval ∷ [])

-- 12: no level's list has this length; the length
abbrev pub audit_told : AuditFault → Told
audit_told (Length n) = refused 12 (n ∷ [])
audit_told (Empty e) = net_told e

abbrev pub audit_text : AuditFault → List ℕ
audit_text (Length n) = text_of (codes "refused 12 place " ∷ decimal n ∷ [])
audit_text (Empty e) = net_text e

abbrev pub load_told : LoadFault → Told
load_told (Audit e) = audit_told e
load_told Memory = no_memory

abbrev pub load_text : LoadFault → List ℕ
load_text (Audit e) = audit_text e
load_text Memory = codes "out of memory"
