-- Why words are no page, and the texts of it.
use Rattle.std.specs.Prelude.{ℕ, List, codes}
use Rattle.nets.specs.Refusals.{level_text}
use Rattle.audit.specs.Refusals.{audit_text}
use Rattle.coats.specs.Refusals.{map_text}
use Rattle.jobs.specs.Refusals.{job_told, told_text}
use Rattle.jobs.specs.declared.job_fault.JobFault.{JobFault}
use Rattle.jobs.specs.declared.job_fault.JobFault.TheVariants as of_job
use Rattle.pages.specs.declared.fault.PageFault.{PageFault}
use Rattle.pages.specs.declared.fault.PageFault.TheVariants.{Words, File, Job, Level, Points, Map, Memory}

abbrev pub fault_of_job : JobFault → PageFault
fault_of_job of_job.Memory = Memory
fault_of_job e = Job e

abbrev pub fault_text : PageFault → List ℕ
fault_text Words = codes "cannot read its words"
fault_text File = codes "cannot read the file"
fault_text (Job e) = told_text (job_told e)
fault_text (Level e) = level_text e
fault_text (Points e) = audit_text e
fault_text (Map e) = map_text e
fault_text Memory = codes "out of memory"
