-- What the refusals of writing tell, and their texts.
use Rattle.std.specs.Prelude.{ℕ, List, [], ◌∷◌, ◌++◌, codes, decimal}
use Rattle.refusals.specs.Told.{Told, refused, no_memory}
use Rattle.reports.specs.declared.text_fault.TextFault.{TextFault}
use Rattle.reports.specs.declared.text_fault.TextFault.TheVariants.{Short, Memory}

-- 31: the place has fewer than 96 bytes; how many it has
abbrev pub text_told : TextFault → Told
text_told (Short n) = refused 31 (n ∷ [])
text_told Memory = no_memory

abbrev pub fault_text : TextFault → List ℕ
fault_text (Short n) = codes "refused 31 place " ++ decimal n
fault_text Memory = codes "out of memory"
