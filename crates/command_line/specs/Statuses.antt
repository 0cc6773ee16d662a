-- The status that a program ends with.
use Rattle.std.specs.Prelude.{◌≡◌, ◌⊎◌, ℕ, Ok, Err, Result}
use Rattle.std.specs.IoError.{error_kind}
use Rattle.std.specs.Process.{exit_status}
use Rattle.std.specs.declared.io.ErrorKind.TheVariants as of_system
use Rattle.std.specs.declared.process.ExitCode.{ExitCode}
use Rattle.clap.specs.Values.{kind_of}
use Rattle.clap.specs.declared.error.kind.ErrorKind.TheVariants as of_arguments
use Rattle.clap.specs.declared.error.Error.{Error}
use Rattle.command_line.specs.declared.failure.Failure.{Failure}
use Rattle.command_line.specs.declared.failure.Failure.TheVariants.{Arguments, NotText, System}

-- memory is wanting
abbrev pub IsWanting : Failure → Type 0
IsWanting (System e) = error_kind e ≡ of_system.OutOfMemory
IsWanting _ = ⊥

-- the arguments ask for the help or the version
abbrev pub Asks : Error → Type 0
Asks e = (kind_of e ≡ of_arguments.DisplayHelp) ⊎ (kind_of e ≡ of_arguments.DisplayVersion)

-- the status that a run gives; 2 for wrong arguments; 0 for the help or the version, if they could be printed; and the
-- program's own where it failed
abbrev pub EndsWith : (failed : ℕ) → Result ℕ Failure → ExitCode → Type 0
EndsWith failed (Ok status) code = exit_status code ≡ status
EndsWith failed (Err (Arguments e)) code =
    (Asks e → (exit_status code ≡ 0) ⊎ (exit_status code ≡ failed))
    × ((Asks e → ⊥) → exit_status code ≡ 2)
EndsWith failed (Err NotText) code = exit_status code ≡ 2
EndsWith failed (Err _) code = exit_status code ≡ failed
