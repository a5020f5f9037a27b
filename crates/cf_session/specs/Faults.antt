use Rattle.cf_model.specs.Assignments.{bits}
use Rattle.cf_reference.specs.Reasons as reason
use Rattle.cf_pkg.specs.declared.jobs.OpFault.{OpFault}
use Rattle.cf_pkg.specs.declared.jobs.OpFault.TheVariants as op
use Rattle.cf_session.specs.declared.faults.Refusal.{Refusal}
use Rattle.cf_session.specs.declared.faults.Refusal.TheVariants.{NoLevel, LevelAgain, NoName, Taken, TooManyVars, LevelsDiffer, BadLevel, OutOfRange, Overflow, NoFile, FileTooLarge, Circuit, Links}
use Rattle.cf_session.specs.declared.faults.StepFault.{StepFault}
use Rattle.cf_session.specs.declared.faults.StepFault.TheVariants.{NoMemory, Refused}

-- a refusal as the reference run has it
abbrev pub reason_of : Refusal → reason.Refusal
reason_of NoLevel = reason.NoLevel
reason_of LevelAgain = reason.LevelAgain
reason_of NoName = reason.NoName
reason_of Taken = reason.Taken
reason_of TooManyVars = reason.TooManyVariables
reason_of LevelsDiffer = reason.LevelsDiffer
reason_of BadLevel = reason.BadLevel
reason_of OutOfRange = reason.OutOfRange
reason_of (Overflow at) = reason.Overflow (bits at)
reason_of NoFile = reason.NoFile
reason_of FileTooLarge = reason.FileTooLarge
reason_of (Circuit line why) = reason.Circuit (record { line = line; why = why })
reason_of (Links fault) = reason.Links fault

-- the fault of an operation as that of an expression
abbrev pub fault_of : OpFault → StepFault
fault_of op.NoMemory = NoMemory
fault_of (op.Overflow at) = Refused (Overflow at)
