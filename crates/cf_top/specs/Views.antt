use Rattle.std.specs.Prelude.{ℕ, List, [], ◌∷◌, ◌++◌, Option, Some, None}
use Rattle.cf_circuits.specs.LinkFaults.{name_of}
use Rattle.cf_reference.specs.Reasons as refused
use Rattle.cf_session.specs.Faults.{reason_of}
use Rattle.cf_top.specs.declared.reason.Reason.{Reason}
use Rattle.cf_top.specs.declared.reason.Reason.TheVariants as reason

-- a reason as the reference run has it
abbrev pub reason_view : Reason → refused.Refusal
reason_view reason.Malformed = refused.Malformed
reason_view reason.LineTooLong = refused.LineTooLong
reason_view reason.ScriptTooLong = refused.ScriptTooLong
reason_view reason.WideNumber = refused.WideNumber
reason_view reason.TooDeep = refused.TooDeep
reason_view (reason.Statement r) = reason_of r

-- the name that ends a refusal, where it has one
abbrev pub last_name : refused.Refusal → Option (List ℕ)
last_name (refused.Links fault) = name_of fault
last_name other = None

-- the name and the end of its line
abbrev pub line_of_name : Option (List ℕ) → List ℕ
line_of_name None = []
line_of_name (Some name) = name ++ 10 ∷ []
