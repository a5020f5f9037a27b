-- What a line comes to that was parsed, and a statement that the session carried out or didn't.
use Rattle.std.proofs.Common.{ℕ, ◌≡◌, List, ap, sym, ◌∙◌, subst, arith}
use Rattle.std.proofs.lemmas.Bool.{false≢true}
use Rattle.cf_io.specs.Shown.{FilesView, FilesAreTold}
use Rattle.cf_reference.specs.Trees.{Statement, Empty, Level, Vars, Let, Load, Value, Entry, First, Listed, Equal, Size, Stats}
use Rattle.cf_reference.specs.States.{State, Files}
use Rattle.cf_reference.specs.LineRefusals.{Parsed, Parses}
use Rattle.cf_reference.specs.Parsing.{parse}
use Rattle.cf_reference.specs.Carrying.{Outcome, Refuses, Goes}
use Rattle.cf_reference.specs.Scripts.{step_parsed, text_of}
use Rattle.cf_reference.specs.Scripts as scripts
use Rattle.cf_reference.proofs.ParseLaws.{parse-is}
use Rattle.cf_session.specs.Sessions.{Held, state_of}
use Rattle.cf_session.specs.Contents.{KeepsFiles}
use Rattle.cf_session.specs.Faults.{reason_of}
use Rattle.cf_session.specs.Stepping.{LeadsTo, Replies, FilesAreToldFor}
use Rattle.cf_session.specs.declared.step.Stepped.TheVariants as stepped
use Rattle.cf_session.specs.declared.faults.Refusal.{Refusal}
use Rattle.cf_top.specs.Carrying.{StopsAt, Carries}
use Rattle.cf_top.specs.declared.script.Carried.TheVariants as carried
use Rattle.cf_top.specs.declared.status.Status.{Status}
use Rattle.cf_top.specs.declared.status.Status.TheVariants as status

-- what a line does is what the parse of its bytes does
pub parsed : (files : Files) (s : State) (line : List ℕ) (p : Parsed) → Parses line p → step_parsed files s p ≡ step_parsed files s (parse line)
parsed files s line p h = sym (ap (step_parsed files s) (parse-is line p h))

-- files that are told are told for each statement
pub told_for : (files : FilesView) (t : Statement) → FilesAreTold files → FilesAreToldFor files t
told_for files (Load prefix file) told = told
told_for files Empty told = tt
told_for files (Level k) told = tt
told_for files (Vars names) told = tt
told_for files (Let name e) told = tt
told_for files (Value name bits) told = tt
told_for files (Entry name row column) told = tt
told_for files (First name v) told = tt
told_for files (Listed name v most) told = tt
told_for files (Equal name other) told = tt
told_for files (Size name) told = tt
told_for files Stats told = tt

-- one statement after others
pub KeepsFiles-trans : (old now new : FilesView) → KeepsFiles old now → KeepsFiles now new → KeepsFiles old new
KeepsFiles-trans old now new h k = record {
  entries = record { told = k.entries.told ∙ h.entries.told; entries = k.entries.entries ∙ h.entries.entries };
  misses = omega (arith, h.misses, k.misses);
  faults = omega (arith, h.faults, k.faults);
}

-- a statement was carried out
pub written : (outcome : Outcome) (n : ℕ) (old new : Held) (before after : List ℕ)
    → LeadsTo outcome old new stepped.Written → Replies outcome before after stepped.Written
    → Carries outcome n (state_of old) before (state_of new) after carried.Goes
written (Refuses r) n old new before after leads replies = absurd (false≢true (sym leads.0))
written (Goes t reply) n old new before after leads replies =
    (leads.0, record { state = sym (ap (scripts.state_of (state_of old)) leads.1); text = replies })

-- a statement was refused, and what came of writing this
pub refused : (outcome : Outcome) (n : ℕ) (old new : Held) (before now after : List ℕ) (r : Refusal) (how : Status)
    → LeadsTo outcome old new (stepped.Refused r) → Replies outcome before now (stepped.Refused r)
    → ((s : State) → StopsAt (Refuses (reason_of r)) n s now s after how)
    → StopsAt outcome n (state_of old) before (state_of new) after how
refused outcome n old new before now after r how leads replies stops =
    subst (λ (o : Outcome). StopsAt o n (state_of old) before (state_of new) after how) (sym leads.0)
    (subst (λ (s : State). StopsAt (Refuses (reason_of r)) n (state_of old) before s after how) (sym leads.1.state)
    (subst (λ w. StopsAt (Refuses (reason_of r)) n (state_of old) w (state_of old) after how) replies
    (stops (state_of old))))

-- its reply couldn't be written
pub unwritten : (outcome : Outcome) (n : ℕ) (old new : Held) (before after : List ℕ)
    → LeadsTo outcome old new stepped.WriteFault → Replies outcome before after stepped.WriteFault
    → StopsAt outcome n (state_of old) before (state_of new) after status.WriteFault
unwritten (Refuses r) n old new before after leads replies = absurd (false≢true (sym leads.0))
unwritten (Goes t reply) n old new before after leads replies = replies
