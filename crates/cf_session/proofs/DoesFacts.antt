-- What an answer says of the session, of the files and of what was written.
use Rattle.std.proofs.Common.{ℕ, ◌≡◌, ◌≤◌, List, Bool, true, false, refl, ap, subst, arith}
use Rattle.std.specs.Prelude.{◌≢◌, IsTrue}
use Rattle.cf_io.specs.Causes.{Rose}
use Rattle.cf_io.specs.Shown.{FilesView, SinkView}
use Rattle.cf_pkg.specs.Packages.{Keeps}
use Rattle.cf_reference.specs.Reasons as reason
use Rattle.cf_reference.specs.Trees.{Statement}
use Rattle.cf_reference.specs.States.{Files}
use Rattle.cf_reference.specs.Carrying.{Outcome, step}
use Rattle.std.proofs.lemmas.Bool.{false≢true}
use Rattle.cf_session.specs.declared.faults.Refusal.{Refusal}
use Rattle.cf_session.specs.declared.faults.Refusal.TheVariants.{NoFile, FileTooLarge}
use Rattle.cf_session.specs.declared.step.Stepped.{Stepped}
use Rattle.cf_session.specs.declared.step.Stepped.TheVariants as stepped
use Rattle.std.specs.Borrow.{Bor}
use Rattle.cf_script.specs.declared.trees.Statement.{Statement as Line}
use Rattle.cf_script.specs.declared.trees.Statement.TheVariants as line
use Rattle.cf_script.specs.Views.{statement_of}
use Rattle.cf_session.specs.Sessions.{Held, state_of}
use Rattle.cf_session.specs.Building.{Grows}
use Rattle.cf_session.specs.Contents.{KeepsFiles}
use Rattle.cf_session.specs.Stepping.{LeadsTo, Replies, IsAnswerTo, IsSilent, Does, ShowsAnswer, reads_file}
use Rattle.cf_session.proofs.FewReasons.{plain-step}

pub does-leads : (outcome : Outcome) (old new : Held) (before after : SinkView) (a : Stepped)
    → Does outcome old new before after a → LeadsTo outcome old new a
does-leads outcome old new before after stepped.Written d = (d.0, d.1)
does-leads outcome old new before after (stepped.Refused r) d = (d.0, d.1)
does-leads outcome old new before after stepped.WriteFault d = (d.0, d.1)
does-leads outcome old new before after stepped.FileFault d = d.0
does-leads outcome old new before after stepped.NoMemory d = d.0

pub does-replies : (outcome : Outcome) (old new : Held) (before after : SinkView) (a : Stepped)
    → Does outcome old new before after a → IsTrue before.tells → Replies outcome before.written after.written a
does-replies outcome old new before after stepped.Written d told = d.3.bytes told
does-replies outcome old new before after (stepped.Refused r) d told = ap (λ (k : SinkView). k.written) d.2
does-replies outcome old new before after stepped.WriteFault d told = d.2.front told
does-replies outcome old new before after stepped.FileFault d told = ap (λ (k : SinkView). k.written) d.1
does-replies outcome old new before after stepped.NoMemory d told = ap (λ (k : SinkView). k.written) d.1

pub does-complete : (outcome : Outcome) (old new : Held) (before after : SinkView) (a : Stepped)
    → Does outcome old new before after a → a ≢ stepped.FileFault → ¬ Rose before.faults after.faults
    → a ≢ stepped.NoMemory → IsAnswerTo outcome a
does-complete outcome old new before after stepped.Written d file write memory = d.0
does-complete outcome old new before after (stepped.Refused r) d file write memory = d.0
does-complete outcome old new before after stepped.WriteFault d file write memory = absurd (write d.2.rose)
does-complete outcome old new before after stepped.FileFault d file write memory = absurd (file refl)
does-complete outcome old new before after stepped.NoMemory d file write memory = absurd (memory refl)

pub does-names : (outcome : Outcome) (old new : Held) (before after : SinkView) (a : Stepped)
    → Does outcome old new before after a → a ≢ stepped.Written → Grows old new
does-names outcome old new before after stepped.Written d other = absurd (other refl)
does-names outcome old new before after (stepped.Refused r) d other = d.1
does-names outcome old new before after stepped.WriteFault d other = d.1
does-names outcome old new before after stepped.FileFault d other = d.0
does-names outcome old new before after stepped.NoMemory d other = d.0

pub does-silent : (outcome : Outcome) (old new : Held) (before after : SinkView) (a : Stepped)
    → Does outcome old new before after a → IsSilent a before after
does-silent outcome old new before after stepped.Written d = tt
does-silent outcome old new before after (stepped.Refused r) d = d.2
does-silent outcome old new before after stepped.WriteFault d = tt
does-silent outcome old new before after stepped.FileFault d = d.1
does-silent outcome old new before after stepped.NoMemory d = d.1

-- What holds of the package and the sink on each answer.
pub record Always (old new : Held) (before after : SinkView) (a : Stepped) : Type 0 where
  pub kept : Keeps old.pkg new.pkg
  pub told : after.tells ≡ before.tells
  pub later : before.faults ≤ after.faults
  pub write : a ≡ stepped.WriteFault → Rose before.faults after.faults

-- whether a write failed
fails_write : Stepped → Bool
fails_write stepped.WriteFault = true
fails_write stepped.Written = false
fails_write (stepped.Refused r) = false
fails_write stepped.FileFault = false
fails_write stepped.NoMemory = false

apart_written : stepped.Written ≡ stepped.WriteFault → ⊥
unfolding fails_write
apart_written e = false≢true (ap fails_write e)

apart_refused : (r : Refusal) → stepped.Refused r ≡ stepped.WriteFault → ⊥
unfolding fails_write
apart_refused r e = false≢true (ap fails_write e)

apart_file : stepped.FileFault ≡ stepped.WriteFault → ⊥
unfolding fails_write
apart_file e = false≢true (ap fails_write e)

apart_memory : stepped.NoMemory ≡ stepped.WriteFault → ⊥
unfolding fails_write
apart_memory e = false≢true (ap fails_write e)

not_later : (before after : SinkView) → after ≡ before → before.faults ≤ after.faults
not_later before after e = let n = ap (λ (k : SinkView). k.faults) e in omega (arith, n)

pub does-always : (outcome : Outcome) (old new : Held) (before after : SinkView) (a : Stepped)
    → Does outcome old new before after a → Always old new before after a
does-always outcome old new before after stepped.Written d =
    record { kept = d.2; told = d.3.told; later = d.3.later; write = λ e. absurd (apart_written e) }
does-always outcome old new before after (stepped.Refused r) d = record {
  kept = d.1.functions;
  told = ap (λ (k : SinkView). k.tells) d.2;
  later = not_later before after d.2;
  write = λ e. absurd (apart_refused r e);
}
does-always outcome old new before after stepped.WriteFault d =
    record { kept = d.1.functions; told = d.2.told; later = d.2.later; write = λ e. d.2.rose }
does-always outcome old new before after stepped.FileFault d = record {
  kept = d.0.functions;
  told = ap (λ (k : SinkView). k.tells) d.1;
  later = not_later before after d.1;
  write = λ e. absurd (apart_file e);
}
does-always outcome old new before after stepped.NoMemory d = record {
  kept = d.0.functions;
  told = ap (λ (k : SinkView). k.tells) d.1;
  later = not_later before after d.1;
  write = λ e. absurd (apart_memory e);
}

-- A statement that reads no file isn't refused for one.
pub never-missing : (files : Files) (t : Statement) (old new : Held) (before after : SinkView) (a : Stepped)
    → reads_file t ≡ false → Does (step files (state_of old) t) old new before after a → a ≢ stepped.Refused NoFile
never-missing files t old new before after a plain d e =
    let d = subst (Does (step files (state_of old) t) old new before after) e d in
    let few = plain-step files (state_of old) t reason.NoFile plain d.0 in
    omega (arith, few)

pub never-large : (files : Files) (t : Statement) (old new : Held) (before after : SinkView) (a : Stepped)
    → reads_file t ≡ false → Does (step files (state_of old) t) old new before after a → a ≢ stepped.Refused FileTooLarge
never-large files t old new before after a plain d e =
    let d = subst (Does (step files (state_of old) t) old new before after) e d in
    let few = plain-step files (state_of old) t reason.FileTooLarge plain d.0 in
    omega (arith, few)

-- the answer of `load`, where no fault was counted
pub load-complete : (was now : FilesView) (outcome : Outcome) (old new : Held) (before after : SinkView) (a : Stepped)
    → Does outcome old new before after a → ShowsAnswer was now a → ¬ Rose was.faults now.faults
    → ¬ Rose before.faults after.faults → a ≢ stepped.NoMemory → IsAnswerTo outcome a
load-complete was now outcome old new before after a d shows still write memory =
    does-complete outcome old new before after a d (λ e. still (subst (ShowsAnswer was now) e shows)) write memory

-- files that weren't asked
pub same-files : (at : FilesView) → KeepsFiles at at
same-files at = record { entries = record { told = refl; entries = refl }; misses = omega arith; faults = omega arith }

-- any other statement than `load`
pub reads-none : (st : Line) → ((prefix file : Bor (List ℕ)) → st ≡ line.Load prefix file → ⊥)
    → reads_file (statement_of st) ≡ false
reads-none line.Empty other = refl
reads-none (line.Level k) other = refl
reads-none (line.Vars names) other = refl
reads-none (line.Let name e) other = refl
reads-none (line.Load prefix file) other = absurd (other prefix file refl)
reads-none (line.Value name bits) other = refl
reads-none (line.First name v) other = refl
reads-none (line.List name v most) other = refl
reads-none (line.Entry name row col) other = refl
reads-none (line.Equal name other_name) other = refl
reads-none (line.Size name) other = refl
reads-none line.Stats other = refl
