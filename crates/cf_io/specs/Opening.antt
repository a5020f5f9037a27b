use Rattle.std.specs.Prelude.{ℕ, ◌≡◌, ◌+◌, Bool, true, false, List, [], ◌++◌, take, Option, Some, None, IsTrue}
use Rattle.cf_reference.specs.States.{content_of}
use Rattle.cf_io.specs.Causes.{Counts, HasCause}
use Rattle.cf_io.specs.Reading.{count_of, is_end, is_failed}
use Rattle.cf_io.specs.Shown.{FilesView, FilesAreTold}
use Rattle.cf_io.specs.declared.files.Opened.{Opened}
use Rattle.cf_io.specs.declared.files.Opened.TheVariants as opened
use Rattle.cf_io.specs.declared.source.Got.{Got}

-- the file is open now
abbrev pub is_opened : Opened → Bool
is_opened opened.Opened = true
is_opened opened.Missing = false
is_opened opened.Failed = false

-- there is no such file
abbrev pub is_missing : Opened → Bool
is_missing opened.Opened = false
is_missing opened.Missing = true
is_missing opened.Failed = false

-- opening failed
abbrev pub is_open_failed : Opened → Bool
is_open_failed opened.Opened = false
is_open_failed opened.Missing = false
is_open_failed opened.Failed = true

-- a file that is opened has its whole content left, and only a name that isn't there is missing
abbrev pub HasContent : Option (List ℕ) → Opened → List ℕ → Type 0
HasContent content opened.Opened left = content ≡ Some left
HasContent content opened.Missing left = content ≡ None
HasContent content opened.Failed left = Unit {0}

-- names and contents stay, and so does whether they are told
pub record KeepsEntries (old new : FilesView) : Type 0 where
  pub told : new.tells ≡ old.tells
  pub entries : new.entries ≡ old.entries

-- what opening the file of a name does to files
pub record Opens (old new : FilesView) (wanted : List ℕ) (answer : Opened) : Type 0 where
  pub opened : new.opened ≡ is_opened answer
  pub content : FilesAreTold old → HasContent (content_of old.entries wanted) answer new.left
  pub name : FilesAreTold old → IsTrue (is_opened answer) → new.name ≡ wanted
  pub given : new.given ≡ 0
  pub ended : new.ended ≡ false
  pub kept : KeepsEntries old new
  pub missing : HasCause old.misses new.misses (is_missing answer)
  pub cause : HasCause old.faults new.faults (is_open_failed answer)

-- the counts tell exactly the opens that found no such file, and those that failed
pub record CountsOpens (old new : FilesView) (answer : Opened) : Type 0 where
  pub misses : Counts old.misses new.misses (is_missing answer)
  pub faults : Counts old.faults new.faults (is_open_failed answer)

-- what a read of the open file into the front of a buffer does to files
pub record ReadsOn (old new : FilesView) (answer : Got) (buf : List ℕ) : Type 0 where
  pub given : new.given ≡ old.given + count_of answer
  -- what is given are the next of the bytes that were left
  pub left : FilesAreTold old → old.left ≡ take (count_of answer) buf ++ new.left
  -- the end comes only where nothing is left
  pub end : FilesAreTold old → IsTrue (is_end answer) → old.left ≡ []
  pub ended : new.ended ≡ is_end answer
  pub opened : new.opened ≡ true
  pub name : new.name ≡ old.name
  pub kept : KeepsEntries old new
  pub misses : new.misses ≡ old.misses
  pub cause : HasCause old.faults new.faults (is_failed answer)

-- the counts tell exactly the reads that failed
pub record CountsReadsOn (old new : FilesView) (answer : Got) : Type 0 where
  pub misses : new.misses ≡ old.misses
  pub faults : Counts old.faults new.faults (is_failed answer)
