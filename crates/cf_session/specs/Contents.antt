use Rattle.std.specs.Prelude.{◌≡◌, ◌≤◌, ◌<◌, ℕ, List, length, Option, Some, None}
use Rattle.cf_io.specs.Causes.{Rose}
use Rattle.cf_io.specs.Opening.{KeepsEntries}
use Rattle.cf_io.specs.Shown.{FilesView}
use Rattle.cf_reference.specs.Loading.{file_limit}
use Rattle.cf_session.specs.declared.files.Unread.{Unread}
use Rattle.cf_session.specs.declared.files.Unread.TheVariants.{NoMemory, Missing, TooLarge, Failed}

-- What is read of a file.

-- Names and contents stay, and whether they are told, and no count falls.
pub record KeepsFiles (old new : FilesView) : Type 0 where
  pub entries : KeepsEntries old new
  pub misses : old.misses ≤ new.misses
  pub faults : old.faults ≤ new.faults

-- There are more bytes than a circuit's file may have.
abbrev pub IsLarge : Option (List ℕ) → Type 0
IsLarge content = (bytes : List ℕ) × (content ≡ Some bytes) × (file_limit < length bytes)

-- what is known of the content of a file that wasn't read
abbrev pub IsUnread : Option (List ℕ) → Unread → Type 0
IsUnread content NoMemory = Unit {0}
IsUnread content Missing = content ≡ None
IsUnread content TooLarge = IsLarge content
IsUnread content Failed = Unit {0}

-- what the files show where a file wasn't read: a miss, a fault, or the bytes that were given
abbrev pub ShowsWhy : FilesView → FilesView → Unread → Type 0
ShowsWhy old new NoMemory = Unit {0}
ShowsWhy old new Missing = Rose old.misses new.misses
ShowsWhy old new TooLarge = file_limit < new.given
ShowsWhy old new Failed = Rose old.faults new.faults
