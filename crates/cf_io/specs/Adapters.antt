-- What adapters show, what std tells of the reader and the writer that they stand over, and what they hand on.
use Rattle.std.specs.Prelude.{ℕ, List, [], take, false, is_some, Option, IsTrue}
use Rattle.std.specs.Option.{option_and_then}
use Rattle.std.specs.Io.KnownBytes.{Appends, Consumes, IsAtEnd}
use Rattle.cf_io.specs.Reading.{count_of, is_end}
use Rattle.cf_io.specs.Shown.{FilesView, SinkView, SourceView}
use Rattle.cf_io.specs.declared.adapters.HostSink.{HostSink}
use Rattle.cf_io.specs.declared.adapters.HostSource.{HostSource}
use Rattle.cf_io.specs.declared.host_files.HostFiles.{HostFiles}
use Rattle.cf_io.specs.declared.sink.Put.{Put}
use Rattle.cf_io.specs.declared.sink.Put.TheVariants as put
use Rattle.cf_io.specs.declared.source.Got.{Got}

-- a source over a reader tells no bytes
abbrev pub reader_view : {R : Type 0} → HostSource R → SourceView
reader_view s = record {
  tells = false;
  left = [];
  read = [];
  taken = s.taken;
  ended = s.ended;
  faults = s.faults;
}

-- what it shows where nothing was read
abbrev pub unread_reader_view : SourceView
unread_reader_view = record { tells = false; left = []; read = []; taken = 0; ended = false; faults = 0 }

-- a sink over a writer tells no bytes
abbrev pub writer_view : {W : Type 0} → HostSink W → SinkView
writer_view s = record { tells = false; written = []; faults = s.faults }

-- the files of a folder tell no bytes
abbrev pub folder_view : {R F D : Type 0} → HostFiles R F D → FilesView
folder_view s = record {
  tells = false;
  entries = [];
  name = [];
  left = [];
  opened = is_some s.file;
  given = s.given;
  ended = s.ended;
  misses = s.misses;
  faults = s.faults;
}

-- what they show where none was asked for
abbrev pub unopened_folder_view : FilesView
unopened_folder_view = record {
  tells = false;
  entries = [];
  name = [];
  left = [];
  opened = false;
  given = 0;
  ended = false;
  misses = 0;
  faults = 0;
}

-- the bytes that the reader of a source has left, where std tells them
abbrev pub reader_left : {R : Type 0} → (R → Option (List ℕ)) → HostSource R → Option (List ℕ)
reader_left remaining s = remaining s.reader

-- the bytes that the writer of a sink has, where std tells them
abbrev pub writer_has : {W : Type 0} → (W → Option (List ℕ)) → HostSink W → Option (List ℕ)
writer_has contents s = contents s.writer

-- the bytes that the open file has left, where std tells them
abbrev pub file_left : {R F D : Type 0} → (F → Option (List ℕ)) → HostFiles R F D → Option (List ℕ)
file_left remaining s = option_and_then remaining s.file

-- a read hands on the bytes that the reader gave, and answers the end only where the reader has none left
pub record HandsOn (old new : Option (List ℕ)) (answer : Got) (buf : List ℕ) : Type 0 where
  pub bytes : Consumes old new (take (count_of answer) buf)
  pub end : IsTrue (is_end answer) → IsAtEnd new

-- A write hands the bytes that it took on to the writer. One that failed may have handed on some, since a writer that took
-- bytes can fail where it is flushed.
abbrev pub HandsOver : Option (List ℕ) → Option (List ℕ) → Put → List ℕ → Type 0
HandsOver old new (put.Took n) piece = Appends old new (take n piece)
HandsOver old new put.Failed piece = (n : ℕ) × Appends old new (take n piece)
