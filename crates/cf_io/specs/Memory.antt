use Rattle.std.specs.Prelude.{ℕ, ◌≡◌, ◌+◌, ◌-◌, ◌++◌, nat_le, min, true, false, List, [], length, take, drop, if◌then◌else◌, is_some}
use Rattle.cf_io.specs.Causes.{one_more}
use Rattle.cf_io.specs.Contents.{content_or_nothing, entries_of, name_or_nothing}
use Rattle.cf_reference.specs.States.{content_of}
use Rattle.cf_io.specs.Pieces.{is_listed, piece_length}
use Rattle.cf_io.specs.Putting.{took}
use Rattle.cf_io.specs.Reading.{count_of}
use Rattle.cf_io.specs.Shown.{FilesView, FilesAreTold, SinkView, SourceView}
use Rattle.cf_io.specs.declared.files.Opened.{Opened}
use Rattle.cf_io.specs.declared.files.Opened.TheVariants as opened
use Rattle.cf_io.specs.declared.mem_files.MemFiles.{MemFiles}
use Rattle.cf_io.specs.declared.mem_sink.MemSink.{MemSink}
use Rattle.cf_io.specs.declared.mem_source.MemSource.{MemSource}
use Rattle.cf_io.specs.declared.sink.Put.{Put}
use Rattle.cf_io.specs.declared.sink.Put.TheVariants as put
use Rattle.cf_io.specs.declared.source.Got.{Got}
use Rattle.cf_io.specs.declared.source.Got.TheVariants as got

-- what a source in memory shows
abbrev pub source_view : MemSource → SourceView
source_view s = record {
  tells = true;
  left = drop s.at s.bytes.items;
  read = take s.at s.bytes.items;
  taken = s.at;
  ended = s.ended;
  faults = s.calls.faults;
}

-- what files in memory show
abbrev pub files_view : MemFiles → FilesView
files_view s = record {
  tells = true;
  entries = entries_of s.files.items;
  name = name_or_nothing s.files.items s.place;
  left = drop s.at (content_or_nothing s.files.items s.place);
  opened = s.opened;
  given = s.at;
  ended = s.ended;
  misses = s.misses;
  faults = s.calls.faults;
}

-- what a sink in memory shows
abbrev pub sink_view : MemSink → SinkView
sink_view s = record {
  tells = true;
  written = take s.used s.room.items;
  faults = s.calls.faults;
}

-- bytes in memory: where their reads end, the numbers of the calls that fail, and how many bytes and calls were taken
pub record Reader : Type 0 where
  pub bytes : List ℕ
  pub piece : ℕ
  pub cut : ℕ
  pub fails : List ℕ
  pub at : ℕ
  pub calls : ℕ

-- the reader that a source in memory is
abbrev pub reader : MemSource → Reader
reader s = record {
  bytes = s.bytes.items;
  piece = s.piece;
  cut = s.cut;
  fails = s.calls.fails.items;
  at = s.at;
  calls = s.calls.made;
}

-- a reader that has read nothing
abbrev pub new_reader : List ℕ → ℕ → ℕ → List ℕ → Reader
new_reader bytes piece cut fails = record {
  bytes = bytes;
  piece = piece;
  cut = cut;
  fails = fails;
  at = 0;
  calls = 0;
}

-- what a source in memory shows from which nothing was read
abbrev pub unread_view : List ℕ → SourceView
unread_view bytes = record {
  tells = true;
  left = bytes;
  read = [];
  taken = 0;
  ended = false;
  faults = 0;
}

-- what a read into a buffer of `room` bytes answers
abbrev pub read_answer : Reader → ℕ → Got
read_answer r room =
    if is_listed r.fails r.calls then got.Failed
    else if nat_le (length r.bytes) r.at then got.End
    else got.Got (piece_length r.at r.piece r.cut room (length r.bytes))

-- the reader after a read that answered so
abbrev pub after_read : Reader → Got → Reader
after_read r answer = record r { at = r.at + count_of answer; calls = one_more r.calls }

-- a sink in memory: its room, the most bytes of a write, the numbers of the calls that fail, and how many calls were made
pub record Writer : Type 0 where
  pub written : List ℕ
  pub room : ℕ
  pub piece : ℕ
  pub fails : List ℕ
  pub calls : ℕ

-- the writer that a sink in memory is
abbrev pub writer : MemSink → Writer
writer s = record {
  written = take s.used s.room.items;
  room = length s.room.items;
  piece = s.piece;
  fails = s.calls.fails.items;
  calls = s.calls.made;
}

-- a writer that has written nothing
abbrev pub new_writer : ℕ → ℕ → List ℕ → Writer
new_writer room piece fails = record {
  written = [];
  room = room;
  piece = piece;
  fails = fails;
  calls = 0;
}

-- what a sink in memory shows into which nothing was written
abbrev pub unwritten_view : SinkView
unwritten_view = record { tells = true; written = []; faults = 0 }

-- what a write of `count` bytes answers
abbrev pub write_answer : Writer → ℕ → Put
write_answer w count =
    if is_listed w.fails w.calls then put.Failed
    else if nat_le w.room (length w.written) then put.Failed
    else put.Took (min (min count w.piece) (w.room - length w.written))

-- the writer after a write of these bytes that answered so
abbrev pub after_write : Writer → List ℕ → Put → Writer
after_write w bytes answer = record w {
  written = w.written ++ take (took answer) bytes;
  calls = one_more w.calls;
}

-- files in memory: how their reads end, the numbers of the calls that fail, and how many calls were made
pub record Shelf : Type 0 where
  pub entries : List (List ℕ × List ℕ)
  pub piece : ℕ
  pub fails : List ℕ
  pub calls : ℕ

-- the shelf that files in memory are
abbrev pub shelf : MemFiles → Shelf
shelf s = record {
  entries = entries_of s.files.items;
  piece = s.piece;
  fails = s.calls.fails.items;
  calls = s.calls.made;
}

-- a shelf from which nothing was taken
abbrev pub new_shelf : List (List ℕ × List ℕ) → ℕ → List ℕ → Shelf
new_shelf entries piece fails = record { entries = entries; piece = piece; fails = fails; calls = 0 }

-- no file was asked for
pub record IsUnread (view : FilesView) (files : List (List ℕ × List ℕ)) : Type 0 where
  pub told : FilesAreTold view
  pub entries : view.entries ≡ files
  pub opened : view.opened ≡ false
  pub misses : view.misses ≡ 0
  pub faults : view.faults ≡ 0

-- what opening a file of this name answers
abbrev pub open_answer : Shelf → List ℕ → Opened
open_answer s name =
    if is_listed s.fails s.calls then opened.Failed
    else if is_some (content_of s.entries name) then opened.Opened
    else opened.Missing

-- the shelf after a call
abbrev pub after_call : Shelf → Shelf
after_call s = record s { calls = one_more s.calls }

-- the reader that the open file is
abbrev pub file_reader : MemFiles → Reader
file_reader s = record {
  bytes = content_or_nothing s.files.items s.place;
  piece = s.piece;
  cut = 0;
  fails = s.calls.fails.items;
  at = s.at;
  calls = s.calls.made;
}
