-- A source and files in memory of which no call fails.
use Rattle.std.specs.Prelude.{ℕ, ◌+◌, true, [], take, drop}
use Rattle.cf_io.specs.Contents.{content_or_nothing, entries_of, name_or_nothing}
use Rattle.cf_io.specs.Memory.{Reader, Shelf}
use Rattle.cf_io.specs.Reading.{count_of}
use Rattle.cf_io.specs.Shown.{FilesView, SourceView}
use Rattle.cf_io.specs.declared.mem_files.SureFiles.{SureFiles}
use Rattle.cf_io.specs.declared.mem_source.SureSource.{SureSource}
use Rattle.cf_io.specs.declared.source.Got.{Got}

-- what the source shows
abbrev pub sure_view : SureSource → SourceView
sure_view s = record {
  tells = true;
  left = drop s.at s.bytes.items;
  read = take s.at s.bytes.items;
  taken = s.at;
  ended = s.ended;
  faults = 0;
}

-- what the files show
abbrev pub sure_files_view : SureFiles → FilesView
sure_files_view s = record {
  tells = true;
  entries = entries_of s.files.items;
  name = name_or_nothing s.files.items s.place;
  left = drop s.at (content_or_nothing s.files.items s.place);
  opened = s.opened;
  given = s.at;
  ended = s.ended;
  misses = s.misses;
  faults = 0;
}

-- the reader that the source is, whose calls aren't counted
abbrev pub sure_reader : SureSource → Reader
sure_reader s = record { bytes = s.bytes.items; piece = s.piece; cut = 0; fails = []; at = s.at; calls = 0 }

-- the reader that the open file is
abbrev pub sure_file_reader : SureFiles → Reader
sure_file_reader s = record {
  bytes = content_or_nothing s.files.items s.place;
  piece = s.piece;
  cut = 0;
  fails = [];
  at = s.at;
  calls = 0;
}

-- the reader after a read that answered so
abbrev pub moved : Reader → Got → Reader
moved r answer = record r { at = r.at + count_of answer }

-- the shelf that the files are
abbrev pub sure_shelf : SureFiles → Shelf
sure_shelf s = record { entries = entries_of s.files.items; piece = s.piece; fails = []; calls = 0 }
