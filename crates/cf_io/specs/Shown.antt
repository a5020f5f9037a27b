-- What a source, files and a sink show to their clauses.
use Rattle.std.specs.Prelude.{ℕ, Bool, List, IsTrue}

-- a source
pub record SourceView : Type 0 where
  -- whether the bytes are told; where they aren't, the next two lists say nothing
  pub tells : Bool
  -- the bytes that are left
  pub left : List ℕ
  -- the bytes that were taken
  pub read : List ℕ
  -- how many bytes were taken
  pub taken : ℕ
  -- whether the last read answered the end
  pub ended : Bool
  -- how often a read failed
  pub faults : ℕ

-- files, of which one is open at a time
pub record FilesView : Type 0 where
  -- whether names and contents are told; where they aren't, the next three lists say nothing
  pub tells : Bool
  -- the names and contents
  pub entries : List (List ℕ × List ℕ)
  -- the name of the open file
  pub name : List ℕ
  -- the bytes that the open file has left
  pub left : List ℕ
  -- whether the last open found its file
  pub opened : Bool
  -- how many bytes were given since the last open
  pub given : ℕ
  -- whether there was a read since the last open, and the last one answered the end
  pub ended : Bool
  -- how often there was no such file
  pub misses : ℕ
  -- how often a call failed
  pub faults : ℕ

-- a sink
pub record SinkView : Type 0 where
  -- whether the bytes are told; where they aren't, the next list says nothing
  pub tells : Bool
  -- the bytes that were written
  pub written : List ℕ
  -- how often a write failed
  pub faults : ℕ

-- the bytes that are read are told
abbrev pub ReadingIsTold : SourceView → Type 0
ReadingIsTold s = IsTrue s.tells

-- names and contents are told
abbrev pub FilesAreTold : FilesView → Type 0
FilesAreTold f = IsTrue f.tells

-- the bytes that are written are told
abbrev pub WritingIsTold : SinkView → Type 0
WritingIsTold k = IsTrue k.tells
