use Rattle.std.specs.Prelude.{ℕ, List}

-- what a read of a line answers, with the line's bytes
pub data Answer : Type 0 where
  Line : List ℕ → Answer
  End : Answer
  TooLong : Answer
  ScriptTooLong : Answer
  ReadFault : Answer
