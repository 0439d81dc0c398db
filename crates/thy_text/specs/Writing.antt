-- What a sink has of bytes that were written to it.
use Rattle.std.specs.Prelude.{ℕ, List, Result, OnOk, OnErr}
use Rattle.thy_block.specs.declared.outside.SinkError.{SinkError}
use Rattle.thy_block.specs.Outside.{Stream, Took, TookPart}

-- the sink took all of them, or failed and took a first part
pub record Wrote (result : Result (Unit {0}) SinkError) (old new : Stream) (bytes : List ℕ) : Type 0 where
  pub whole : OnOk result (Took old new bytes)
  pub failed : OnErr result (TookPart old new bytes)
