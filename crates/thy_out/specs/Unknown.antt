-- A shelf over the files of the system.
use Rattle.std.specs.Prelude.{ℕ, None, Result, Ok, Err, Vec}
use Rattle.std.specs.declared.alloc.Global.{Global}
use Rattle.thy_block.specs.Counts.{next}
use Rattle.thy_block.specs.Outside.{Stock}
use Rattle.thy_block.specs.declared.outside.FetchError.{FetchError}
use Rattle.thy_block.specs.declared.outside.FetchError.TheVariants.{Memory}
use Rattle.thy_block.specs.declared.outside.PutError.{PutError}
use Rattle.thy_block.specs.declared.outside.PutError.TheVariants.{Memory as PutMemory}

-- a shelf whose files are unknown, since others change them too, as are the names under which calls failed
abbrev pub unknown : ℕ → Stock
unknown faults = record { held = None; failed = None; faults = faults }

-- the count after a fetch: one more unless it returned bytes or ran out of memory
abbrev pub fetch_faults : ℕ → Result (Vec ℕ Global) FetchError → ℕ
fetch_faults faults (Ok bytes) = faults
fetch_faults faults (Err (Memory e)) = faults
fetch_faults faults (Err _) = next faults

-- the count after a put: one more if it failed, unless it ran out of memory
abbrev pub put_faults : ℕ → Result Unit PutError → ℕ
put_faults faults (Ok done) = faults
put_faults faults (Err (PutMemory e)) = faults
put_faults faults (Err _) = next faults
