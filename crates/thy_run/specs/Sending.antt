-- Part of the claim.
-- What a sink took of a text that grows.
use Rattle.std.specs.Prelude.{◌≡◌, ◌≢◌, Bool, true, false, ℕ, List, [], ◌++◌, take}
use Rattle.thy_block.specs.Outside.{Stream, Took, TookPart}
use Rattle.thy_text.specs.declared.reporting.Reporting.{Reporting}
use Rattle.thy_text.specs.Event.{Event}
use Rattle.thy_text.specs.Lines.{report_of}

-- what the two sinks have taken
pub record Sinks : Type 0 where
  pub terminal : Stream
  pub report : Stream

abbrev pub sinks : Stream → Stream → Sinks
sinks terminal report = record { terminal = terminal; report = report }

-- what a sink took of bytes that it had to get: all, or a first part if it failed; with none it can't have failed
abbrev pub Sent : Bool → Stream → Stream → List ℕ → Type 0
Sent false old new bytes = Took old new bytes
Sent true old new bytes = TookPart old new bytes × (bytes ≢ [])

-- a text grew, and the sink took what was added, or a first part of that if it failed
pub record Sends (before after : List ℕ) (failed : Bool) (old new : Stream) : Type 0 where
  pub more : List ℕ
  pub grew : after ≡ before ++ more
  pub sent : Sent failed old new more

-- the report took the lines of the events from the first on, or a first part of them if it failed
abbrev pub ReportsLines : Reporting → ℕ → List Event → Bool → Stream → Stream → Type 0
ReportsLines reporting first events failed old new =
    Sends (report_of reporting (take first events)) (report_of reporting events) failed old new

-- What a sink took of a whole text: first all that was settled before the last cycle, then what was added, or a first
-- part of that if it failed. If an allocation failed, it may have taken less than the whole.
pub record Delivered (short failed : Bool) (settled text : List ℕ) (old new : Stream) : Type 0 where
  pub more : List ℕ
  pub unsent : List ℕ
  pub is_text : text ≡ settled ++ more ++ unsent
  pub whole : short ≡ false → unsent ≡ []
  pub middle : Stream
  pub took : Took old middle settled
  pub sent : Sent failed middle new more
