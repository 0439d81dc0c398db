-- How a sweep ends: the closing line of its run, and the text under OUT.
use Rattle.std.specs.Prelude.{◌≡◌, ◌⊎◌, ℕ, ◌==◌, Bool, true, false, ◌&&◌, if◌then◌else◌, is_none, List, [], ◌∷◌, codes, Option, Some, None}
use Rattle.std.specs.Fmt.{decimal}
use Rattle.thy_outcome.specs.Answering.{Closes, ClosesAs, put_line}
use Rattle.thy_outcome.specs.Saving.{IsPut}
use Rattle.thy_outcome.specs.Sources.{ProgramSource}
use Rattle.thy_block.specs.declared.outside.PutError.{PutError}
use Rattle.thy_block.specs.Outside.{Stock, Stream}
use Rattle.thy_run.specs.declared.ending.Ending.{Ending}
use Rattle.thy_run.specs.declared.ending.Stop.{Stop}
use Rattle.thy_run.specs.declared.ending.Stop.TheVariants.{Ended, Limit}
use Rattle.thy_text.specs.declared.closing.Closing.TheVariants as closing
use Rattle.thy_text.specs.Closings.{closing_of}
use Rattle.thy_text.specs.Lines.{joined, line_feed}
use Rattle.sweep.specs.declared.account.Account.{Account}
use Rattle.sweep.specs.declared.asked.Asked.{Asked}
use Rattle.sweep.specs.declared.asked.Unasked.{Unasked}
use Rattle.sweep.specs.declared.asked.Unasked.TheVariants as unasked
use Rattle.sweep.specs.declared.running.Swept.{Swept}
use Rattle.sweep.specs.declared.running.Swept.TheVariants.{Stopped, Reached, Short}

-- ---- lines

-- the line of an option that has a value out of its range
abbrev pub value_line : List ℕ → ℕ → List ℕ
value_line name value = joined (codes "value " ∷ name ∷ codes " " ∷ decimal value ∷ line_feed ∷ [])

-- the line that says why options are refused; there is none if memory ran out
abbrev pub IsLineOf : Unasked → List ℕ → Type 0
IsLineOf unasked.Usage line = line ≡ joined (codes "usage" ∷ line_feed ∷ [])
IsLineOf (unasked.Word name) line = line ≡ joined (codes "word " ∷ name.now ∷ line_feed ∷ [])
IsLineOf (unasked.Value name value) line = line ≡ value_line name.now value
IsLineOf (unasked.Memory e) line = ⊥

-- the report has the line that says that memory ran out
abbrev pub SaysShort : ℕ → Stream → Stream → Type 0
SaysShort status old new = (status ≡ 9) × Closes (closing_of closing.Memory) old new

-- the report has this line of a refusal, or the line that says that memory ran out for it
abbrev pub SaysLine : List ℕ → ℕ → Stream → Stream → Type 0
SaysLine line status old new = ((status ≡ 2) × Closes line old new) ⊎ SaysShort status old new

-- the report has a line that says why options are refused
abbrev pub SaysWhy : Unasked → ℕ → Stream → Stream → Type 0
SaysWhy why status old new = ((line : List ℕ) × IsLineOf why line × (status ≡ 2) × Closes line old new) ⊎ SaysShort status old new

-- ---- the end of a run that was swept

-- the run came to its end, or to its limit
abbrev pub is_end : Stop → Bool
is_end (Ended status) = true
is_end Limit = true
is_end stop = false

abbrev pub has_ended : Swept → Bool
has_ended (Stopped ending) = is_end ending.stop
has_ended (Reached cycle) = false
has_ended Short = false

-- an account has no row, open or closed
abbrev pub is_empty : Account → Bool
is_empty account = is_none account.current && account.sums.cycles == 0

-- the run ended before the first cycle that was asked for
abbrev pub ends_before : Swept → Account → Bool
ends_before swept account = has_ended swept && is_empty account

-- the exit status of a run that stopped so, of which thynvm has this status
abbrev pub closed_as : Stop → ℕ → ℕ
closed_as stop status = if is_end stop then 0 else status

-- the report gets the run's closing line, as thynvm writes it, and this is the status if OUT is put and nothing differs
abbrev pub ClosesStopped : ProgramSource → ℕ → Ending → ℕ → Stream → Stream → Type 0
ClosesStopped source limit ending closed old new =
    (status : ℕ) × ClosesAs source limit None ending None status old new × (closed ≡ closed_as ending.stop status)

-- at its last cycle the sweep itself ends a run, without a line
abbrev pub ClosesSweep : ProgramSource → ℕ → Swept → ℕ → Stream → Stream → Type 0
ClosesSweep source limit (Stopped ending) closed old new = ClosesStopped source limit ending closed old new
ClosesSweep source limit (Reached cycle) closed old new = (closed ≡ 0) × (new ≡ old)
ClosesSweep source limit Short closed old new = SaysShort closed old new

-- what is reported of OUT, and the exit status: if OUT was not put, a line says so, and the status is 3
abbrev pub ReportsOut : List ℕ → Option PutError → Stream → Stream → (due status : ℕ) → Type 0
ReportsOut out None old new due status = (new ≡ old) × (status ≡ due)
ReportsOut out (Some e) old new due status = Closes (put_line out) old new × (status ≡ 3)

-- the status once OUT was put: 1 if there is a difference, else the run's
abbrev pub due_of : Account → ℕ → ℕ
due_of account closed = if account.differs then 1 else closed

-- text was put under OUT, or was not
pub record PutsText (out : List ℕ) (account : Account) (closed : ℕ) (old new : Stock) (report after : Stream) (status : ℕ) : Type 0 where
  pub text : List ℕ
  pub why : Option PutError
  pub put : IsPut out text old new why
  pub reported : ReportsOut out why report after (due_of account closed) status

-- text was put under OUT, or was not, or memory ran out for it
abbrev pub PutsOut : List ℕ → Account → ℕ → Stock → Stock → Stream → Stream → ℕ → Type 0
PutsOut out account closed old new report after status =
    ((new ≡ old) × SaysShort status report after) ⊎ PutsText out account closed old new report after status

-- the run ended before the first cycle that was asked for: a line says so, and nothing is put
pub record EndsBefore (asked : Asked) (account : Account) (swept : Swept) (old new : Stock) (report after : Stream) (status : ℕ) : Type 0 where
  pub before : ends_before swept account ≡ true
  pub shelf : new ≡ old
  pub says : SaysLine (value_line (codes "from") asked.from) status report after

-- the run did not end before the first cycle that was asked for: its closing line is written, and OUT is put
pub record PutsEnd (out : List ℕ) (source : ProgramSource) (limit : ℕ) (account : Account) (swept : Swept) (old new : Stock)
    (report after : Stream) (status : ℕ) : Type 0 where
  pub before : ends_before swept account ≡ false
  pub closed : ℕ
  pub middle : Stream
  pub closes : ClosesSweep source limit swept closed report middle
  pub puts : PutsOut out account closed old new middle after status

abbrev pub IsConcluded : List ℕ → Asked → ProgramSource → ℕ → Account → Swept → Stock → Stock → Stream → Stream → ℕ → Type 0
IsConcluded out asked source limit account swept old new report after status =
    EndsBefore asked account swept old new report after status
    ⊎ PutsEnd out source limit account swept old new report after status
