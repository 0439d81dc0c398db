-- Part of the claim.
-- What the top call returns.
use Rattle.std.specs.Prelude.{◌≡◌, ◌⊎◌, ℕ, ◌<◌, ◌≤◌, ◌||◌, Bool, true, false, List, [], ◌∷◌, ◌++◌, length, codes, Option, Some, None, Err}
use Rattle.std.specs.Fmt.{decimal}
use Rattle.thy_block.specs.declared.outside.FetchError.TheVariants.{Failed as FetchFailed, NotThere, TooLong, Memory as FetchMemory}
use Rattle.thy_block.specs.declared.outside.PutError.{PutError}
use Rattle.thy_block.specs.declared.outside.PutError.TheVariants.{Failed as PutFailed, Memory as PutMemory}
use Rattle.thy_block.specs.declared.nvm.FitError.TheVariants.{Failed as FitFailed, Memory as FitMemory}
use Rattle.thy_base.specs.declared.config.Config.{Config}
use Rattle.thy_block.specs.declared.nvm.Shape.{Shape}
use Rattle.thy_block.specs.Device.{Device, HasFailedToFit, fitted}
use Rattle.thy_base.specs.Config.{parameters_of}
use Rattle.thy_block.specs.Outside.{Stock, Stream, HasNotFailed}
use Rattle.thy_elf.specs.declared.error.ElfError.{ElfError}
use Rattle.thy_elf.specs.declared.error.ElfError.TheVariants.{Memory as ElfMemory}
use Rattle.thy_elf.specs.Refusal.{called, index_of}
use Rattle.thy_isa.specs.declared.state.Status.{Status}
use Rattle.thy_isa.specs.declared.state.Status.TheVariants.{Running, Exited, Trapped}
use Rattle.thy_isa.specs.Step.{State}
use Rattle.thy_elf.specs.MadeFile.{made_file}
use Rattle.thy_text.specs.declared.closing.Closing.TheVariants as closing
use Rattle.thy_text.specs.declared.closing.FetchFault.TheVariants as fault
use Rattle.thy_text.specs.Closings.{closing_of}
use Rattle.thy_text.specs.Event.{Event}
use Rattle.thy_text.specs.History.{all_of, of_run}
use Rattle.thy_text.specs.Lines.{joined, line_feed, ended_lines, made_of}
use Rattle.thy_text.specs.Summary.{summary_of}
use Rattle.thy_base.specs.declared.arguments.words.WordsError.{WordsError}
use Rattle.thy_base.specs.declared.arguments.words.WordsError.TheVariants.{Usage, Word, Value, Memory as WordsMemory}
use Rattle.thy_base.specs.Settings.{Job, settings_of}
use Rattle.thy_computer.specs.Kind.{KindOf}
use Rattle.thy_computer.specs.Origin.{Origin, at, runs_at}
use Rattle.thy_run.specs.declared.ending.Ending.{Ending}
use Rattle.thy_run.specs.declared.ending.Stop.{Stop}
use Rattle.thy_run.specs.declared.ending.Stop.TheVariants.{Ended, Nvm, Memory, Terminal, Report, Limit}
use Rattle.thy_run.specs.Endings.{HasRun}
use Rattle.thy_run.specs.Laws.{Promise, IsSafe, marks_of}
use Rattle.thy_run.specs.Sending.{Sent}
use Rattle.thy_run.specs.World.{Given}
use Rattle.thy_outcome.specs.declared.answer.Answer.{Answer}
use Rattle.thy_outcome.specs.declared.refusal.Refusal.{Refusal}
use Rattle.thy_outcome.specs.declared.refusal.Refusal.TheVariants.{Words, Fetch, File, Image, Input, Device as DeviceRefusal, Memory as MemoryRefusal}
use Rattle.thy_outcome.specs.Levelling.{IsFoundAs, IsLeftAs, IsHandedBack, PutsThrough, images_of_save}
use Rattle.thy_outcome.specs.Saving.{IsPut, SavesUnder, saves}
use Rattle.thy_outcome.specs.Sources.{ProgramSource, file, made, Beginning, IsProgram, origin_for, ProgramDue}

-- the shelf, the device, the terminal and the report of a call, at one moment
pub record Outside : Type 0 where
  pub shelf : Stock
  pub device : Device
  pub terminal : Stream
  pub report : Stream

abbrev pub outside : Stock → Device → Stream → Stream → Outside
outside shelf device terminal report =
    record { shelf = shelf; device = device; terminal = terminal; report = report }

-- what a call finds outside, with another device
abbrev pub with_device : Device → Outside → Outside
with_device n o = record o { device = n }

-- what devices of a type mean
pub record NvmOf (N : Type 0) : Type 0 where
  pub device : N → Device

abbrev pub nvm_of : {N : Type 0} → (N → Device) → NvmOf N
nvm_of device = record { device = device }

-- what a call finds outside, or leaves there, with the device itself
pub record Around (N : Type 0) : Type 0 where
  pub shelf : Stock
  pub nvm : N
  pub terminal : Stream
  pub report : Stream

abbrev pub around : {N : Type 0} → Stock → N → Stream → Stream → Around N
around shelf nvm terminal report =
    record { shelf = shelf; nvm = nvm; terminal = terminal; report = report }

-- what a call finds outside, with what its device holds in place of the device
abbrev pub outside_of : {N : Type 0} → NvmOf N → Around N → Outside
outside_of d w = outside w.shelf (d.device w.nvm) w.terminal w.report

-- ---- refusals: what is due when

-- why the arguments are refused: what they mean; out of memory needs no reason
abbrev pub WordsDue : List (List ℕ) → WordsError → Type 0
WordsDue words (WordsMemory e) = Unit {0}
WordsDue words e = settings_of words ≡ Err e

-- why a job is not run: a program's device was not fitted, or there is no program, and the device is left alone
abbrev pub RunDue : ProgramSource → Job → Outside → Outside → Refusal → Type 0
RunDue source job before after (DeviceRefusal e) =
    IsProgram source job before.shelf × HasNotFailed before.shelf after.shelf × HasFailedToFit e before.device after.device
RunDue source job before after r = ProgramDue source job before.shelf after.shelf r × (after.device ≡ before.device)

-- ---- what is reported of a refusal

-- the number of a program header, if it is reported, and the line's end
abbrev pub index_parts : Option ℕ → List (List ℕ)
index_parts None = line_feed ∷ []
index_parts (Some k) = codes " " ∷ decimal k ∷ line_feed ∷ []

-- the line of a file that is refused
abbrev pub file_line : ElfError → List ℕ
file_line e =
    joined (codes "file " ∷ decimal (called e).0 ∷ codes " " ∷ (called e).1 ∷ index_parts (index_of e))

-- what is reported of a refusal: the exit status and the closing line
abbrev pub report_of_refusal : Refusal → ℕ × List ℕ
report_of_refusal (Words (WordsMemory e)) = (9, closing_of closing.Memory)
report_of_refusal (Words Usage) = (2, closing_of closing.Usage)
report_of_refusal (Words (Word field)) = (2, closing_of (closing.Word field))
report_of_refusal (Words (Value field value)) = (2, closing_of (closing.Value field value))
report_of_refusal (Fetch name (FetchMemory e)) = (9, closing_of closing.Memory)
report_of_refusal (Fetch name FetchFailed) = (3, closing_of (closing.Fetch name fault.Failed))
report_of_refusal (Fetch name NotThere) = (3, closing_of (closing.Fetch name fault.Missing))
report_of_refusal (Fetch name TooLong) = (3, closing_of (closing.Fetch name fault.TooLong))
report_of_refusal (File (ElfMemory e)) = (9, closing_of closing.Memory)
report_of_refusal (File e) = (4, file_line e)
report_of_refusal (Image bad) = (5, closing_of (closing.Image bad))
report_of_refusal (Input cursor length) = (10, closing_of (closing.Input cursor length))
report_of_refusal (DeviceRefusal (FitMemory e)) = (9, closing_of closing.Memory)
report_of_refusal (DeviceRefusal FitFailed) = (7, closing_of closing.Nvm)
report_of_refusal (MemoryRefusal e) = (9, closing_of closing.Memory)

-- the report took this line, or failed in it
abbrev pub Closes : List ℕ → Stream → Stream → Type 0
Closes line old new = (failed : Bool) × Sent failed old new line

-- a call that began no run: a line says why, and what the shelf holds stays
pub record IsRefused (r : Refusal) (before after : Outside) (a : Answer) : Type 0 where
  pub status : a.status ≡ (report_of_refusal r).0
  pub events : a.events ≡ of_run []
  pub cycles : a.cycles ≡ 0
  pub shown_none : after.terminal ≡ before.terminal
  pub held : after.shelf.held ≡ before.shelf.held
  pub closes : Closes (report_of_refusal r).1 before.report after.report

-- ---- runs

-- the shape that the device of a job's machine is fitted with
abbrev pub shape_for : {M : Type 0} → KindOf M → Config → Shape
shape_for K c = record { blocks = K.blocks (parameters_of c); queue = c.nvmq; cuts = length c.cuts }

-- what a run is given in addition to its program, over a device that was fitted with its first blocks
abbrev pub given_for : {M : Type 0} → KindOf M → Job → Beginning → Device → Given
given_for K job begins device =
    record { config = job.config; digest = job.digest; fitted = fitted (shape_for K job.config) begins.blocks device }

-- the exit status of a stop
abbrev pub stop_status : Stop → ℕ
stop_status (Ended (Trapped cause)) = 1
stop_status (Ended status) = 0
stop_status Terminal = 6
stop_status Report = 6
stop_status Nvm = 7
stop_status Limit = 8
stop_status Memory = 9

-- the exit status of a run: the put's if it was to be saved and was not, else the stop's
abbrev pub run_status : Stop → Option PutError → ℕ
run_status stop None = stop_status stop
run_status stop (Some PutFailed) = 3
run_status stop (Some (PutMemory e)) = 9

-- the closing line of a stop; at an end there is none
abbrev pub stop_line : ℕ → Stop → List ℕ
stop_line limit Terminal = closing_of closing.Terminal
stop_line limit Nvm = closing_of closing.Nvm
stop_line limit Limit = closing_of (closing.Limit limit)
stop_line limit Memory = closing_of closing.Memory
stop_line limit stop = []

-- the line of a name under which nothing was put
abbrev pub put_line : List ℕ → List ℕ
put_line name = joined (codes "put " ∷ name ∷ codes " failed" ∷ line_feed ∷ [])

-- the closing line of a run: the put's if it was to be saved and was not, else the stop's
abbrev pub run_line : ℕ → Option (List ℕ) → Stop → Option PutError → List ℕ
run_line limit (Some name) stop (Some PutFailed) = put_line name
run_line limit save stop (Some (PutMemory e)) = closing_of closing.Memory
run_line limit save stop why = stop_line limit stop

-- the summary of a made program that exited
abbrev pub summary_for : ProgramSource → Stop → List Event → List ℕ
summary_for (made n) (Ended (Exited value)) events = summary_of events
summary_for source stop events = []

-- the report takes a closing line, or fails in it; one that failed before gets none
abbrev pub ClosesRun : (report_failed : Bool) → List ℕ → Stream → Stream → Type 0
ClosesRun false line old new = Closes line old new
ClosesRun true line old new = new ≡ old

-- the report takes a summary, or fails in it; one that failed before gets none, and does not fail in it
abbrev pub SumsUp : (report_failed failed : Bool) → List ℕ → Stream → Stream → Type 0
SumsUp false failed summary old new = Sent failed old new summary
SumsUp true failed summary old new = (failed ≡ false) × (new ≡ old)

-- a run whose summary the report refused ends as one whose report failed
abbrev pub stop_summed : (failed : Bool) → Stop → Stop
stop_summed true stop = Report
stop_summed false stop = stop

-- The end of a run's report, and its status: the summary if the run has one, and then the closing line of the stop. If
-- the run was to be saved and was not, line and status are the put's.
pub record ClosesAs (source : ProgramSource) (limit : ℕ) (save : Option (List ℕ)) (ending : Ending) (why : Option PutError) (status : ℕ)
    (old new : Stream) : Type 0 where
  -- whether the report failed in the summary, and what it has with it
  pub failed : Bool
  pub summed : Stream
  pub sums : SumsUp ending.report_failed failed (summary_for source ending.stop ending.events) old summed
  pub closes : ClosesRun (ending.report_failed || failed) (run_line limit save ending.stop why) summed new
  pub answers : status ≡ run_status (stop_summed failed ending.stop) why

-- whatever a cut leaves of a device is safe for the marks of a run's events
abbrev pub IsSafeFor : {M : Type 0} → KindOf M → Origin → List Event → Device → Type 0
IsSafeFor K o events n = IsSafe K.decode o (marks_of o events) n

-- A run with this origin, which was given this, was begun and stopped. Its cycles make a run, which keeps what is
-- promised of every run; the sinks took what its events say. It was saved if that was asked for, and its device is safe
-- also then.
pub record IsRunFrom {M : Type 0} (K : KindOf M) (o : Origin) (given : Given) (source : ProgramSource) (job : Job) (before after : Outside)
    (a : Answer) : Type 0 where
  pub ending : Ending
  -- the device when the run stopped, and the report with the lines of its events
  pub stood : Device
  pub reported : Stream
  pub ran : HasRun K o given stood ending before.terminal after.terminal before.report reported
  -- why it was not saved, if it was to be and was not
  pub why : Option PutError
  pub saved : SavesUnder job.save (saves ending.stop) job.config stood after.device before.shelf after.shelf why
  pub closes : ClosesAs source job.config.limit job.save ending why a.status reported after.report
  pub events : a.events ≡ of_run ending.events
  pub cycles : a.cycles ≡ ending.cycles
  pub promise : Promise K o given a.cycles (all_of a.events) stood
  pub safe : IsSafeFor K o (all_of a.events) after.device

-- a run of a program was begun, over a device that was fitted for it, and stopped
abbrev pub IsRunOf : {M : Type 0} (K : KindOf M) (source : ProgramSource) (job : Job) (before : Outside)
    → IsProgram source job before.shelf → Outside → Answer → Type 0
IsRunOf K source job before program after a =
    IsRunFrom K (origin_for job program.begins program.input) (given_for K job program.begins before.device)
    source job before after a

-- A run of a program was begun and stopped over the device that the run sees, which with a gap is not the one that was
-- handed in. `IsHandedBack` says which images the latter has.
pub record IsRunOverOf {M : Type 0} (K : KindOf M) (source : ProgramSource) (job : Job) (before : Outside)
    (program : IsProgram source job before.shelf) (after : Outside) (a : Answer) : Type 0 where
  pub found : Device
  pub left : Device
  pub is_found : IsFoundAs job.config.gap before.device found
  pub is_left : IsLeftAs job.config.gap after.device left
  pub seen : IsRunOf K source job (with_device found before) program (with_device left after) a
  pub back : IsHandedBack K (origin_for job program.begins program.input) job.config.gap a.cycles (all_of a.events)
      (images_of_save job.save (saves seen.ending.stop)) after.device
  pub put : PutsThrough job.config.gap job.save (saves seen.ending.stop) after.device before.shelf after.shelf seen.why

-- a run of what a source means
pub record IsRunOver {M : Type 0} (K : KindOf M) (source : ProgramSource) (job : Job) (before after : Outside) (a : Answer) : Type 0 where
  pub program : IsProgram source job before.shelf
  pub ran : IsRunOverOf K source job before program after a

-- ---- the plain machine

-- why the plain machine stopped: for a sink that failed, else by its status
abbrev pub plain_stop : (terminal_failed report_failed : Bool) → Status → Stop
plain_stop terminal_failed true status = Report
plain_stop true false status = Terminal
plain_stop false false Running = Limit
plain_stop false false status = Ended status

-- k is the least number of steps after which the program runs no more, or the limit if that is reached first
pub record StopsAt (o : Origin) (limit k : ℕ) : Type 0 where
  pub within : k ≤ limit
  pub ran : (j : ℕ) → j < k → runs_at o j ≡ true
  pub over : k < limit → runs_at o k ≡ false

-- the lines of a state that has ended
abbrev pub end_lines : Job → State → List ℕ
end_lines job s = ended_lines job.digest s.status s.count s.memory

-- The plain machine took the program's steps from its start, up to the first state that runs no more or the limit;
-- the sinks took what its last state says.
pub record IsPlainOf (name : List ℕ) (job : Job) (before after : Outside) (a : Answer) : Type 0 where
  pub program : IsProgram (file name) job before.shelf
  pub shelf : after.shelf ≡ before.shelf
  pub stops : StopsAt (origin_for job program.begins program.input) job.config.limit a.cycles
  pub last : State
  pub is_last : last ≡ at (origin_for job program.begins program.input) a.cycles
  pub terminal_failed : Bool
  pub report_failed : Bool
  pub shown_all : Sent terminal_failed before.terminal after.terminal last.console
  pub reported : Stream
  pub read_all : Sent report_failed before.report reported (end_lines job last)
  pub closes : ClosesRun report_failed (stop_line job.config.limit (plain_stop terminal_failed report_failed last.status)) reported after.report
  pub status : a.status ≡ stop_status (plain_stop terminal_failed report_failed last.status)
  pub events : a.events ≡ of_run []

-- ---- the made program

-- what is reported of a put: the made file's number and length, or why it was not put
abbrev pub made_line : ℕ → List ℕ → Option PutError → List ℕ
made_line n name None = made_of n (length (made_file n))
made_line n name (Some PutFailed) = put_line name
made_line n name (Some (PutMemory e)) = closing_of closing.Memory

-- the status of a put: if the file was put, whether the report failed in its line
abbrev pub made_status : (failed : Bool) → Option PutError → ℕ
made_status false None = 0
made_status true None = 6
made_status failed (Some PutFailed) = 3
made_status failed (Some (PutMemory e)) = 9

-- the report takes what is said of a put, or fails in it
pub record ReportsMade (n : ℕ) (name : List ℕ) (why : Option PutError) (status : ℕ) (old new : Stream) : Type 0 where
  pub failed : Bool
  pub sent : Sent failed old new (made_line n name why)
  pub answers : status ≡ made_status failed why

-- the file of a number was put under a name, or was not
pub record MakeAnswered (n : ℕ) (name : List ℕ) (before after : Outside) (a : Answer) : Type 0 where
  pub why : Option PutError
  pub put : IsPut name (made_file n) before.shelf after.shelf why
  pub reported : ReportsMade n name why a.status before.report after.report
  pub events : a.events ≡ of_run []
  pub cycles : a.cycles ≡ 0
  pub shown_none : after.terminal ≡ before.terminal
  pub device : after.device ≡ before.device

-- ---- results

-- the result of a job
abbrev pub RunAnswered : {M : Type 0} → KindOf M → ProgramSource → Job → Outside → Outside → Answer → Type 0
RunAnswered K source job before after a =
    ((r : Refusal) × RunDue source job before after r × IsRefused r before after a)
    ⊎ IsRunOver K source job before after a

-- the result of a job on the plain machine, which leaves the device alone
abbrev pub PlainAnswered : List ℕ → Job → Outside → Outside → Answer → Type 0
PlainAnswered name job before after a =
    (after.device ≡ before.device)
    × (((r : Refusal) × ProgramDue (file name) job before.shelf after.shelf r × IsRefused r before after a)
    ⊎ IsPlainOf name job before after a)
