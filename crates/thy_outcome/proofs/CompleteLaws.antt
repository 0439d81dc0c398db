-- A run is complete: if nothing fails its result is the result of the program's own end.
use Rattle.std.proofs.Common.{◌≡◌, ℕ, ◌+◌, ◌-◌, ◌*◌, ◌<◌, ◌≤◌, Bool, true, false, Option, Some, None, List, [], ◌∷◌, ◌++◌, length, refl, sym, ◌∙◌, ap, subst, inl, inr, arith}
use Rattle.std.specs.Prelude.{Result, Ok, Err, MatchOption, ◌⊎◌, ◌||◌}
use Rattle.std.proofs.lemmas.Bool.{cases_order}
use Rattle.std.proofs.Math.Nat.{mul-le-mul_left}
use Rattle.thy_block.specs.declared.parameters.Parameters.{Parameters}
use Rattle.thy_block.specs.declared.nvm.FitError.{FitError}
use Rattle.thy_block.specs.declared.nvm.FitError.TheVariants.{Failed as FitFailed, Memory as FitMemory}
use Rattle.thy_block.specs.declared.outside.FetchError.{FetchError}
use Rattle.thy_block.specs.declared.outside.FetchError.TheVariants.{Failed as FetchFailed, NotThere, TooLong, Memory as FetchMemory}
use Rattle.thy_block.specs.declared.outside.PutError.{PutError}
use Rattle.thy_block.specs.declared.outside.PutError.TheVariants.{Failed as PutFailed, Memory as PutMemory}
use Rattle.thy_base.specs.declared.config.Config.{Config}
use Rattle.thy_block.specs.Counts.{Rose}
use Rattle.thy_block.specs.Device.{Device, HasFailedToFit}
use Rattle.thy_base.specs.Config.{parameters_of}
use Rattle.thy_block.specs.Geometry.{program_size}
use Rattle.thy_block.specs.Outside.{Stock, Files, Stream, HasNotFailed, HasFailedUnder}
use Rattle.thy_elf.specs.declared.error.ElfError.{ElfError}
use Rattle.thy_elf.specs.declared.error.ElfError.TheVariants.{Memory as ElfMemory}
use Rattle.thy_isa.specs.declared.state.Status.{Status}
use Rattle.thy_isa.specs.declared.state.Status.TheVariants.{Running, Exited, Trapped}
use Rattle.thy_isa.specs.Step.{State, is_running, steps}
use Rattle.thy_elf.specs.Image.{Contents, read_of}
use Rattle.thy_text.specs.Event.{Event, Ended as EndedEvent}
use Rattle.thy_text.specs.History.{all_of}
use Rattle.thy_text.specs.Marks.{Marks, marks_after, AllLawful}
use Rattle.thy_text.specs.OneHart.{Counts, AllLawfulAt, counts_of}
use Rattle.thy_text.proofs.OneHartLaws.{to-counts}
use Rattle.thy_run.proofs.PromiseLaws.{first_without_turns}
use Rattle.thy_base.specs.declared.arguments.words.WordsError.{WordsError}
use Rattle.thy_base.specs.declared.arguments.words.WordsError.TheVariants.{Usage, Word, Value, Memory as WordsMemory}
use Rattle.thy_base.specs.Settings.{Job, Order, settings_of}
use Rattle.thy_computer.specs.Kind.{KindOf}
use Rattle.thy_computer.specs.Origin.{Origin, setting_of, at, runs_at}
use Rattle.thy_run.specs.Progress.{cycles_for, tally_of}
use Rattle.thy_run.specs.Endings.{EndsWith, is_memory, StopFits}
use Rattle.thy_run.specs.Laws.{course_of, first_marks}
use Rattle.thy_run.specs.Sending.{Sent, Delivered}
use Rattle.thy_run.specs.World.{Given, Ran}
use Rattle.thy_run.specs.Unfinished.{AtStop}
use Rattle.thy_run.specs.declared.ending.Ending.{Ending}
use Rattle.thy_run.specs.declared.ending.Stop.{Stop}
use Rattle.thy_run.specs.declared.ending.Stop.TheVariants.{Ended, Nvm, Memory, Terminal, Report, Limit}
use Rattle.thy_outcome.specs.declared.answer.Answer.{Answer}
use Rattle.thy_outcome.specs.declared.refusal.Refusal.{Refusal}
use Rattle.thy_outcome.specs.declared.refusal.Refusal.TheVariants.{Words, Fetch, File, Image, Input, Device as DeviceRefusal, Memory as MemoryRefusal}
use Rattle.thy_outcome.specs.Answering.{Outside, WordsDue, RunDue, given_for, ClosesAs, ClosesRun, SumsUp, IsRunOf, with_device, IsPlainOf, plain_stop, end_lines, stop_line, stop_status, stop_summed, run_line, run_status, summary_for, RunAnswered}
use Rattle.thy_outcome.specs.Levelling.{IsFoundAs, IsLeftAs}
use Rattle.thy_outcome.specs.Calm.{IsAsked, Stayed, IsCalm, left_alone, run_of, HasEndOf, HasRetired}
use Rattle.thy_outcome.specs.Kept.{refused_status}
use Rattle.thy_outcome.specs.Saving.{PutCounted, SavesUnder, saves}
use Rattle.thy_outcome.specs.Sources.{ProgramSource, file, made, image, most_bytes, most_image_bytes, Beginning, begun, from_entry, AreBytesOf, IsHeld, IsTooLong, IsInput, FetchDue, meaning_of, IsProgram, SourceDue, InputDue, IsMeant, ProgramDue, origin_for}
use Rattle.thy_outcome.proofs.EndLaws.{at_is, same_end}

-- ---- counts of faults

-- a count that stayed did not rise
pub not_risen : {A : Type 0} (old new : ℕ) → Stayed old new → Rose old new → A
not_risen old new s r = absurd (omega (arith, s.same, s.counts, r.more))

-- a sink whose count stayed did not fail
not_failed : {A : Type 0} (short failed : Bool) (settled text : List ℕ) (old new : Stream) → Stayed old.faults new.faults
    → Delivered short failed settled text old new
    → failed ≡ true → A
not_failed {A} short true settled text old new s d e =
    let first : d.middle.faults ≡ old.faults = d.took.faults in
    not_risen old.faults new.faults s (subst (λ f. Rose f new.faults) first d.sent.0.rose)
not_failed short false settled text old new s d e = absurd (cc)

-- ---- the ends of reports

module _ (source : ProgramSource) (limit : ℕ) (save : Option (List ℕ)) (e : Ending) (why : Option PutError) (status : ℕ) (old new : Stream)
    (c : ClosesAs source limit save e why status old new) where
  -- a report that failed before got no more
  mute_end : e.report_failed ≡ true → new ≡ old
  mute_end deaf =
      let sums : (c.failed ≡ false) × (c.summed ≡ old) =
      subst (λ b. SumsUp b c.failed (summary_for source e.stop e.events) old c.summed) deaf c.sums in
      let closed : new ≡ c.summed = subst (λ b. ClosesRun (b || c.failed) (run_line limit save e.stop why) c.summed new) deaf c.closes in
      closed ∙ sums.1

  -- a report whose count of faults stayed took the summary
  heard_by : (deaf failed : Bool) → e.report_failed ≡ deaf → c.failed ≡ failed → (e.report_failed ≡ false → Stayed old.faults new.faults)
      → c.failed ≡ false
  heard_by deaf false is f stayed = f
  heard_by true true is f stayed = (subst (λ b. SumsUp b c.failed (summary_for source e.stop e.events) old c.summed) is c.sums).0
  heard_by false true is f stayed =
      let sent : Sent true old c.summed (summary_for source e.stop e.events) =
      subst (λ b. Sent b old c.summed (summary_for source e.stop e.events)) f
      (subst (λ b. SumsUp b c.failed (summary_for source e.stop e.events) old c.summed) is c.sums) in
      let closed : new ≡ c.summed =
      subst (λ b. ClosesRun b (run_line limit save e.stop why) c.summed new) f
      (subst (λ b. ClosesRun (b || c.failed) (run_line limit save e.stop why) c.summed new) is c.closes) in
      not_risen old.faults c.summed.faults (subst (λ (x : Stream). Stayed old.faults x.faults) closed (stayed is)) sent.0.rose

  -- the status is the status of the stop, or of the put, if the report's count of faults stayed
  status_heard : (e.report_failed ≡ false → Stayed old.faults new.faults) → status ≡ run_status e.stop why
  status_heard stayed =
      c.answers ∙ ap (λ b. run_status (stop_summed b e.stop) why) (heard_by e.report_failed c.failed refl refl stayed)

-- a sink that did not fail has its count
pub delivered_faults : (short failed : Bool) (settled text : List ℕ) (old new : Stream) → failed ≡ false
    → Delivered short failed settled text old new → new.faults ≡ old.faults
delivered_faults short false settled text old new heard h = h.sent.faults ∙ h.took.faults
delivered_faults short true settled text old new heard h = absurd (cc)

-- ---- ended states

-- the status of the end among lawful events is the status of a state of the plain machine, which has ended
pub record IsEndOf (c : Counts) (status : Status) : Type 0 where
  pub count : ℕ
  pub is_status : status ≡ (c.at count).status
  pub over : is_running (c.at count).status ≡ false

pub end_lawful : (c : Counts) (m : Marks) (vs : List Event) (status : Status) (count cycle : ℕ) (state : State)
    → AllLawfulAt c m (vs ++ EndedEvent status count cycle state ∷ []) → IsEndOf c status
end_lawful c m [] status count cycle state all =
    let whole : state ≡ c.at count = all.0.0.whole in
    record {
      count = count;
      is_status = all.0.1 ∙ ap (λ (s : State). s.status) whole;
      over = ap (λ (s : State). is_running s.status) (sym whole) ∙ all.0.0.over;
    }
end_lawful c m (v ∷ vs) status count cycle state all = end_lawful c (marks_after c.start m v) vs status count cycle state all.1

-- ---- refusals

-- what is known of a job's program: its bytes and input are on a shelf with known contents, or are made
pub record Stands (source : ProgramSource) (job : Job) (stock : Stock) : Type 0 where
  pub files : Files
  pub holds_files : stock.held ≡ Some files
  pub program : IsProgram source job stock

-- a shelf with known contents holds the same under a name each time
held_same : (most : ℕ) (stock : Stock) (files : Files) (name a b : List ℕ) → stock.held ≡ Some files → IsHeld most stock name a
    → IsHeld most stock name b → a ≡ b
held_same most stock files name a b holds_files g h = let one : files name ≡ Some a = g.1 files holds_files in
    let other : files name ≡ Some b = h.1 files holds_files in cc

input_same : (stock : Stock) (files : Files) (name : Option (List ℕ)) (a b : List ℕ) → stock.held ≡ Some files → IsInput stock name a
    → IsInput stock name b → a ≡ b
input_same stock files None a b holds_files g h = g ∙ sym h
input_same stock files (Some name) a b holds_files g h = held_same most_bytes stock files name a b holds_files g h

bytes_same : (source : ProgramSource) (stock : Stock) (files : Files) (a b : List ℕ) → stock.held ≡ Some files → AreBytesOf source stock a
    → AreBytesOf source stock b → a ≡ b
bytes_same (file name) stock files a b holds_files g h = held_same most_bytes stock files name a b holds_files g h
bytes_same (image name) stock files a b holds_files g h = held_same most_image_bytes stock files name a b holds_files g h
bytes_same (made n) stock files a b holds_files g h = g ∙ sym h

module _ (source : ProgramSource) (job : Job) (stock : Stock) (s : Stands source job stock) where
  -- all programs of a job have one input
  pub inputs_same : (f : IsProgram source job stock) → f.input ≡ s.program.input
  inputs_same f = input_same stock s.files job.input f.input s.program.input s.holds_files f.fetched.is_input s.program.fetched.is_input

  -- what is meant by bytes and an input that were read
  meant_same : (bytes input : List ℕ) → AreBytesOf source stock bytes → IsInput stock job.input input
      → meaning_of source job bytes input ≡ Ok s.program.begins
  meant_same bytes input fetched reads =
      ap (λ b. meaning_of source job b input) (bytes_same source stock s.files bytes s.program.bytes s.holds_files fetched s.program.fetched.fetched)
      ∙ ap (meaning_of source job s.program.bytes)
      (input_same stock s.files job.input input s.program.input s.holds_files reads s.program.fetched.is_input)
      ∙ s.program.means

  pub begins_same : (f : IsProgram source job stock) → f.begins ≡ s.program.begins
  begins_same f =
      let known : meaning_of source job f.bytes f.input ≡ Ok s.program.begins = meant_same f.bytes f.input f.fetched.fetched f.fetched.is_input in
      let read : meaning_of source job f.bytes f.input ≡ Ok f.begins = f.means in
      cc

-- what is held can be read, unless memory runs out
fetch_due : (most : ℕ) (old new : Stock) (files : Files) (name bytes : List ℕ) (text : _) (e : FetchError) → old.held ≡ Some files
    → IsHeld most old name bytes → Stayed old.faults new.faults → FetchDue most old new name e
    → refused_status (Fetch text e) ≡ 9
fetch_due most old new files name bytes text FetchFailed holds_files held faults due = not_risen old.faults new.faults faults due.rose
fetch_due most old new files name bytes text NotThere holds_files held faults due =
    let none : (files name ≡ None) × HasNotFailed old new =
    subst (λ h. MatchOption h (HasFailedUnder name old new) (λ known. (known name ≡ None) × HasNotFailed old new)) holds_files due in
    let missing : files name ≡ None = none.0 in
    absurd (let there : files name ≡ Some bytes = held.1 files holds_files in cc)
fetch_due most old new files name bytes text TooLong holds_files held faults due =
    let long : IsTooLong most (files name) =
    (subst (λ h. MatchOption h (HasFailedUnder name old new) (λ known. IsTooLong most (known name) × HasNotFailed old new)) holds_files due).0 in
    let there : files name ≡ Some bytes = held.1 files holds_files in
    let same : long.0 ≡ bytes = (let found : files name ≡ Some long.0 = long.1 in cc) in
    absurd (omega (arith, held.0, long.2, ap length same))
fetch_due most old new files name bytes text (FetchMemory e) holds_files held faults due = refl

source_due : (source : ProgramSource) (job : Job) (old new : Stock) (text : _) (name : List ℕ) (e : FetchError) → Stands source job old
    → Stayed old.faults new.faults → SourceDue source old new name e
    → refused_status (Fetch text e) ≡ 9
source_due (file own) job old new text name e s faults due =
    fetch_due most_bytes old new s.files own s.program.bytes text e s.holds_files s.program.fetched.fetched faults
    (subst (λ n. FetchDue most_bytes old new n e) due.0 due.1)
source_due (image own) job old new text name e s faults due =
    fetch_due most_image_bytes old new s.files own s.program.bytes text e s.holds_files s.program.fetched.fetched faults
    (subst (λ n. FetchDue most_image_bytes old new n e) due.0 due.1)
source_due (made n) job old new text name e s faults due = absurd due

input_due : (source : ProgramSource) (job : Job) (old new : Stock) (text : _) (name : List ℕ) (e : FetchError) → Stands source job old
    → Stayed old.faults new.faults → InputDue source job old new name e
    → refused_status (Fetch text e) ≡ 9
input_due source job old new text name e s faults due =
    fetch_due most_bytes old new s.files name s.program.input text e s.holds_files
    (subst (λ n. IsInput old n s.program.input) due.0 s.program.fetched.is_input) faults due.2

fetched_due : (source : ProgramSource) (job : Job) (old new : Stock) (text : _) (name : List ℕ) (e : FetchError) → Stands source job old
    → Stayed old.faults new.faults → SourceDue source old new name e ⊎ InputDue source job old new name e
    → refused_status (Fetch text e) ≡ 9
fetched_due source job old new text name e s faults (inl due) = source_due source job old new text name e s faults due
fetched_due source job old new text name e s faults (inr due) = input_due source job old new text name e s faults due

-- what means a program is not refused
means_none : {A : Type 0} (source : ProgramSource) (job : Job) (stock : Stock) (r : Refusal) → Stands source job stock
    → IsMeant source job stock r → A
means_none source job stock r s (bytes, fetched, input, reads, means) =
    let known : meaning_of source job bytes input ≡ Ok s.program.begins = meant_same source job stock s bytes input fetched reads in
    absurd (cc)

pub device_due : (e : FitError) (n m : Device) → Stayed n.faults m.faults → HasFailedToFit e n m → refused_status (DeviceRefusal e) ≡ 9
device_due FitFailed n m faults due = not_risen n.faults m.faults faults due.2
device_due (FitMemory e) n m faults due = refl

-- only if memory runs out
pub program_due : (source : ProgramSource) (job : Job) (old new : Stock) (r : Refusal) → Stands source job old
    → Stayed old.faults new.faults → ProgramDue source job old new r → refused_status r ≡ 9
program_due source job old new (Words e) s shelf due = absurd due
program_due source job old new (Fetch name e) s shelf due = fetched_due source job old new name name.now e s shelf due
program_due source job old new (File (ElfMemory e)) s shelf due = refl
program_due source job old new (File e) s shelf due = means_none source job old (File e) s due.1
program_due source job old new (Image bad) s shelf due = means_none source job old (Image bad) s due.1
program_due source job old new (Input cursor length) s shelf due = means_none source job old (Input cursor length) s due.1
program_due source job old new (DeviceRefusal e) s shelf due = absurd due
program_due source job old new (MemoryRefusal e) s shelf due = refl

run_due : (source : ProgramSource) (job : Job) (before after : Outside) (r : Refusal) → Stands source job before.shelf → IsCalm before after
    → RunDue source job before after r → refused_status r ≡ 9
run_due source job before after (DeviceRefusal e) s faults due = device_due e before.device after.device faults.device due.2
run_due source job before after r s faults due = program_due source job before.shelf after.shelf r s faults.shelf due.0

pub words_due : (words : List (List ℕ)) (order : Order) (e : WordsError) → settings_of words ≡ Ok order → WordsDue words e
    → refused_status (Words e) ≡ 9
words_due words order Usage is due = absurd (cc)
words_due words order (Word field) is due = absurd (cc)
words_due words order (Value field value) is due = absurd (cc)
words_due words order (WordsMemory e) is due = refl

pub order_same : (words : List (List ℕ)) (a b : Order) → settings_of words ≡ Ok a → settings_of words ≡ Ok b → b ≡ a
order_same words a b e f = cc

-- ---- saves

-- a shelf that did not fail took what was put on it, unless memory ran out
pub put_calm : {A : Type 0} (name : List ℕ) (old new : Stock) → Stayed old.faults new.faults → PutCounted name old new (Some PutFailed) → A
put_calm name old new faults failed = not_risen old.faults new.faults faults failed.rose

save_calm : {A : Type 0} (name : Option (List ℕ)) (due : Bool) (c : Config) (n m : Device) (old new : Stock) → Stayed old.faults new.faults
    → SavesUnder name due c n m old new (Some PutFailed) → A
save_calm (Some name) true c n m old new faults h = put_calm name old new faults h.1.counted
save_calm None true c n m old new faults h = absurd (let none : Some PutFailed ≡ None = h.2 in cc)
save_calm None false c n m old new faults h = absurd (let none : Some PutFailed ≡ None = h.2 in cc)
save_calm (Some name) false c n m old new faults h = absurd (let none : Some PutFailed ≡ None = h.2 in cc)

-- the device's count after a save
save_counts : (name : Option (List ℕ)) (due : Bool) (c : Config) (n m : Device) (old new : Stock) (why : Option PutError)
    → SavesUnder name due c n m old new why → m.faults ≡ n.faults
save_counts (Some name) true c n m old new why h = ap (λ (d : Device). d.faults) h.0.device
save_counts None true c n m old new why h = ap (λ (d : Device). d.faults) h.0
save_counts None false c n m old new why h = ap (λ (d : Device). d.faults) h.0
save_counts (Some name) false c n m old new why h = ap (λ (d : Device). d.faults) h.0

-- ---- runs

module _ {M : Type 0} (K : KindOf M) (source : ProgramSource) (job : Job) (k : ℕ) (before : Outside)
    (program : IsProgram source job before.shelf) (after : Outside) (a : Answer) (s : Stands source job before.shelf)
    (faults : IsCalm before after) (one : job.config.harts ≡ 1) (over : is_running (left_alone s.program k).status ≡ false)
    (limit : cycles_for K (parameters_of job.config) job.config.cuts k ≤ job.config.limit)
    (h : IsRunOf K source job before program after a) where
  abbrev o : Origin
  o = origin_for job program.begins program.input

  abbrev given : Given
  given = given_for K job program.begins before.device

  abbrev over_at : Origin
  over_at = origin_for job s.program.begins s.program.input

  -- the run is about the program that is there
  same_origin : over_at ≡ o
  same_origin =
      sym (ap (λ b. origin_for job b program.input) (begins_same source job before.shelf s program)
      ∙ ap (origin_for job s.program.begins) (inputs_same source job before.shelf s program))

  left_here : left_alone s.program k ≡ at o (o.start.count + k)
  left_here = ap (λ (x : Origin). at x (x.start.count + k)) same_origin

  over_here : is_running (at o (o.start.count + k)).status ≡ false
  over_here = ap (λ (x : State). is_running x.status) (sym left_here) ∙ over

  few : a.cycles < job.config.limit
  few =
      let soon : a.cycles < cycles_for K (parameters_of job.config) job.config.cuts k = h.promise.soon k one over_here in
      omega (arith, soon, limit)

  fits : (stop : Stop) → h.ending.stop ≡ stop → StopFits (parameters_of job.config).limit given.fitted h.stood h.ending stop
  fits stop is = subst (StopFits (parameters_of job.config).limit given.fitted h.stood h.ending) is h.ran.stop_fits

  -- the status at an end is the program's
  end_reported : (status : Status) → EndsWith h.ending.events status → status ≡ (left_alone s.program k).status
  end_reported status e =
      let lawful : AllLawful (course_of o) (first_marks o) (e.before ++ EndedEvent status e.count e.cycle e.state ∷ []) =
      subst (AllLawful (course_of o) (first_marks o)) (ap all_of h.events ∙ e.last) h.promise.events_lawful in
      let by_counts : AllLawfulAt (counts_of (course_of o)) (first_marks o) (e.before ++ EndedEvent status e.count e.cycle e.state ∷ []) =
      to-counts (course_of o) (first_marks o) (e.before ++ EndedEvent status e.count e.cycle e.state ∷ []) one
      (first_without_turns o.start.count o.kept) lawful in
      let end : IsEndOf (counts_of (course_of o)) status =
      end_lawful (counts_of (course_of o)) (first_marks o) e.before status e.count e.cycle e.state by_counts in
      let j : ℕ = end.count - o.start.count in
      let there : at o end.count ≡ steps (setting_of o) j o.start = at_is o end.count refl in
      let here : at o (o.start.count + k) ≡ steps (setting_of o) k o.start = at_is o (o.start.count + k) refl
      ∙ ap (λ i. steps (setting_of o) i o.start) (let e : o.start.count + k - o.start.count ≡ k = omega arith in e) in
      let ended_there : is_running (steps (setting_of o) j o.start).status ≡ false =
      ap (λ (x : State). is_running x.status) (sym there) ∙ end.over in
      let ended_here : is_running (steps (setting_of o) k o.start).status ≡ false = ap (λ (x : State). is_running x.status) (sym here) ∙ over_here in
      end.is_status ∙ ap (λ (x : State). x.status) (there ∙ same_end (setting_of o) o.start j k ended_there ended_here ∙ sym here ∙ sym left_here)

  abbrev last : State
  last = left_alone s.program k

  -- the report's count stayed from the end of its events on
  report_stayed : h.ending.report_failed ≡ false → Stayed h.reported.faults after.report.faults
  report_stayed heard =
      let same : h.reported.faults ≡ before.report.faults =
      delivered_faults false h.ending.report_failed _ _ before.report h.reported heard h.ran.read_all in
      record { same = faults.report.same ∙ sym same; counts = omega (arith, same, faults.report.counts) }

  -- the status is the status of the stop, or of the put
  status_is : a.status ≡ run_status h.ending.stop h.why
  status_is = status_heard source job.config.limit job.save h.ending h.why a.status h.reported after.report h.closes report_stayed

  -- if it was saved, or was not to be, the stop determines the status
  by_stop : (stop : Stop) → h.ending.stop ≡ stop → h.why ≡ None → HasEndOf last a
  by_stop (Ended status) is saved =
      inl (status_is ∙ ap (run_status h.ending.stop) saved ∙ ap stop_status is
      ∙ ap (λ x. stop_status (Ended x)) (end_reported status (fits (Ended status) is).0))
  by_stop Memory is saved = inr (status_is ∙ ap (run_status h.ending.stop) saved ∙ ap stop_status is)
  by_stop Terminal is saved = not_failed (is_memory h.ending.stop) h.ending.terminal_failed _ _ before.terminal after.terminal
      faults.terminal h.ran.shown_all (fits Terminal is).0
  by_stop Report is saved =
      let report_failed : h.ending.report_failed ≡ true = (fits Report is).0 in
      let closed : after.report ≡ h.reported =
      mute_end source job.config.limit job.save h.ending h.why a.status h.reported after.report h.closes report_failed in
      not_failed false h.ending.report_failed _ _ before.report h.reported
      (subst (λ (x : Stream). Stayed before.report.faults x.faults) closed faults.report) h.ran.read_all report_failed
  by_stop Nvm is saved =
      let same : after.device.faults ≡ h.stood.faults =
      save_counts job.save (saves h.ending.stop) job.config h.stood after.device before.shelf after.shelf h.why h.saved in
      not_risen before.device.faults h.stood.faults (subst (Stayed before.device.faults) same faults.device) (fits Nvm is).0
  by_stop Limit is saved =
      let reached : h.ending.cycles ≡ job.config.limit = (fits Limit is).0 in
      absurd (omega (arith, few, reached, h.cycles))

  pub by_save : (why : Option PutError) → h.why ≡ why → HasEndOf last a
  by_save None is = by_stop h.ending.stop refl is
  by_save (Some PutFailed) is =
      save_calm job.save (saves h.ending.stop) job.config h.stood after.device before.shelf after.shelf faults.shelf
      (subst (SavesUnder job.save (saves h.ending.stop) job.config h.stood after.device before.shelf after.shelf) is h.saved)
  by_save (Some (PutMemory e)) is = inr (status_is ∙ ap (run_status h.ending.stop) is)

-- ---- the plain machine

-- a program file's program begins at the count 0
begun_count : (p : Parameters) (read : Result Contents ElfError) (b : Beginning) → begun p read ≡ Ok b → b.start.count ≡ 0
begun_count p (Ok contents) b is = let same : from_entry p contents ≡ b = (cc) in ap (λ (x : Beginning). x.start.count) (sym same)
begun_count p (Err e) b is = absurd (cc)

module _ (name : List ℕ) (job : Job) (k : ℕ) (before after : Outside) (a : Answer) (s : Stands (file name) job before.shelf)
    (faults : IsCalm before after) (over : is_running (left_alone s.program k).status ≡ false) (limit : k ≤ job.config.limit)
    (h : IsPlainOf name job before after a) where
  abbrev plain_at : Origin
  plain_at = origin_for job h.program.begins h.program.input

  none_before : plain_at.start.count ≡ 0
  none_before = begun_count (parameters_of job.config)
      (read_of h.program.bytes job.config.base (program_size (parameters_of job.config))) h.program.begins h.program.means

  -- the machine's program is the file's, and its input the one that was read
  left_there : left_alone s.program k ≡ at plain_at k
  left_there =
      sym (ap (λ (x : Origin). at x (x.start.count + k))
      (ap (λ b. origin_for job b h.program.input) (begins_same (file name) job before.shelf s h.program)
      ∙ ap (origin_for job s.program.begins) (inputs_same (file name) job before.shelf s h.program)))
      ∙ ap (at plain_at) (let e : plain_at.start.count + k ≡ k = omega (arith, none_before) in e)

  by_steps : (j : ℕ) → at plain_at j ≡ steps (setting_of plain_at) j plain_at.start
  by_steps j = at_is plain_at j refl
      ∙ ap (λ i. steps (setting_of plain_at) i plain_at.start) (let e : j - plain_at.start.count ≡ j = omega (arith, none_before) in e)

  -- the program ends at the state at which the machine stopped
  over_there : is_running (steps (setting_of plain_at) k plain_at.start).status ≡ false
  over_there = ap (λ (x : State). is_running x.status) (sym (left_there ∙ by_steps k)) ∙ over

  -- whether the program runs after this many steps
  runs_is : (j : ℕ) → runs_at plain_at j ≡ is_running (steps (setting_of plain_at) j plain_at.start).status
  runs_is j = ap (λ (x : State). is_running x.status) (by_steps j)

  not_both : {A : Type 0} (b : Bool) → b ≡ true → b ≡ false → A
  not_both b e f = absurd (cc)

  stopped : is_running (steps (setting_of plain_at) a.cycles plain_at.start).status ≡ false
  stopped = elim (cases_order a.cycles k) as (λ _. is_running (steps (setting_of plain_at) a.cycles plain_at.start).status ≡ false) [
    | inl same ↦ ap (λ j. is_running (steps (setting_of plain_at) j plain_at.start).status) same ∙ over_there
    | inr other ↦ elim other as (λ _. is_running (steps (setting_of plain_at) a.cycles plain_at.start).status ≡ false) [
      | inl less ↦ sym (runs_is a.cycles) ∙ h.stops.over (omega (arith, less, limit))
      | inr more ↦ not_both _ (sym (runs_is k) ∙ h.stops.ran k more) over_there
    ]
  ]

  last_status : h.last.status ≡ (left_alone s.program k).status
  last_status =
      ap (λ (x : State). x.status) (h.is_last ∙ by_steps a.cycles
      ∙ same_end (setting_of plain_at) plain_at.start a.cycles k stopped over_there ∙ sym (left_there ∙ by_steps k))

  ended_stop : (status : Status) → is_running status ≡ false → plain_stop false false status ≡ Ended status
  ended_stop Running e = absurd (cc)
  ended_stop (Exited v) e = refl
  ended_stop (Trapped v) e = refl

  pub by_faults : (terminal_failed report_failed : Bool) → h.terminal_failed ≡ terminal_failed → h.report_failed ≡ report_failed
      → HasEndOf (left_alone s.program k) a
  by_faults terminal_failed true is_mute is_deaf =
      let closed : after.report ≡ h.reported = subst (λ b. ClosesRun b (stop_line job.config.limit
      (plain_stop h.terminal_failed h.report_failed h.last.status)) h.reported after.report) is_deaf h.closes in
      let sent : Sent true before.report h.reported (end_lines job h.last) =
      subst (λ b. Sent b before.report h.reported (end_lines job h.last)) is_deaf h.read_all in
      not_risen before.report.faults h.reported.faults
      (subst (λ (x : Stream). Stayed before.report.faults x.faults) closed faults.report) sent.0.rose
  by_faults true false is_mute is_deaf =
      let sent : Sent true before.terminal after.terminal h.last.console =
      subst (λ b. Sent b before.terminal after.terminal h.last.console) is_mute h.shown_all in
      not_risen before.terminal.faults after.terminal.faults faults.terminal sent.0.rose
  by_faults false false is_mute is_deaf =
      let stop : plain_stop h.terminal_failed h.report_failed h.last.status ≡ Ended h.last.status =
      ap (λ b. plain_stop b h.report_failed h.last.status) is_mute ∙ ap (λ b. plain_stop false b h.last.status) is_deaf
      ∙ ended_stop h.last.status (ap is_running last_status ∙ over) in
      inl (h.status ∙ ap stop_status stop ∙ ap (λ x. stop_status (Ended x)) last_status)

-- ---- results

abbrev pub stands_of : {order : Order} {source : ProgramSource} {job : Job} {words : List (List ℕ)} {stock : Stock}
    → IsAsked order source job words stock → Stands source job stock
stands_of i = record { files = i.files; holds_files = i.holds_files; program = i.program }

-- if nothing failed, nothing did on the device that the run saw
pub calm_seen : (gap : ℕ) (before after : Outside) (found left : Device) → IsFoundAs gap before.device found
    → IsLeftAs gap after.device left → IsCalm before after → IsCalm (with_device found before) (with_device left after)
calm_seen gap before after found left is_found is_left faults = record {
  shelf = faults.shelf;
  device = record {
    same = is_left.faults ∙ faults.device.same ∙ sym is_found.faults;
    counts = omega (arith, is_found.faults, faults.device.counts);
  };
  terminal = faults.terminal;
  report = faults.report;
}

pub run_completes : {M : Type 0} (K : KindOf M) (words : List (List ℕ)) (before after : Outside) (a : Answer) (source : ProgramSource)
    (job : Job) (i : IsAsked (run_of source job) source job words before.shelf) (k : ℕ) → IsCalm before after → job.config.harts ≡ 1
    → is_running (left_alone i.program k).status ≡ false → cycles_for K (parameters_of job.config) job.config.cuts k ≤ job.config.limit
    → RunAnswered K source job before after a → HasEndOf (left_alone i.program k) a
run_completes K words before after a source job i k faults one over limit (inl (r, due, refused)) =
    inr (refused.status ∙ run_due source job before after r (stands_of i) faults due)
run_completes K words before after a source job i k faults one over limit (inr ran) =
    let r = ran.ran in
    by_save K source job k (with_device r.found before) ran.program (with_device r.left after) a (stands_of i)
    (calm_seen job.config.gap before after r.found r.left r.is_found r.is_left faults) one over limit r.seen r.seen.why refl

-- ---- two harts

-- an end has one of two statuses
ended_status : (status : Status) → (stop_status (Ended status) ≡ 0) ⊎ (stop_status (Ended status) ≡ 1)
ended_status Running = inl refl
ended_status (Exited v) = inl refl
ended_status (Trapped v) = inr refl

-- the limit, or one of three statuses
abbrev pub Pairs : {M : Type 0} → KindOf M → Job → Origin → (Device → Given) → Answer → ℕ → Type 0
Pairs K job o given a k = (a.status ≡ 0) ⊎ (a.status ≡ 1) ⊎ (a.status ≡ 9) ⊎ ((found : Device) × HasRetired K o (given found) a k)

more_each : (each k n : ℕ) → each * k < each * n → k ≤ n
more_each each k n more = elim (cases_order k n) as (λ _. k ≤ n) [
  | inl same ↦ omega (arith, same)
  | inr other ↦ elim other as (λ _. k ≤ n) [
    | inl less ↦ omega (arith, less)
    | inr great ↦ absurd (let le : each * n ≤ each * k = mul-le-mul_left each (let e : n ≤ k = omega (arith, great) in e) in omega (arith, le, more))
  ]
]

module _ {M : Type 0} (K : KindOf M) (source : ProgramSource) (job : Job) (k : ℕ) (before : Outside)
    (program : IsProgram source job before.shelf) (after : Outside) (a : Answer) (s : Stands source job before.shelf)
    (faults : IsCalm before after) (limit : cycles_for K (parameters_of job.config) job.config.cuts k ≤ job.config.limit)
    (h : IsRunOf K source job before program after a) where
  -- at the limit at least k instructions have retired
  retired_by : h.ending.stop ≡ Limit
      → HasRetired K (origin_for job program.begins program.input) (given_for K job program.begins before.device) a k
  retired_by is =
      let o : Origin = origin_for job program.begins program.input in
      let given : Given = given_for K job program.begins before.device in
      let fits : StopFits (parameters_of job.config).limit given.fitted h.stood h.ending Limit =
      subst (StopFits (parameters_of job.config).limit given.fitted h.stood h.ending) is h.ran.stop_fits in
      let reached : a.cycles ≡ job.config.limit = h.cycles ∙ fits.0 in
      let stopped = h.ran.stopped in
      let ran : Ran K o given a.cycles stopped.last = subst (λ c. Ran K o given c stopped.last) (sym h.cycles) stopped.ran in
      let last : AtStop K o given.config.cuts stopped.last h.ending.events h.stood Limit =
      subst (AtStop K o given.config.cuts stopped.last h.ending.events h.stood) is stopped.at_stop in
      let paced : a.cycles < cycles_for K (parameters_of job.config) job.config.cuts
      (tally_of K o given a.cycles stopped.last ran).retired = h.promise.paced stopped.last ran in
      record {
        last = stopped.last;
        ran = ran;
        events = sym (ap all_of h.events ∙ last.0);
        many = more_each (K.most_each (parameters_of job.config)) k (tally_of K o given a.cycles stopped.last ran).retired
            (omega (arith, paced, reached, limit));
      }

  pair_stayed : h.ending.report_failed ≡ false → Stayed h.reported.faults after.report.faults
  pair_stayed heard =
      let same : h.reported.faults ≡ before.report.faults =
      delivered_faults false h.ending.report_failed _ _ before.report h.reported heard h.ran.read_all in
      record { same = faults.report.same ∙ sym same; counts = omega (arith, same, faults.report.counts) }

  pair_status : a.status ≡ run_status h.ending.stop h.why
  pair_status = status_heard source job.config.limit job.save h.ending h.why a.status h.reported after.report h.closes pair_stayed

  pair_by_stop : (stop : Stop) → h.ending.stop ≡ stop → h.why ≡ None
      → Pairs K job (origin_for job program.begins program.input) (given_for K job program.begins) a k
  pair_by_stop (Ended status) is saved =
      let e : a.status ≡ stop_status (Ended status) = pair_status ∙ ap (run_status h.ending.stop) saved ∙ ap stop_status is in
      elim (ended_status status) as (λ _. Pairs K job (origin_for job program.begins program.input) (given_for K job program.begins) a k) [
        | inl none ↦ inl (e ∙ none)
        | inr one ↦ inr (inl (e ∙ one))
      ]
  pair_by_stop Memory is saved = inr (inr (inl (pair_status ∙ ap (run_status h.ending.stop) saved ∙ ap stop_status is)))
  pair_by_stop Terminal is saved =
      let fits = subst (StopFits (parameters_of job.config).limit (given_for K job program.begins before.device).fitted h.stood h.ending)
      is h.ran.stop_fits in
      not_failed (is_memory h.ending.stop) h.ending.terminal_failed _ _ before.terminal after.terminal faults.terminal h.ran.shown_all fits.0
  pair_by_stop Report is saved =
      let fits = subst (StopFits (parameters_of job.config).limit (given_for K job program.begins before.device).fitted h.stood h.ending)
      is h.ran.stop_fits in
      let report_failed : h.ending.report_failed ≡ true = fits.0 in
      let closed : after.report ≡ h.reported =
      mute_end source job.config.limit job.save h.ending h.why a.status h.reported after.report h.closes report_failed in
      not_failed false h.ending.report_failed _ _ before.report h.reported
      (subst (λ (x : Stream). Stayed before.report.faults x.faults) closed faults.report) h.ran.read_all report_failed
  pair_by_stop Nvm is saved =
      let fits = subst (StopFits (parameters_of job.config).limit (given_for K job program.begins before.device).fitted h.stood h.ending)
      is h.ran.stop_fits in
      let same : after.device.faults ≡ h.stood.faults =
      save_counts job.save (saves h.ending.stop) job.config h.stood after.device before.shelf after.shelf h.why h.saved in
      not_risen before.device.faults h.stood.faults (subst (Stayed before.device.faults) same faults.device) fits.0
  pair_by_stop Limit is saved = inr (inr (inr (before.device, retired_by is)))

  pair_by_save : (why : Option PutError) → h.why ≡ why
      → Pairs K job (origin_for job program.begins program.input) (given_for K job program.begins) a k
  pair_by_save None is = pair_by_stop h.ending.stop refl is
  pair_by_save (Some PutFailed) is =
      save_calm job.save (saves h.ending.stop) job.config h.stood after.device before.shelf after.shelf faults.shelf
      (subst (SavesUnder job.save (saves h.ending.stop) job.config h.stood after.device before.shelf after.shelf) is h.saved)
  pair_by_save (Some (PutMemory e)) is = inr (inr (inl (pair_status ∙ ap (run_status h.ending.stop) is)))

  -- about the program that is there
  pub pair_of : Pairs K job (origin_for job s.program.begins s.program.input) (given_for K job s.program.begins) a k
  pair_of =
      subst (λ (b : Beginning). Pairs K job (origin_for job b s.program.input) (given_for K job b) a k)
      (begins_same source job before.shelf s program)
      (subst (λ (input : List ℕ). Pairs K job (origin_for job program.begins input) (given_for K job program.begins) a k)
      (inputs_same source job before.shelf s program)
      (pair_by_save h.why refl))

pub pair_completes : {M : Type 0} (K : KindOf M) (words : List (List ℕ)) (before after : Outside) (a : Answer) (source : ProgramSource)
    (job : Job) (i : IsAsked (run_of source job) source job words before.shelf) (k : ℕ) → IsCalm before after
    → cycles_for K (parameters_of job.config) job.config.cuts k ≤ job.config.limit → RunAnswered K source job before after a
    → Pairs K job (origin_for job i.program.begins i.program.input) (given_for K job i.program.begins) a k
pair_completes K words before after a source job i k faults limit (inl (r, due, refused)) =
    inr (inr (inl (refused.status ∙ run_due source job before after r (stands_of i) faults due)))
pair_completes K words before after a source job i k faults limit (inr ran) =
    let r = ran.ran in
    pair_of K source job k (with_device r.found before) ran.program (with_device r.left after) a (stands_of i)
    (calm_seen job.config.gap before after r.found r.left r.is_found r.is_left faults) limit r.seen
