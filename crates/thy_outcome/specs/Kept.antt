-- What the program keeps of a source, of a refusal and of a run.
use Rattle.std.specs.Prelude.{ℕ, List, Option, Some, None, Result, Ok, Err}
use Rattle.thy_text.specs.History.{of_run}
use Rattle.thy_outcome.specs.declared.answer.Answer.{Answer}
use Rattle.thy_outcome.specs.declared.answer.Ran.{Ran}
use Rattle.thy_outcome.specs.declared.refusal.Refusal.{Refusal}
use Rattle.thy_outcome.specs.declared.source.ProgramSource.{ProgramSource as SourceValue}
use Rattle.thy_outcome.specs.declared.source.ProgramSource.TheVariants as value
use Rattle.thy_outcome.specs.Answering.{report_of_refusal}
use Rattle.thy_outcome.specs.Sources.{ProgramSource, file, made, image}

-- what the program keeps of a source
abbrev pub named : SourceValue → ProgramSource
named (value.File name) = file name.now
named (value.Made n) = made n
named (value.Image name) = image name.now

-- the exit status of a refusal, and its line
abbrev pub refused_status : Refusal → ℕ
refused_status r = (report_of_refusal r).0

abbrev pub refused_line : Refusal → List ℕ
refused_line r = (report_of_refusal r).1

-- why there is no result, if there is none
abbrev pub err_of : {T E : Type 0} → Result T E → Option E
err_of (Ok value) = None
err_of (Err e) = Some e

-- a run that was begun and has stopped, as the result of a call
abbrev pub answer_of : Ran → Answer
answer_of r = record { status = r.status; events = of_run r.events; cycles = r.cycles }
