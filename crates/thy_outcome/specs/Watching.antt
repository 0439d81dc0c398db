-- What an observer of a call has seen.
use Rattle.std.specs.Prelude.{ℕ, List, []}
use Rattle.std.proofs.Common.{inl, inr}
use Rattle.thy_isa.specs.Step.{State}
use Rattle.thy_run.specs.Seeing.{HasSeenRun}
use Rattle.thy_run.specs.Watching.{Taken}
use Rattle.thy_run.specs.World.{Given}
use Rattle.thy_computer.specs.Kind.{KindOf}
use Rattle.thy_computer.specs.Origin.{Origin}
use Rattle.thy_base.specs.Settings.{Job, Order, run, resume, bench, compare, plain, make}
use Rattle.thy_outcome.specs.declared.answer.Answer.{Answer}
use Rattle.thy_outcome.specs.Answering.{Around, NvmOf, Outside, IsRunFrom, IsRunOf, IsRunOverOf, PlainAnswered, RunAnswered, given_for, outside_of, with_device}
use Rattle.thy_outcome.specs.Machines.{Choice}
use Rattle.thy_outcome.specs.Orders.{Answered, OrderAnswered}
use Rattle.thy_outcome.specs.Sources.{ProgramSource, file, made, image, IsProgram, origin_for}

-- an observer has seen the cycles of this run
abbrev pub HasSeenFrom : {M O : Type 0} (K : KindOf M) (has_seen : O → List Taken → Type 0) (o : Origin) (given : Given)
    (source : ProgramSource) (job : Job) (before after : Outside) (a : Answer)
    → IsRunFrom K o given source job before after a → O → Type 0
HasSeenFrom K has_seen o given source job before after a r observer =
    HasSeenRun K has_seen o given r.stood r.ending before.terminal after.terminal before.report r.reported r.ran observer

abbrev pub HasSeenOf : {M O : Type 0} (K : KindOf M) (has_seen : O → List Taken → Type 0) (source : ProgramSource) (job : Job)
    (before : Outside) (program : IsProgram source job before.shelf) (after : Outside) (a : Answer)
    → IsRunOf K source job before program after a → O → Type 0
HasSeenOf K has_seen source job before program after a r observer =
    HasSeenFrom K has_seen (origin_for job program.begins program.input) (given_for K job program.begins before.device)
    source job before after a r observer

-- an observer has seen the cycles of a run over the device that the run sees
abbrev pub HasSeenOver : {M O : Type 0} (K : KindOf M) (has_seen : O → List Taken → Type 0) (source : ProgramSource) (job : Job)
    (before : Outside) (program : IsProgram source job before.shelf) (after : Outside) (a : Answer)
    → IsRunOverOf K source job before program after a → O → Type 0
HasSeenOver K has_seen source job before program after a r observer =
    HasSeenOf K has_seen source job (with_device r.found before) program (with_device r.left after) a r.seen observer

-- an observer has seen the cycles of the run that a job was answered by; if there was none, nothing
abbrev pub HasSeenAnswer : {M O : Type 0} (K : KindOf M) (has_seen : O → List Taken → Type 0) (source : ProgramSource) (job : Job)
    (before after : Outside) (a : Answer) → RunAnswered K source job before after a → O → Type 0
HasSeenAnswer K has_seen source job before after a (inl refused) observer = has_seen observer []
HasSeenAnswer K has_seen source job before after a (inr r) observer =
    HasSeenOver K has_seen source job before r.program after a r.ran observer

-- an observer has seen the state in which the plain machine stopped; if there was no program, nothing
abbrev pub HasSeenPlain : {O : Type 0} (has_seen : O → List Taken → Type 0) (has_seen_last : O → ℕ → State → Type 0)
    (name : List ℕ) (job : Job) (before after : Outside) (a : Answer) → PlainAnswered name job before after a → O → Type 0
HasSeenPlain has_seen has_seen_last name job before after a (device, inl refused) observer = has_seen observer []
HasSeenPlain has_seen has_seen_last name job before after a (device, inr ran) observer =
    has_seen_last observer job.config.base ran.last

-- what an observer has seen of an order; the runs of a comparison it is not shown
abbrev pub HasSeenOrder : {N O : Type 0} (c : Choice) (d : NvmOf N) (has_seen : O → List Taken → Type 0)
    (has_seen_last : O → ℕ → State → Type 0) (order : Order) (before after : Around N) (a : Answer)
    → OrderAnswered c d order before after a → O → Type 0
HasSeenOrder c d has_seen has_seen_last (run name job) before after a h observer =
    HasSeenAnswer (c job.config.scheme).kind has_seen (file name) job (outside_of d before) (outside_of d after) a h observer
HasSeenOrder c d has_seen has_seen_last (bench n job) before after a h observer =
    HasSeenAnswer (c job.config.scheme).kind has_seen (made n) job (outside_of d before) (outside_of d after) a h observer
HasSeenOrder c d has_seen has_seen_last (resume name job) before after a h observer =
    HasSeenAnswer (c job.config.scheme).kind has_seen (image name) job (outside_of d before) (outside_of d after) a h observer
HasSeenOrder c d has_seen has_seen_last (compare name job) before after a h observer = has_seen observer []
HasSeenOrder c d has_seen has_seen_last (plain name job) before after a h observer =
    HasSeenPlain has_seen has_seen_last name job (outside_of d before) (outside_of d after) a h observer
HasSeenOrder c d has_seen has_seen_last (make n name) before after a h observer = has_seen observer []

-- what an observer has seen of a call
abbrev pub HasSeenCall : {N O : Type 0} (c : Choice) (d : NvmOf N) (has_seen : O → List Taken → Type 0)
    (has_seen_last : O → ℕ → State → Type 0) (words : List (List ℕ)) (before after : Around N) (a : Answer)
    → Answered c d words before after a → O → Type 0
HasSeenCall c d has_seen has_seen_last words before after a (inl refused) observer = has_seen observer []
HasSeenCall c d has_seen has_seen_last words before after a (inr (order, asked, h)) observer =
    HasSeenOrder c d has_seen has_seen_last order before after a h observer

-- ---- answers with an observer

-- the answer to a job, and what an observer has seen of it
abbrev pub RunSeen : {M O : Type 0} → KindOf M → (O → List Taken → Type 0) → ProgramSource → Job → Outside → Outside → Answer → O
    → Type 0
RunSeen K has_seen source job before after a observer =
    (h : RunAnswered K source job before after a) × HasSeenAnswer K has_seen source job before after a h observer

-- the answer of the plain machine, and what an observer has seen of it
abbrev pub PlainSeen : {O : Type 0} → (O → List Taken → Type 0) → (O → ℕ → State → Type 0) → List ℕ → Job → Outside → Outside
    → Answer → O → Type 0
PlainSeen has_seen has_seen_last name job before after a observer =
    (h : PlainAnswered name job before after a) × HasSeenPlain has_seen has_seen_last name job before after a h observer

-- the result of a call, and what an observer has seen of it
abbrev pub AnswerSeen : {N O : Type 0} → Choice → NvmOf N → (O → List Taken → Type 0) → (O → ℕ → State → Type 0)
    → List (List ℕ) → Around N → Around N → Answer → O → Type 0
AnswerSeen c d has_seen has_seen_last words before after a observer =
    (h : Answered c d words before after a) × HasSeenCall c d has_seen has_seen_last words before after a h observer
