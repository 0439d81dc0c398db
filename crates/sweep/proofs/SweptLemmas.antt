-- A call that sweeps a run, from its parts.
use Rattle.std.proofs.Common.{◌≡◌, ℕ, ◌+◌, ◌-◌, ◌≤◌, ◌∙◌, replicate, length-append, Bool, false, ◌||◌, ◌&&◌, nat_lt, is_some, ◌⊎◌, List, length, Err, ap, subst, inl, inr, arith}
use Rattle.std.specs.Str.{bytes_eq}
use Rattle.std.proofs.lemmas.Bool.{or_parts}
use Rattle.std.proofs.lemmas.Bool.Decides.{nat_tests}
use Rattle.std.proofs.lemmas.List.{length-replicate, nil_from_length}
use Rattle.thy_outcome.specs.declared.refusal.Refusal.TheVariants.{Device as DeviceRefusal}
use Rattle.thy_outcome.specs.Answering.{Outside, Closes, WordsDue}
use Rattle.thy_outcome.specs.Sources.{ProgramSource}
use Rattle.thy_block.specs.declared.block.Block.{Block}
use Rattle.thy_block.specs.declared.nvm.Shape.{Shape}
use Rattle.thy_block.specs.Device.{Device, fitted, zero_block}
use Rattle.thy_block.specs.Outside.{Stock, Stream}
use Rattle.thy_execute.specs.Planning.{IsPlanOf}
use Rattle.thy_run.specs.declared.plan.Plan.{Plan}
use Rattle.thy_computer.specs.Kind.{KindOf}
use Rattle.thy_base.specs.declared.arguments.words.WordsError.{WordsError}
use Rattle.thy_base.specs.declared.arguments.words.WordsError.TheVariants.{Usage, Word, Value, Memory}
use Rattle.thy_base.specs.Settings.{Job, Order, run, resume, bench, compare, plain, make, ShowsOrMemory, order_of, settings_of}
use Rattle.sweep.specs.declared.asked.Asked.{Asked}
use Rattle.sweep.specs.Concluding.{SaysLine, SaysShort}
use Rattle.sweep.specs.Naming.{IsUncut, IsUncutJob, is_barred, is_cut, is_name, is_refused}
use Rattle.sweep.specs.Swept.{SweepsJob, SweepsPlan}

-- ---- orders

is_none_of : (k : ℕ) → nat_lt 0 k ≡ false → k ≡ 0
is_none_of k e = grind (arith, nat_tests)

uncut_job : (out : List ℕ) (torn : Bool) (job : Job) → is_barred out torn job ≡ false → IsUncutJob job
uncut_job out torn job e =
    let cuts : Bool = nat_lt 0 (length job.config.cuts) in
    let tears : Bool = nat_lt 0 (length job.config.tears) in
    let one = (or_parts (is_name out job.input || is_cut job) (torn && nat_lt 0 job.config.gap) e).0 in
    let all = (or_parts (is_name out job.input) (is_cut job) one).1 in
    let two = (or_parts (cuts || tears) (is_some job.save) all).0 in
    nil_from_length job.config.cuts (is_none_of (length job.config.cuts) (or_parts cuts tears two).0)

pub uncut_of : (out : List ℕ) (torn : Bool) (o : Order) → is_refused out torn o ≡ false → IsUncut o
uncut_of out torn (run file job) e = uncut_job out torn job (or_parts (bytes_eq file out) (is_barred out torn job) e).1
uncut_of out torn (resume image job) e = uncut_job out torn job (or_parts (bytes_eq image out) (is_barred out torn job) e).1
uncut_of out torn (bench n job) e = uncut_job out torn job e
uncut_of out torn (compare file job) e = absurd (cc)
uncut_of out torn (plain file job) e = absurd (cc)
uncut_of out torn (make n name) e = absurd (cc)

pub words_due : (words : List (List ℕ)) (e : WordsError) → ShowsOrMemory order_of (settings_of words) (Err e) → WordsDue words e
words_due words Usage h = h
words_due words (Word field) h = h
words_due words (Value field value) h = h
words_due words (Memory e) h = tt

-- ---- lines

-- a refusal whose line can only be this one
pub says_line : (line : List ℕ) (status : ℕ) (old new : Stream)
    → ((l : List ℕ) × (l ≡ line) × (status ≡ 2) × Closes l old new) ⊎ SaysShort status old new → SaysLine line status old new
says_line line status old new (inl (l, of, refused, closes)) = inl (refused, subst (λ (x : List ℕ). Closes x old new) of closes)
says_line line status old new (inr short) = inr short

-- ---- devices

-- a device that was fitted has the blocks of the shape
pub fitted_size : (shape : Shape) (start : List Block) (n : Device) → length start ≤ shape.blocks → length (fitted shape start n).image ≡ shape.blocks
fitted_size shape start n fits =
    let image = length-append start (replicate (shape.blocks - length start) zero_block)
    ∙ ap (λ k. length start + k) (length-replicate (shape.blocks - length start) zero_block) in
    omega (arith, image, fits)

-- ---- runs

-- the run of a job's plan is the job's
pub SweepsJob-plan : {M : Type 0} (K : KindOf M) (out : List ℕ) (asked : Asked) (source : ProgramSource) (job : Job) (plan : Plan) (blocks : List Block)
    (before after : Outside) (status : ℕ) → IsPlanOf source job before.shelf plan blocks → SweepsPlan K out asked source plan blocks before after status
    → SweepsJob K out asked source job before after status
SweepsJob-plan K out asked source job plan blocks before after status is_plan (inl (e, h)) =
    inl (
      DeviceRefusal e,
      (is_plan.program, record { faults = ap (λ (x : Stock). x.faults) h.shelf; failed = ap (λ (x : Stock). x.failed) h.shelf }, h.failed),
      h.unrun,
    )
SweepsJob-plan K out asked source job plan blocks before after status is_plan (inr h) =
    inr (record { plan = plan; blocks = blocks; is_plan = is_plan; sweeps = h })
