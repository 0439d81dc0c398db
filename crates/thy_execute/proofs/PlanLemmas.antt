-- What the top call makes of a job.
use Rattle.std.proofs.Common.{◌≡◌, ℕ, ◌+◌, ◌-◌, Bool, true, false, Option, Some, None, List, [], ◌++◌, length, replicate, refl, sym, ◌∙◌, ap, subst, inr, arith, ◌≤◌}
use Rattle.std.proofs.lemmas.List.{length-append, length-replicate}
use Rattle.thy_base.specs.declared.config.Config.{Config}
use Rattle.thy_block.specs.declared.parameters.Parameters.{Parameters}
use Rattle.thy_block.specs.declared.nvm.FitError.{FitError}
use Rattle.thy_block.specs.declared.nvm.Shape.{Shape}
use Rattle.thy_base.specs.Config.{fault_of, rows_of, IsRising, parameters_of}
use Rattle.thy_block.specs.declared.block.Block.{Block}
use Rattle.thy_block.specs.declared.outside.PutError.{PutError}
use Rattle.thy_block.specs.Device.{Device, HasFailedToFit, fitted, zero_block}
use Rattle.thy_block.specs.Outside.{Stock, Stream}
use Rattle.thy_block.specs.Bytes.{bytes_of}
use Rattle.thy_outcome.specs.Meaning.{decode_of, blocks_of_image}
use Rattle.thy_isa.specs.Step.{state_of}
use Rattle.thy_layout.specs.declared.start.Start.{Start}
use Rattle.thy_base.specs.Settings.{Job}
use Rattle.thy_computer.specs.Booting.{found_first}
use Rattle.thy_computer.specs.Kind.{KindOf, IsLawful, IsFittedFor}
use Rattle.thy_block.specs.declared.mark.Mark.{Mark}
use Rattle.thy_base.proofs.ConfigLemmas.{AreIn-none, IsRising-rows}
use Rattle.thy_computer.specs.Origin.{Origin, IsOrigin}
use Rattle.thy_computer.specs.Safe.{ceiling}
use Rattle.thy_run.specs.Laws.{Promise, marks_of}
use Rattle.thy_run.specs.World.{Given}
use Rattle.thy_run.proofs.PromiseLaws.{Promise-stopped}
use Rattle.thy_run.proofs.WorldLaws.{IsSafe-cut}
use Rattle.thy_text.specs.Event.{Event}
use Rattle.thy_text.specs.History.{all_of, of_run}
use Rattle.thy_outcome.specs.declared.answer.Answer.{Answer}
use Rattle.thy_outcome.specs.declared.answer.Ran.{Ran}
use Rattle.thy_run.specs.declared.ending.Ending.{Ending}
use Rattle.thy_run.specs.declared.plan.Plan.{Plan}
use Rattle.thy_outcome.specs.declared.refusal.Refusal.{Refusal}
use Rattle.thy_outcome.specs.declared.refusal.Refusal.TheVariants.{Device as DeviceRefusal}
use Rattle.thy_outcome.specs.Answering.{Outside, outside, RunDue, given_for, shape_for, IsRunFrom, IsRunOf, IsSafeFor, ClosesAs}
use Rattle.thy_files.specs.Beginnings.{Begins, begun_with, Fits, FitsKept}
use Rattle.thy_execute.specs.Planning.{CanRun, HasRoom, IsPlanOf, IsUnfitted, RunOverSeen, shape_of}
use Rattle.thy_outcome.specs.Kept.{answer_of}
use Rattle.thy_files.specs.Restoring.{ReadsFiles}
use Rattle.thy_outcome.specs.Saving.{SavesUnder, save_pick, saves}
use Rattle.thy_outcome.specs.Sources.{ProgramSource, image, Beginning, IsProgram, origin_for, ProgramDue}
use Rattle.thy_files.specs.declared.restoring.Beginning.{Beginning as BeginningValue}
use Rattle.thy_run.specs.Going.{origin_of, given_of, IsPlanned}
use Rattle.thy_run.specs.Rounds.{RunEnds}
use Rattle.thy_run.specs.Seeing.{RunEndsSeen}
use Rattle.thy_run.specs.Watching.{Taken}
use Rattle.thy_outcome.specs.Watching.{HasSeenFrom, HasSeenOf, RunSeen}

-- ---- configurations

-- the cuts of a configuration in range rise
pub rising_of : (c : Config) → fault_of c ≡ None → IsRising 0 c.cuts
rising_of c none = IsRising-rows c (AreIn-none (rows_of c) none)

-- ---- results

-- a device that begins with an image, or with nothing, is fitted for what that means
fitted_by : {M : Type 0} (K : KindOf M) (laws : IsLawful K) (o : Origin) (reads : ReadsFiles K o.geometry)
    → (blocks : List Block) (shape : Shape) (n : Device) (kept : Option Mark) → o.kept ≡ kept
    → FitsKept o.geometry (record { start = o.start; kept = o.kept; blocks = blocks }) kept → shape.blocks ≡ K.blocks o.geometry
    → IsFittedFor K o shape blocks n
fitted_by K laws o reads blocks shape n None is none many =
    subst (λ bs. IsFittedFor K o shape bs n) (sym none) (record {
      blocks = many;
      fits = omega arith;
      long = record { each = λ i l. absurd (omega arith) };
      found = laws.finds_nothing o.geometry shape n many ∙ ap (found_first o) (sym is);
    })
fitted_by K laws o reads blocks shape n (Some m) is of many =
    let few = of.few in
    let size : shape.blocks ≡ blocks_of_image o.geometry = many ∙ reads.blocks in
    record {
      blocks = many;
      fits = omega (arith, size);
      long = of.long;
      found = reads.decode ceiling (fitted shape blocks n).image
          ∙ ap (λ k. decode_of o.geometry ceiling (blocks ++ replicate (k - length blocks) zero_block)) size
          ∙ of.decodes
          ∙ ap (found_first o) (sym is);
    }

pub fitted_for_plan : {M : Type 0} (K : KindOf M) (laws : IsLawful K) (plan : Plan) (reads : ReadsFiles K plan.geometry)
    → (blocks : List Block) (shape : Shape) (n : Device) → CanRun plan blocks → shape.blocks ≡ K.blocks plan.geometry
    → IsFittedFor K (origin_of plan) shape blocks n
fitted_for_plan K laws plan reads blocks shape n can many = fitted_by K laws (origin_of plan) reads blocks shape n plan.start.kept refl can.fits many

abbrev shape_at : ℕ → ℕ → ℕ → Shape
shape_at blocks queue cuts = record { blocks = blocks; queue = queue; cuts = cuts }

abbrev given_at : Config → Bool → Device → Given
given_at c digest d = record { config = c; digest = digest; fitted = d }

-- the numbers of a job's plan
planned_numbers : (source : ProgramSource) (job : Job) (stock : Stock) (plan : Plan) (blocks : List Block)
    → IsPlanOf source job stock plan blocks → plan.geometry ≡ parameters_of job.config
planned_numbers source job stock plan blocks p = ap (λ (o : Origin). o.geometry) p.origin

module _ {M : Type 0} (K : KindOf M) where
  -- the device of the plan's machine has the shape that the job's has
  pub shape_planned : (source : ProgramSource) (job : Job) (stock : Stock) (plan : Plan) (blocks : List Block)
      → IsPlanOf source job stock plan blocks → shape_of K plan ≡ shape_for K job.config
  shape_planned source job stock plan blocks p =
      let numbers : plan.geometry ≡ parameters_of job.config = planned_numbers source job stock plan blocks p in
      ap (λ (x : Parameters). shape_at (K.blocks x) x.nvmq (length plan.config.cuts)) numbers
      ∙ ap (λ (c : Config). shape_at (K.blocks (parameters_of job.config)) job.config.nvmq (length c.cuts)) p.config

  -- a run of the plan is given what the job's run is
  planned_given : (source : ProgramSource) (job : Job) (stock : Stock) (plan : Plan) (blocks : List Block) (d n : Device)
      (p : IsPlanOf source job stock plan blocks)
      → d ≡ fitted (shape_for K job.config) blocks n → given_of plan d ≡ given_for K job p.program.begins n
  planned_given source job stock plan blocks d n p fit =
      let config : plan.config ≡ job.config = p.config in
      let digest : plan.digest ≡ job.digest = p.digest in
      let device : d ≡ fitted (shape_for K job.config) p.program.begins.blocks n = fit ∙ ap (λ bs. fitted (shape_for K job.config) bs n) p.over in
      ap (λ (c : Config). given_at c plan.digest d) config ∙ ap (λ b. given_at job.config b d) digest ∙ ap (given_at job.config job.digest) device

  -- what a run of a plan keeps
  pub planned_promise : (laws : IsLawful K) (plan : Plan) (d stood : Device) (e : Ending) (terminal shown report read : Stream)
      → IsPlanned plan → RunEnds K plan d stood e terminal shown report read
      → Promise K (origin_of plan) (given_of plan d) e.cycles e.events stood
  planned_promise laws plan d stood e terminal shown report read planned ends =
      Promise-stopped K laws (origin_of plan) (given_of plan d) e.cycles e.events stood e.stop planned.origin planned.rising ends.stopped

  -- a save leaves a device that is as safe
  safe_saved : (o : Origin) (events : List Event) (name : Option (List ℕ)) (due : Bool) (c : Config) (n m : Device) (old new : Stock)
      (why : Option PutError)
      → SavesUnder name due c n m old new why → IsSafeFor K o events n → IsSafeFor K o events m
  safe_saved o events (Some name) true c n m old new why h safe = IsSafe-cut K o (marks_of o events) (save_pick c) n m h.0 safe
  safe_saved o events (Some name) false c n m old new why h safe = subst (IsSafeFor K o events) (sym h.0) safe
  safe_saved o events None true c n m old new why h safe = subst (IsSafeFor K o events) (sym h.0) safe
  safe_saved o events None false c n m old new why h safe = subst (IsSafeFor K o events) (sym h.0) safe

-- a run that was begun keeps its promise
pub IsRunOf-ran : {M O : Type 0} (K : KindOf M) (laws : IsLawful K) (has_seen : O → List Taken → Type 0)
    → (source : ProgramSource) (job : Job) (save : Option (List ℕ)) (before after : Outside) (plan : Plan) (blocks : List Block)
    (d stood : Device) (e : Ending) (r : Ran) (reported : Stream) (why : Option PutError) (observer : O)
    → IsPlanned plan → (p : IsPlanOf source job before.shelf plan blocks) → job.save ≡ save
    → d ≡ fitted (shape_for K job.config) blocks before.device
    → RunEndsSeen K has_seen plan d stood e before.terminal after.terminal before.report reported observer
    → SavesUnder save (saves e.stop) plan.config stood after.device before.shelf after.shelf why
    → ClosesAs source plan.geometry.limit save e why r.status reported after.report
    → r.stop ≡ e.stop → r.events ≡ e.events → r.cycles ≡ e.cycles
    → (h : IsRunOf K source job before p.program after (answer_of r)) × (h.ending.stop ≡ r.stop)
    × HasSeenOf K has_seen source job before p.program after (answer_of r) h observer
IsRunOf-ran K laws has_seen source job save before after plan blocks d stood e r reported why observer planned p names fit ends saved closes
    stops events cycles =
    let a : Answer = answer_of r in
    let o : Origin = origin_for job p.program.begins p.program.input in
    let given : Given = given_for K job p.program.begins before.device in
    let promise = planned_promise K laws plan d stood e before.terminal after.terminal before.report reported planned ends.0 in
    let put : SavesUnder job.save (saves e.stop) job.config stood after.device before.shelf after.shelf why =
    subst (λ c. SavesUnder job.save (saves e.stop) c stood after.device before.shelf after.shelf why) p.config
    (subst (λ n. SavesUnder n (saves e.stop) plan.config stood after.device before.shelf after.shelf why) (sym names) saved) in
    let run : IsRunFrom K (origin_of plan) (given_of plan d) source job before after a = record {
      ending = e;
      stood = stood;
      reported = reported;
      ran = ends.0;
      why = why;
      saved = put;
      closes =
          subst (λ l. ClosesAs source l job.save e why r.status reported after.report)
          (ap (λ (x : Parameters). x.limit) (planned_numbers source job before.shelf plan blocks p))
          (subst (λ n. ClosesAs source plan.geometry.limit n e why r.status reported after.report) (sym names) closes);
      events = ap of_run events;
      cycles = cycles;
      promise =
          subst (λ k. Promise K (origin_of plan) (given_of plan d) k (all_of a.events) stood) (sym cycles)
          (subst (λ vs. Promise K (origin_of plan) (given_of plan d) e.cycles vs stood) (sym events) promise);
      safe = safe_saved K (origin_of plan) (all_of a.events) job.save (saves e.stop) job.config stood after.device before.shelf after.shelf why put
          (subst (λ vs. IsSafeFor K (origin_of plan) vs stood) (sym events) promise.safe_at_return);
    } in
    let Run : Origin → Given → Type 0 = λ x y. (h : IsRunFrom K x y source job before after a) × (h.ending.stop ≡ r.stop)
    × HasSeenFrom K has_seen x y source job before after a h observer in
    subst (Run o) (planned_given K source job before.shelf plan blocks d before.device p fit)
    (subst (λ x. Run x (given_of plan d)) p.origin (run, sym stops, ends.1))

-- if there is no program, a job is not run
pub RunDue-program : (source : ProgramSource) (job : Job) (before after : Outside) (r : Refusal)
    → ProgramDue source job before.shelf after.shelf r → after.device ≡ before.device → RunDue source job before after r
RunDue-program source job before after (DeviceRefusal e) due device = absurd due
RunDue-program source job before after r due device = (due, device)

-- ---- plans

abbrev pub plan_with : Config → Parameters → Start → Bool → Plan
plan_with c p start digest = record { config = c; geometry = p; start = start; digest = digest }

-- what a plan is that is made of a beginning
pub record IsBegun (source : ProgramSource) (job : Job) (stock : Stock) (p : Plan) (blocks : List Block) : Type 0 where
  pub is_plan : IsPlanOf source job stock p blocks
  pub can : CanRun p blocks

pub IsBegun-begins : (source : ProgramSource) (job : Job) (stock : Stock) (b : BeginningValue) (numbers : Parameters)
    → fault_of job.config ≡ None → numbers ≡ parameters_of job.config → Begins source job stock b
    → IsBegun source job stock (plan_with job.config numbers b.start job.digest) b.blocks.items
IsBegun-begins source job stock b numbers none same h =
    let plan : Plan = plan_with job.config numbers b.start job.digest in
    let input : List ℕ = bytes_of b.start.input in
    let about : origin_of plan ≡ origin_for job h.program.begins h.program.input =
    ap (λ q. record { geometry = q; start = state_of b.start.state; input = input; kept = b.start.kept; turns = [] }) same
    ∙ ap (λ x. origin_for job x input) h.begins
    ∙ ap (origin_for job h.program.begins) h.input in
    record {
      is_plan = record {
        config = refl;
        digest = refl;
        program = h.program;
        origin = about;
        over = ap (λ (x : Beginning). x.blocks) h.begins;
      };
      can = record {
        planned = record { origin = subst IsOrigin (sym about) h.origin; rising = rising_of job.config none };
        fits = subst (λ q. Fits q (begun_with b.start b.blocks.items)) (sym same) (subst (Fits (parameters_of job.config)) (sym h.begins) h.fits);
      };
    }

-- after a run the device has room for a save
pub HasRoom-ran : {M : Type 0} (K : KindOf M) (laws : IsLawful K)
    → (plan : Plan) (blocks : List Block) (shape : Shape) (n d stood : Device) (e : Ending) (terminal shown report read : Stream)
    → IsPlanned plan → d ≡ fitted shape blocks n → length blocks ≤ shape.blocks → shape.cuts ≡ length plan.config.cuts
    → RunEnds K plan d stood e terminal shown report read
    → HasRoom stood e.events shape.blocks
HasRoom-ran K laws plan blocks shape n d stood e terminal shown report read planned fit fits cuts ends =
    let room = (planned_promise K laws plan d stood e terminal shown report read planned ends).room in
    let left : d.left_room ≡ shape.cuts + 1 = ap (λ (x : Device). x.left_room) fit in
    let many : length d.image ≡ shape.blocks =
    ap (λ (x : Device). length x.image) fit ∙ (let l : length (blocks ++ replicate (shape.blocks - length blocks) zero_block) ≡ shape.blocks =
    omega (arith, fits, length-append blocks (replicate (shape.blocks - length blocks) zero_block), length-replicate (shape.blocks - length blocks) zero_block) in l) in
    record {
      room = omega (arith, room.few, room.room, left, cuts);
      cuts = room.kept;
      whole = room.blocks ∙ many;
    }

-- a run from a shelf that is the one before is one from that
pub RunSeen-same : {M O : Type 0} (K : KindOf M) (has_seen : O → List Taken → Type 0) (source : ProgramSource) (job : Job)
    (old middle new : Stock) (n m : Device) (t u r s : Stream) (a : Answer) (observer : O) → middle ≡ old
    → RunSeen K has_seen source job (outside middle n t r) (outside new m u s) a observer
    → RunSeen K has_seen source job (outside old n t r) (outside new m u s) a observer
RunSeen-same K has_seen source job old middle new n m t u r s a observer same h =
    subst (λ x. RunSeen K has_seen source job (outside x n t r) (outside new m u s) a observer) same h

-- a run of a plan is one of its job
pub RunSeen-over : {M O : Type 0} (K : KindOf M) (has_seen : O → List Taken → Type 0) (source : ProgramSource) (job : Job)
    (before : Outside) (program : IsProgram source job before.shelf) (after : Outside) (ran : Ran) (a : Answer) (observer : O)
    → a ≡ answer_of ran
    → RunOverSeen K has_seen source job before program after ran observer → RunSeen K has_seen source job before after a observer
RunSeen-over K has_seen source job before program after ran a observer same (r, stops, has) =
    subst (λ x. RunSeen K has_seen source job before after x observer) (sym same) (inr (record { program = program; ran = r }), has)

-- a job whose device was not fitted is not run
pub RunDue-unfitted : (source : ProgramSource) (job : Job) (e : FitError) (before middle after : Outside)
    → IsProgram source job before.shelf → IsUnfitted e before middle → after.shelf ≡ middle.shelf → after.device ≡ middle.device
    → RunDue source job before after (DeviceRefusal e)
RunDue-unfitted source job e before middle after program h shelf device =
    let same : after.shelf ≡ before.shelf = shelf ∙ h.shelf in (
      program,
      record { faults = ap (λ (x : Stock). x.faults) same; failed = ap (λ (x : Stock). x.failed) same },
      subst (HasFailedToFit e before.device) (sym device) h.failed,
    )
