-- Power comes on over a copy of what a cut can leave of a run's device: the boot, and what it leads to.
use Rattle.std.specs.Prelude.{◌≡◌, ◌⊎◌, ℕ, zero, suc, ◌+◌, ◌<◌, ◌≤◌, ◌^◌, Bool, true, false, List, [], Option, Some, None, is_some, Result, IfOk}
use Rattle.thy_block.specs.declared.block.Block.{Block}
use Rattle.thy_block.specs.declared.mark.Mark.{Mark}
use Rattle.thy_block.specs.declared.mix.Mix.{Mix}
use Rattle.thy_block.specs.declared.nvm.NvmError.{NvmError}
use Rattle.thy_block.specs.Device.{Device, Crash}
use Rattle.thy_block.specs.Marks.{mark}
use Rattle.thy_block.specs.declared.parameters.Parameters.{Parameters}
use Rattle.thy_dram.specs.Contents.{Contents, lost}
use Rattle.thy_run.specs.declared.plan.Plan.{Plan}
use Rattle.thy_run.specs.Going.{origin_of}
use Rattle.thy_run.specs.World.{World, TakesStep, cut_off, line, seen, turns_kept}
use Rattle.thy_sweep.specs.declared.lead.Booted.{Booted}
use Rattle.thy_sweep.specs.declared.trial.booting.BootEnd.{BootEnd}
use Rattle.thy_sweep.specs.declared.trial.booting.BootEnd.TheVariants.{On, At as Ended, Refused as Never}
use Rattle.thy_sweep.specs.declared.trial.part.Part.{Part}
use Rattle.thy_sweep.specs.declared.trial.part.Part.TheVariants.{State as Whole, Processor}
use Rattle.thy_sweep.specs.declared.trial.part.Restored.{Restored}
use Rattle.thy_sweep.specs.declared.trial.part.Restored.TheVariants.{State as WholeState, Processor as Cpu}
use Rattle.thy_sweep.specs.declared.trial.trial.Tried.{Tried}
use Rattle.thy_isa.specs.Step.{State, cpu_of, state_of}
use Rattle.thy_computer.specs.declared.error.CoreError.{CoreError}
use Rattle.thy_computer.specs.declared.did.Did.{Did}
use Rattle.thy_computer.specs.declared.did.Did.TheVariants.{Loaded, Refused, Restarted}
use Rattle.thy_computer.specs.Booting.{view_of_image}
use Rattle.thy_computer.specs.Kind.{KindOf, IsDramOf}
use Rattle.thy_computer.specs.Origin.{Origin, at}
use Rattle.thy_computer.specs.Safe.{ceiling}
use Rattle.thy_computer.specs.Views.{is_between}
use Rattle.thy_computer.specs.declared.view.View.{View}

-- a DRAM of a geometry after a loss of power, whose bytes were drawn by this pick
abbrev pub IsLostDram : Parameters → ℕ → Contents → Type 0
IsLostDram p pick d = (before : Contents) × IsDramOf p before × (d ≡ lost before pick)

-- Power was cut, and comes on again over a device that holds what the cut may leave. This is the world after a cut of the run
-- (`IsCutOff`), but that the image lies on a copy of its device: what a device keeps of earlier cuts the copy need not have.
pub record IsCopied {M : Type 0} (K : KindOf M) (o : Origin) (pick : ℕ) (w copy : World M) : Type 0 where
  pub crash : Crash w.device copy.device.image
  pub up : copy.device.down ≡ false
  pub empty : copy.device.queue ≡ []
  pub powered : K.powered o.geometry copy.machine
  pub dram : IsLostDram o.geometry pick (K.dram copy.machine)
  pub kept : copy.turns ≡ turns_kept o w.turns (K.decode o.geometry ceiling copy.device.image)
  pub at_moment : K.is_at (line o copy) w.cycles copy.machine copy.device
  pub found : seen K o copy ≡ view_of_image o.start.count (K.decode o.geometry ceiling copy.device.image)
  pub copy_is : copy ≡ cut_off w copy.machine copy.device copy.turns

-- a device holds what a power cut may leave of a run's device here
pub record CanCopy {M : Type 0} (K : KindOf M) (o : Origin) (w : World M) (n : Device) : Type 0 where
  pub at_moment : K.is_at (line o w) w.cycles w.machine w.device
  pub crash : Crash w.device n.image
  pub up : n.down ≡ false
  pub empty : n.queue ≡ []

-- the world in which power comes on over the copy
abbrev pub copied_to : {M : Type 0} → KindOf M → Origin → World M → M → Device → World M
copied_to K o w m n = cut_off w m n (turns_kept o w.turns (K.decode o.geometry ceiling n.image))

-- power that comes on over such a copy leads to a moment of the same run, whose view is what the image means
abbrev pub GoesOnOverCopy : {M : Type 0} → KindOf M → Type 0
GoesOnOverCopy {M = M} K =
    (o : Origin) (pick : ℕ) (w : World M) (m : M) (n : Device)
    → CanCopy K o w n → K.powered o.geometry m → IsLostDram o.geometry pick (K.dram m) → IsCopied K o pick w (copied_to K o w m n)

-- what a boot led to, by what its last cycle did: a checkpoint that it restored, or none if it loaded the start
abbrev pub LeadsTo : Did → Option Mark → Type 0
LeadsTo Loaded m = m ≡ None
LeadsTo (Restarted epoch count) m = m ≡ Some (mark epoch count)
LeadsTo did m = ⊥

-- a boot goes on after a cycle that did this: it is not over, and its image is not refused
abbrev pub goes_on : Did → Bool
goes_on Loaded = false
goes_on (Restarted epoch count) = false
goes_on (Refused bad) = false
goes_on did = true

-- a cycle refuses the boot's image
abbrev pub refuses : Did → Bool
refuses (Refused bad) = true
refuses did = false

-- a boot is over after a cycle that did this, or is not
abbrev pub IsEndOf : Did → BootEnd → Type 0
IsEndOf did On = goes_on did ≡ true
IsEndOf did (Ended m) = LeadsTo did m
IsEndOf did Never = refuses did ≡ true

-- k cycles of a boot that goes on
abbrev pub BootsOn : {M : Type 0} → KindOf M → Origin → ℕ → World M → World M → Type 0
BootsOn K o zero w last = last ≡ w
BootsOn {M = M} K o (suc k) w last =
    (before : World M) × (step : TakesStep K o before last) × BootsOn K o k w before × (goes_on step.r.did ≡ true)

-- a boot that is over, with its cycles, of which the last led to this
pub record IsBooted {M : Type 0} (K : KindOf M) (o : Origin) (w last : World M) (b : Booted) : Type 0 where
  pub earlier : ℕ
  pub before : World M
  pub cycles : b.cycles ≡ earlier + 1
  pub boots : BootsOn K o earlier w before
  pub step : TakesStep K o before last
  pub leads : LeadsTo step.r.did b.mark

-- after this number of cycles of a boot, the next one found an image that it refuses
pub record IsRefusedAfter {M : Type 0} (K : KindOf M) (o : Origin) (cycles : ℕ) (w last : World M) : Type 0 where
  pub before : World M
  pub boots : BootsOn K o cycles w before
  pub step : TakesStep K o before last
  pub refused : refuses step.r.did ≡ true

-- a boot that went on for a number of cycles, and no longer, or that has found an image that it refuses before
pub record IsUnended {M : Type 0} (K : KindOf M) (o : Origin) (w last : World M) (most : ℕ) : Type 0 where
  pub cycles : ℕ
  pub why : ((cycles ≡ most) × BootsOn K o cycles w last) ⊎ ((cycles < most) × IsRefusedAfter K o cycles w last)

-- ---- the call

-- a world has this machine, this device and this schedule
pub record IsOf {M : Type 0} (w : World M) (m : M) (n : Device) (schedule : Mix) : Type 0 where
  pub machine : w.machine ≡ m
  pub device : w.device ≡ n
  pub mix : w.mix ≡ schedule

-- a run has cycles left for a boot
abbrev pub FewBefore : {M : Type 0} → World M → ℕ → Type 0
FewBefore w most = w.cycles + most ≤ 2 ^ 62

-- power has come on over a copy
abbrev pub CanBoot : {M : Type 0} → KindOf M → Plan → M → Device → Mix → ℕ → Type 0
CanBoot {M = M} K plan m n mix most =
    (w : World M) × (copy : World M) × (pick : ℕ) × IsCopied K (origin_of plan) pick w copy × IsOf copy m n mix × FewBefore w most

-- the boot is over within a number of cycles, or it does not end
abbrev pub BootsWithin : {M : Type 0} → KindOf M → Origin → World M → M → Device → ℕ → Option Booted → Type 0
BootsWithin {M = M} K o copy next new most (Some b) =
    (last : World M) × IsBooted K o copy last b × (b.cycles ≤ most) × (last.machine ≡ next) × (last.device ≡ new)
BootsWithin {M = M} K o copy next new most None =
    (last : World M) × IsUnended K o copy last most × (last.machine ≡ next) × (last.device ≡ new)

-- what the boot of a machine comes to, from each world after a cut that has this machine, device and schedule
abbrev pub BootsFrom : {M : Type 0} → KindOf M → Plan → M → M → Device → Device → Mix → ℕ → Result (Option Booted) NvmError → Type 0
BootsFrom {M = M} K plan m next n new mix most result =
    (w copy : World M) (pick : ℕ) → IsCopied K (origin_of plan) pick w copy → IsOf copy m n mix → FewBefore w most
    → IfOk result (BootsWithin K (origin_of plan) copy next new most)

-- ---- an image that is tried

-- this was read of a state, as much of it as was asked for
abbrev pub IsReadOf : State → Part → Restored → Type 0
IsReadOf s Whole (WholeState read) = state_of read ≡ s
IsReadOf s Processor (Cpu read) = read ≡ cpu_of s
IsReadOf s part read = ⊥

-- it is restored: what was read is of the plain machine's state at the checkpoint's count
abbrev pub IsRestored : Origin → Part → Option Mark → Option Restored → Type 0
IsRestored o part None read = read ≡ None
IsRestored o part (Some m) None = ⊥
IsRestored o part (Some m) (Some read) = IsReadOf (at o m.count) part read

-- what a boot that may be over restored
abbrev pub Restores : Origin → Part → Option Booted → Option Restored → Type 0
Restores o part None read = read ≡ None
Restores o part (Some b) read = IsRestored o part b.mark read

-- a boot restored a checkpoint
abbrev pub has_restored : Option Booted → Bool
has_restored None = false
has_restored (Some b) = is_some b.mark

-- a machine is where a boot that restored this checkpoint left it
abbrev pub IsLeftAt : View → Option Mark → Type 0
IsLeftAt v None = Unit {0}
IsLeftAt v (Some m) = (is_between v ≡ true) × (v.count ≡ m.count)

abbrev pub IsLeftBy : View → Option Booted → Type 0
IsLeftBy v None = Unit {0}
IsLeftBy v (Some b) = IsLeftAt v b.mark

-- at a moment between two instructions, what is read is of the plain machine's state
abbrev pub ReadsAs : {M : Type 0} → KindOf M → M → Device → Part → Result Restored CoreError → Type 0
ReadsAs K m n part result =
    (o : Origin) (k : ℕ) → K.is_at o k m n → is_between (K.view o m n) ≡ true → IfOk result (IsReadOf (at o (K.view o m n).count) part)

-- where a boot left the machine, what is read is of the state that was restored
abbrev pub ReadsRestored : {M : Type 0} → KindOf M → M → Device → Part → Option Booted → Result (Option Restored) CoreError → Type 0
ReadsRestored K m n part booted result =
    (o : Origin) (k : ℕ) → K.is_at o k m n → IsLeftBy (K.view o m n) booted → IfOk result (Restores o part booted)

-- a boot that may be over: within a number of cycles, or it does not end
abbrev pub BootsTo : {M : Type 0} → KindOf M → Origin → World M → World M → ℕ → Option Booted → Type 0
BootsTo K o copy last most (Some b) = IsBooted K o copy last b × (b.cycles ≤ most)
BootsTo K o copy last most None = IsUnended K o copy last most

-- an image was tried: power was cut and came on over it, and the machine booted; then as much was read as was asked for
pub record IsTried {M : Type 0} (K : KindOf M) (o : Origin) (pick : ℕ) (part : Part) (g : List Block) (w : World M) (most : ℕ)
    (booted : Option Booted) (state : Option Restored) : Type 0 where
  pub copy : World M
  pub copied : IsCopied K o pick w copy
  pub image : copy.device.image ≡ g
  pub last : World M
  pub boots : BootsTo K o copy last most booted
  -- a boot that restored a checkpoint left the machine at its count, between two instructions
  pub left : IsLeftBy (seen K o last) booted
  pub restores : Restores (line o last) part booted state

-- an image of a run can be tried: so few cycles are done, and this is the schedule
abbrev pub CanTry : {M : Type 0} → KindOf M → Plan → Device → Mix → ℕ → Type 0
CanTry {M = M} K plan n mix most = (w : World M) × CanCopy K (origin_of plan) w n × (w.mix ≡ mix) × FewBefore w most

-- from each such moment of a run
abbrev pub Tries : {M : Type 0} → KindOf M → Plan → ℕ → Part → Device → Mix → ℕ → Result Tried CoreError → Type 0
Tries {M = M} K plan pick part n mix most result =
    (w : World M) → CanCopy K (origin_of plan) w n → w.mix ≡ mix → FewBefore w most
    → IfOk result (λ t. IsTried K (origin_of plan) pick part n.image w most t.booted t.state)
