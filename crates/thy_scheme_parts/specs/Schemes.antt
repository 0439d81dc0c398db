-- What schemes state of themselves, each by its name: members of the laws of schemes, and what holds of a scheme whose
-- hart waits for each checkpoint.
use Rattle.std.specs.Prelude.{◌≡◌, ℕ, ◌<◌, true, false, [], length, None}
use Rattle.thy_block.specs.declared.parameters.Parameters.{Parameters}
use Rattle.thy_block.specs.declared.nvm.Shape.{Shape}
use Rattle.thy_block.specs.Device.{Device, fitted}
use Rattle.thy_layout.specs.Decoded.{Nothing}
use Rattle.thy_computer.specs.declared.view.Phase.TheVariants.{Run}
use Rattle.thy_computer.specs.Origin.{Origin, IsOrigin}
use Rattle.thy_computer.specs.Safe.{ceiling}
use Rattle.thy_scheme.specs.CheckpointMarks.{CheckpointMarks}
use Rattle.thy_scheme.specs.Scheme.{SchemeOf, Stands, IsBooting}
use Rattle.thy_scheme.specs.Laws.{IsFound, IsNew, BootsFound, BootHolds, RunHolds, StaysSound, is_free_to_run}
use Rattle.thy_scheme.specs.Machine.{Machine, is_barred, shortage_of}
use Rattle.thy_scheme.specs.Sound.{Sound}

-- ---- as a store of blocks

-- blocks are held only while the NVM is up
abbrev pub HeldIsUp : {S : Type 0} → SchemeOf S → Type 0
HeldIsUp {S} K = (s : S) (n : Device) (b : ℕ) → b < length (K.holding s n).blocks → n.down ≡ false

-- blocks can be stored only while the NVM is up
abbrev pub ReadyIsUp : {S : Type 0} → SchemeOf S → Type 0
ReadyIsUp {S} K = (s : S) (n : Device) → (K.holding s n).ready ≡ true → n.down ≡ false

-- ---- after the boot

-- what stays keeps the checkpoints, whether or not a call failed
abbrev pub StaysKeep : {S : Type 0} → SchemeOf S → Type 0
StaysKeep {S} K =
    (o : Origin) (k : CheckpointMarks) (s : S) (n : Device) (t : S) (new : Device)
    → Stands K o k s n → is_free_to_run K s ≡ true → K.stays s n t new → StaysSound K o k s t new

-- what holds after the boot
abbrev pub RunIsSound : {S : Type 0} → SchemeOf S → Type 0
RunIsSound {S} K = (o : Origin) (k : CheckpointMarks) (s : S) (n : Device) → Stands K o k s n → RunHolds K o k s n

-- ---- in the boot

-- nothing is queued in the DRAM of one whose power has just come on, and no more is left to do than there may be
abbrev pub PowerIsNew : {S : Type 0} → SchemeOf S → Type 0
PowerIsNew {S} K = (p : Parameters) (s : S) → K.powered p s → IsNew K p s

-- zeros are no checkpoint
abbrev pub ZerosAreNothing : {S : Type 0} → SchemeOf S → Type 0
ZerosAreNothing K =
    (p : Parameters) (shape : Shape) (n : Device)
    → shape.blocks ≡ K.blocks p → K.decode p ceiling (fitted shape [] n).image ≡ Nothing

-- a cut in a boot leaves what the boot shows, and drains of the NVM change nothing of it
abbrev pub BootIsSound : {S : Type 0} → SchemeOf S → Type 0
BootIsSound {S} K = (o : Origin) (s : S) (n : Device) → IsBooting K o s n → BootHolds K o s n

-- a scheme whose power has just come on boots what the image means
abbrev pub PowerFinds : {S : Type 0} → SchemeOf S → Type 0
PowerFinds {S} K =
    (o : Origin) (s : S) (n : Device)
    → IsOrigin o → K.powered o.geometry s → IsFound K o n → BootsFound K o s n

-- ---- if the hart waits for each checkpoint, and there is one form of images

-- no boot of a run migrates
abbrev pub NeverMigrates : {S : Type 0} → SchemeOf S → Type 0
NeverMigrates {S} K = (o : Origin) (s : S) (n : Device) → K.boots o s n → K.migrates s ≡ false

-- the hart is barred exactly while a checkpoint is under way
abbrev pub HartIsBarred : {S : Type 0} → SchemeOf S → Type 0
HartIsBarred {S} K = (m : Machine S) → is_barred K m ≡ K.under_way m.scheme

-- A machine whose epoch goes on and has retired no instruction is not short of entries, once nothing is under way. So
-- no epoch is exhausted before its first instruction.
abbrev pub FirstHasRoom : {S : Type 0} → SchemeOf S → Type 0
FirstHasRoom {S} K =
    (o : Origin) (cycles : ℕ) (m : Machine S) (n : Device)
    → Sound K o cycles m n → m.phase ≡ Run
    → m.hart.epoch.over ≡ None → m.hart.epoch.retired ≡ 0
    → K.under_way m.scheme ≡ false → shortage_of K m ≡ None
