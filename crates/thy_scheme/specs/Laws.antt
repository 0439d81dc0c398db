-- What holds of every scheme.
use Rattle.std.specs.Prelude.{◌≡◌, ℕ, ◌<◌, ◌≤◌, ◌||◌, not, true, false, is_some, Bool, List, [], length, Some, None}
use Rattle.thy_block.specs.declared.parameters.Parameters.{Parameters}
use Rattle.thy_block.specs.declared.mark.Mark.{Mark}
use Rattle.thy_block.specs.declared.nvm.Shape.{Shape}
use Rattle.thy_block.specs.Device.{Device, CountAlike, Wear, counting, drained, fitted}
use Rattle.thy_block.specs.Geometry.{memory_blocks}
use Rattle.thy_block.specs.Places.{dram_blocks}
use Rattle.thy_dram.specs.Contents.{fresh}
use Rattle.thy_isa.specs.declared.state.CpuState.{CpuState}
use Rattle.thy_isa.specs.OnBlocks.{state_from}
use Rattle.thy_isa.specs.Step.{State}
use Rattle.thy_layout.specs.Decoded.{Decoded, Nothing, Refused, At}
use Rattle.thy_computer.specs.declared.boot_step.BootStep.{BootStep}
use Rattle.thy_computer.specs.Booting.{view_of_image}
use Rattle.thy_computer.specs.Origin.{Origin, IsOrigin, at}
use Rattle.thy_computer.specs.Safe.{ceiling, Safe}
use Rattle.thy_computer.specs.WithTurns.{with_turns}
use Rattle.thy_computer.specs.Views.{doubt_of}
use Rattle.thy_scheme.specs.CheckpointMarks.{CheckpointMarks, doubt_in}
use Rattle.thy_scheme.specs.Scheme.{SchemeOf, Stands, IsBooting, StaysOf}
use Rattle.thy_scheme.specs.Calls.{owed_in, Keeps, OwesNoMore}
use Rattle.thy_scheme.specs.Boots.{IsBootView, BootStays}

-- an image is the run's own: it means nothing, if the run began without a checkpoint, or a state of the plain machine
abbrev pub IsOwn : Origin → Decoded → Type 0
IsOwn o Nothing = o.kept ≡ None
IsOwn o (Refused bad) = ⊥
IsOwn o (At epoch state) = state ≡ at o state.count

-- an NVM that is up, of its size and with nothing queued, whose image is the run's own
pub record IsFound {S : Type 0} (K : SchemeOf S) (o : Origin) (n : Device) : Type 0 where
  pub up : n.down ≡ false
  pub sized : length n.image ≡ K.blocks o.geometry
  pub settled : n.queue ≡ []
  pub own : IsOwn o (K.decode o.geometry ceiling n.image)

-- a scheme whose power has just come on
pub record IsNew {S : Type 0} (K : SchemeOf S) (p : Parameters) (s : S) : Type 0 where
  pub queued : K.queued s ≡ 0
  pub boot_left : K.boot_left s ≤ K.most_booting p

-- over an NVM as it was found, a scheme boots what the image means
pub record BootsFound {S : Type 0} (K : SchemeOf S) (o : Origin) (s : S) (n : Device) : Type 0 where
  pub boots : K.boots o s n
  pub view : K.boot_view o s n ≡ view_of_image o.start.count (K.decode o.geometry ceiling n.image)

-- what holds in the boot: a cut leaves what the boot shows, a drain of the NVM does not change that, and if a
-- checkpoint was found nothing is queued there, unless the boot migrates
pub record BootHolds {S : Type 0} (K : SchemeOf S) (o : Origin) (s : S) (n : Device) : Type 0 where
  pub of_geometry : K.is_of o.geometry s
  pub sized : length n.image ≡ K.blocks o.geometry
  pub safe : Safe K.decode o (K.boot_view o s n).done (doubt_of (K.boot_view o s n)) n
  pub shown : IsBootView o (K.boot_view o s n)
  pub unread : K.has_read s ≡ false → K.queued s ≡ 0
  pub drains : 0 < length n.queue → BootStays K o s n s (drained n)
  pub settled : (m : Mark) → (K.boot_view o s n).done ≡ Some m → K.migrates s ≡ false → n.queue ≡ []

-- no number of a scheme is above its maximum
pub record IsBounded {S : Type 0} (K : SchemeOf S) (p : Parameters) (s : S) (n : Device) : Type 0 where
  pub engine : K.engine_left s ≤ K.most_engine p
  pub merges : K.merges_left s ≤ K.most_merges p
  pub promotions : K.promotions_left s ≤ K.most_promotions p
  pub owed : owed_in K s n ≤ K.most_owed p
  pub free : K.free s ≤ K.most_free p

-- with some processor, memory of the committed checkpoint is the state at its count
pub record IsCommitted {S : Type 0} (K : SchemeOf S) (o : Origin) (count : ℕ) (s : S) (n : Device) : Type 0 where
  pub blocks : length (K.committed s n) ≡ memory_blocks o.geometry
  pub cpu : CpuState
  pub state : state_from o.geometry cpu (K.committed s n) ≡ at o count

-- what holds after the boot, while the NVM is up
pub record RunHolds {S : Type 0} (K : SchemeOf S) (o : Origin) (k : CheckpointMarks) (s : S) (n : Device) : Type 0 where
  pub of_geometry : K.is_of o.geometry s
  pub sized : length n.image ≡ K.blocks o.geometry
  pub safe : Safe K.decode o (Some k.done) (doubt_in k) n
  -- a checkpoint is under way while an epoch is sealed, or while what it has written is applied, and never both
  pub way : K.under_way s ≡ (is_some k.sealed || K.applies s)
  pub apart : K.applies s ≡ true → k.sealed ≡ None
  pub memory : length (K.holding s n).blocks ≡ memory_blocks o.geometry
  pub ready : K.promoting s ≡ false → (K.holding s n).ready ≡ true
  pub overlays : K.overlaid s ≡ false → K.merges_left s ≡ 0
  pub promotions : K.promoting s ≡ false → K.promotions_left s ≡ 0
  pub bounded : IsBounded K o.geometry s n
  -- once an epoch without a store is committed, the next one has room for an instruction
  pub room : K.sealed_storeless s ≡ true → K.storeless s ≡ true → K.under_way s ≡ false → 2 ≤ K.free s
  pub committed : IsCommitted K o k.done.count s n
  -- a write of the NVM lands
  pub drained_sound : 0 < length n.queue → K.is_sound o k s (drained n)
  pub drained_keeps : 0 < length n.queue → Keeps K s n s (drained n)
  pub drained_owes : 0 < length n.queue → OwesNoMore K s n s (drained n)
  -- what the NVM counts is nothing to it
  pub counted_sound : (writes : ℕ) (wear : Wear) → K.is_sound o k s (counting writes wear n)
  pub counted_keeps : (writes : ℕ) (wear : Wear) → Keeps K s n s (counting writes wear n)
  pub counted_owes : (writes : ℕ) (wear : Wear) → OwesNoMore K s n s (counting writes wear n)

-- the hart may store: no checkpoint is under way, or the hart may run meanwhile
abbrev pub is_free_to_run : {S : Type 0} → SchemeOf S → S → Bool
is_free_to_run K s = K.overlaps || not (K.under_way s)

-- loads and stores keep the checkpoints, and add nothing to the work of the engine or of the next commit
pub record StaysSound {S : Type 0} (K : SchemeOf S) (o : Origin) (k : CheckpointMarks) (s : S) (t : S) (new : Device) : Type 0 where
  pub sound : new.down ≡ false → K.is_sound o k t new
  pub safe : Safe K.decode o (Some k.done) (doubt_in k) new
  pub way : K.under_way t ≡ K.under_way s
  pub engine : K.engine_left t ≤ K.engine_left s
  pub owed_later : K.owed_later t ≤ K.owed_later s
  pub sealed_storeless : K.sealed_storeless t ≡ K.sealed_storeless s

pub record IsLawful {S : Type 0} (K : SchemeOf S) : Type 0 where
  -- power can come on, over a DRAM of zeros
  pub powers : (p : Parameters) → (s : S) × K.powered p s × (K.dram s ≡ fresh (dram_blocks p) p.dramq)
  pub is_new : (p : Parameters) (s : S) → K.powered p s → IsNew K p s
  -- one whose power has just come on is the one that is made over its DRAM
  pub powered_is : (p : Parameters) (s : S) → K.powered p s → s ≡ K.calls.powered_on p (K.dram s)
  -- an image of zeros has no checkpoint
  pub finds_nothing : (p : Parameters) (shape : Shape) (n : Device)
      → shape.blocks ≡ K.blocks p → K.decode p ceiling (fitted shape [] n).image ≡ Nothing
  -- what holds when a boot begins, and during it
  pub finds : (o : Origin) (s : S) (n : Device) → IsOrigin o → K.powered o.geometry s → IsFound K o n → BootsFound K o s n
  pub boot_holds : (o : Origin) (s : S) (n : Device) → IsBooting K o s n → BootHolds K o s n
  -- what a boot shows is the same with other turns
  pub boot_alike : (o : Origin) (turns : List ℕ) (s : S) (n : Device) → K.boot_view (with_turns o turns) s n ≡ K.boot_view o s n
  -- a step of a boot has one outcome, if what the NVM counts has one
  pub boot_once : (start : State) (s : S) (n : Device) (step other : BootStep) (t u : S) (x y : Device)
      → K.calls.boot start s n step t x → K.calls.boot start s n other u y → CountAlike n x y → (step ≡ other) × (t ≡ u) × (x ≡ y)
  -- what holds of a lawful scheme after the boot
  pub run_holds : (o : Origin) (k : CheckpointMarks) (s : S) (n : Device) → Stands K o k s n → RunHolds K o k s n
  -- blocks are held only while the NVM is up, and are stored only if no page is being promoted
  pub up : (s : S) (n : Device) (b : ℕ) → b < length (K.holding s n).blocks → n.down ≡ false
  pub ready_up : (s : S) (n : Device) → (K.holding s n).ready ≡ true → n.down ≡ false
  pub ready_whole : (s : S) (n : Device) → (K.holding s n).ready ≡ true → K.promoting s ≡ false
  pub free_is : (s : S) (n : Device) → (K.holding s n).free ≡ K.free s
  -- the writes that are queued in the DRAM are those that it says are
  pub queued_is : (s : S) → K.queued s ≡ (K.dram s).queued
  -- what loads and stores keep
  pub stays_same : (s : S) (n : Device) → K.stays s n s n
  pub stays_on : (a : S) (m : Device) (b : S) (n : Device) (c : S) (o : Device)
      → K.stays a m b n → K.stays b n c o → K.stays a m c o
  pub stays_of : (s : S) (n : Device) (t : S) (new : Device) → K.stays s n t new → StaysOf K s t
  pub stays_sound : (o : Origin) (k : CheckpointMarks) (s : S) (n : Device) (t : S) (new : Device)
      → Stands K o k s n → is_free_to_run K s ≡ true → K.stays s n t new → StaysSound K o k s t new
