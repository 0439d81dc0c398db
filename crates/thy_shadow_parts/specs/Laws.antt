-- What holds of shadow paging beside what holds of every scheme of parts.
use Rattle.std.specs.Prelude.{◌≡◌, ◌≢◌, ℕ, ◌+◌, ◌*◌, ◌<◌, ◌≤◌, true, false}
use Rattle.thy_block.specs.declared.block.Block.{Block}
use Rattle.thy_block.specs.declared.parameters.Parameters.{Parameters}
use Rattle.thy_block.specs.Device.{Device}
use Rattle.thy_block.specs.Geometry.{memory_blocks}
use Rattle.thy_layout.specs.Entries.{Lists}
use Rattle.thy_computer.specs.Action.{WriteAt}
use Rattle.thy_computer.specs.Origin.{Origin}
use Rattle.thy_scheme.specs.CheckpointMarks.{CheckpointMarks}
use Rattle.thy_scheme.specs.Scheme.{Stands}
use Rattle.thy_scheme.specs.Pace.{most_spent}
use Rattle.thy_images.specs.ShadowPlaces.{slot_blocks, pool_place}
use Rattle.thy_checkpoint.specs.Progress.{Progress, Fits, is_under_way, action_next}
use Rattle.thy_shadow_parts.specs.State.{State, committed_table}
use Rattle.thy_shadow_parts.specs.Filling.{filling_shadow}
use Rattle.thy_scheme_parts.specs.Design.{Composed}
use Rattle.thy_shadow_parts.specs.Design.{items_shadow}
use Rattle.thy_shadow_parts.specs.Scheme.{shadow_scheme}

-- no item writes into a page of the pool that the committed map lists
abbrev pub CommittedIsSpared : Type 0
CommittedIsSpared =
    (e : Progress) (s : State) (n : Device) (at : ℕ) (block : Block) (x q c : ℕ)
    → Fits filling_shadow items_shadow e s → is_under_way e.stage ≡ true → action_next filling_shadow items_shadow e s n ≡ WriteAt at block
    → Lists (committed_table s) x q → c < 64 → at ≢ pool_place s.p q c

-- a boot that loads reads the commit block, and then it writes memory's blocks, the slot's and four more; one that
-- restores reads less. A checkpoint takes an action for each block of the frames, one for each of the slot's, and three
-- more
abbrev pub BootsAreShort : Type 0
BootsAreShort =
    (p : Parameters)
    → (shadow_scheme.most_booting p ≡ 1 + (memory_blocks p + slot_blocks p + 4))
    × (shadow_scheme.most_engine p ≡ 64 * p.ptt + (slot_blocks p + 3))

-- an epoch spends fewer cycles than 17 for each of its instructions, 129 for each frame, one for each of the slot's
-- blocks, and four more
abbrev pub EpochsAreShort : Type 0
EpochsAreShort = (p : Parameters) → most_spent shadow_scheme p ≤ 17 * p.epoch + 129 * p.ptt + slot_blocks p + 4

-- every frame is free if nothing was stored since the last seal and nothing is under way
abbrev pub FramesAreFree : Type 0
FramesAreFree =
    (o : Origin) (k : CheckpointMarks) (s : Composed State) (n : Device)
    → Stands shadow_scheme o k s n
    → shadow_scheme.storeless s ≡ true → shadow_scheme.under_way s ≡ false
    → shadow_scheme.free s ≡ o.geometry.ptt
