-- Part of the claim.
-- What a scheme of checkpoints is to the machine above it.
use Rattle.std.specs.Prelude.{◌≡◌, ℕ, false, Bool, List}
use Rattle.thy_block.specs.declared.block.Block.{Block}
use Rattle.thy_block.specs.declared.parameters.Parameters.{Parameters}
use Rattle.thy_block.specs.Device.{Device}
use Rattle.thy_block.specs.Store.{Holding}
use Rattle.thy_dram.specs.Contents.{Contents}
use Rattle.thy_layout.specs.Decoded.{Reading}
use Rattle.thy_layout.specs.declared.start.Start.{Start}
use Rattle.thy_computer.specs.declared.view.View.{View}
use Rattle.thy_computer.specs.Origin.{Origin, Begins}
use Rattle.thy_scheme.specs.CheckpointMarks.{CheckpointMarks}
use Rattle.thy_scheme.specs.Exact.{CallsOf}

-- what schemes of a type mean, and what they show, over the NVM below them
pub record SchemeOf (S : Type 0) : Type 1 where
  -- what an image of the NVM means
  pub decode : Reading
  -- how many blocks the NVM has
  pub blocks : Parameters → ℕ
  -- power has just come on: nothing was read, and nothing is queued in the DRAM
  pub powered : Parameters → S → Type 0
  -- what a load of each block gives, and what stores there is room for
  pub holding : S → Device → Holding
  -- memory as the committed checkpoint has it
  pub committed : S → Device → List Block
  -- what loads and stores keep, those that fail too, over any number of them
  pub stays : S → Device → S → Device → Type 0
  -- a checkpoint is under way: an epoch is sealed, or what its checkpoint has written is applied
  pub under_way : S → Bool
  -- what a committed checkpoint has written is still to be applied
  pub applies : S → Bool
  -- a block has still to be merged into its page before a seal
  pub overlaid : S → Bool
  -- a block of a page has still to be promoted before a store
  pub promoting : S → Bool
  -- no block was stored since the last seal
  pub storeless : S → Bool
  -- no block was stored in the epoch that was sealed last
  pub sealed_storeless : S → Bool
  -- the hart may run while a checkpoint is under way
  pub overlaps : Bool
  -- what the DRAM holds, and the scheme is of a geometry, whatever failed: the DRAM has its size
  pub dram : S → Contents
  pub is_of : Parameters → S → Type 0
  -- how many writes are queued in it, and how many table entries are free
  pub queued : S → ℕ
  pub free : S → ℕ
  -- copies that the next commit may add to those that are owed
  pub owed_later : S → ℕ
  -- after the boot: scheme and NVM have the checkpoints of these marks
  pub is_sound : Origin → CheckpointMarks → S → Device → Type 0
  -- in the boot: scheme and NVM have the checkpoint that is found, or load the program
  pub boots : Origin → S → Device → Type 0
  -- what is then seen of it, and whether the commit block was read
  pub boot_view : Origin → S → Device → View
  pub has_read : S → Bool
  -- the image that the boot found has an older form, and the boot writes that checkpoint again in the form of today
  pub migrates : S → Bool
  -- actions that the boot has left, cycles of the engine, merges and promotions, and the most of each
  pub boot_left : S → ℕ
  pub engine_left : S → ℕ
  pub merges_left : S → ℕ
  pub promotions_left : S → ℕ
  pub most_booting : Parameters → ℕ
  pub most_engine : Parameters → ℕ
  pub most_merges : Parameters → ℕ
  pub most_promotions : Parameters → ℕ
  -- the most copies that may be owed, with those that a commit may add, and the most entries
  pub most_owed : Parameters → ℕ
  pub most_free : Parameters → ℕ
  -- what each call makes exactly
  pub calls : CallsOf S

-- a scheme keeps its geometry
abbrev pub StaysOf : {S : Type 0} → SchemeOf S → S → S → Type 0
StaysOf K s t = (p : Parameters) → K.is_of p s → K.is_of p t

-- a scheme after the boot of a run, over an NVM that is up
pub record Stands {S : Type 0} (K : SchemeOf S) (o : Origin) (k : CheckpointMarks) (s : S) (n : Device) : Type 0 where
  pub sound : K.is_sound o k s n
  pub up : n.down ≡ false

-- the scheme is after the boot of some run, over an NVM that is up
pub record CanRun {S : Type 0} (K : SchemeOf S) (s : S) (n : Device) : Type 0 where
  pub o : Origin
  pub k : CheckpointMarks
  pub stands : Stands K o k s n

-- in the boot of a run, over an NVM that is up
pub record IsBooting {S : Type 0} (K : SchemeOf S) (o : Origin) (s : S) (n : Device) : Type 0 where
  pub boots : K.boots o s n
  pub up : n.down ≡ false

-- the scheme is in the boot of some run with this start, over an NVM that is up
pub record CanBoot {S : Type 0} (K : SchemeOf S) (start : Start) (s : S) (n : Device) : Type 0 where
  pub o : Origin
  pub begins : Begins o start
  pub booting : IsBooting K o s n
