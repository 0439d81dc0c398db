-- Part of the claim.
-- What is seen of controllers of a type as a scheme's: what its boot fills, what its engine writes, and the rest.
use Rattle.std.specs.Prelude.{◌≡◌, ℕ, Bool, true, false, List, length, Option}
use Rattle.thy_block.specs.declared.block.Block.{Block}
use Rattle.thy_block.specs.declared.parameters.Parameters.{Parameters}
use Rattle.thy_block.specs.declared.store.Stored.{Stored}
use Rattle.thy_block.specs.Device.{Device, HoldsNoMore}
use Rattle.thy_dram.specs.Contents.{Contents}
use Rattle.thy_computer.specs.Action.{Action}
use Rattle.thy_checkpoint.specs.Boot.{Booting}
use Rattle.thy_checkpoint.specs.Filling.{FillingOf}
use Rattle.thy_checkpoint.specs.Items.{ItemsOf, Phase}
use Rattle.thy_checkpoint.specs.Progress.{Progress}

-- blocks that have to be merged into their pages before a seal, or promoted before a store
pub record PagesOf (C : Type 0) : Type 0 where
  -- a buffer has to be merged; and a page has to be promoted
  pub overlaid : C → Bool
  pub promoting : C → Bool
  -- the controller once the next one was merged; or promoted, over a device
  pub merged : C → C
  pub promoted : C → Device → C
  -- how many are left, and the most
  pub merges_left : C → ℕ
  pub promotions_left : C → ℕ
  pub most_merges : Parameters → ℕ
  pub most_promotions : Parameters → ℕ

-- pages of a design in which none is ever promoted or merged
abbrev pub no_pages : {C : Type 0} → PagesOf C
no_pages = record {
  overlaid = λ c. false;
  promoting = λ c. false;
  merged = λ c. c;
  promoted = λ c n. c;
  merges_left = λ c. 0;
  promotions_left = λ c. 0;
  most_merges = λ p. 0;
  most_promotions = λ p. 0;
}

-- A load or a store of which this holds leaves the NVM: after a cut no place may hold what it could
-- not hold before. While the NVM is up, it is as it was.
pub record LeavesNvm (n m : Device) : Type 0 where
  pub as_long : length m.image ≡ length n.image
  pub no_more : HoldsNoMore n m
  pub down : n.down ≡ true → m.down ≡ true
  pub same : m.down ≡ false → m ≡ n

pub record PartsOf (C : Type 0) : Type 1 where
  -- a controller whose power has just come on, over a DRAM
  pub powered : Parameters → Contents → C
  -- the tables and the DRAM of a controller are sound, whatever failed
  pub sound : C → Type 0
  -- ---- its checkpoints

  -- what the NVM holds of the checkpoint of an epoch, by its phase
  pub holds : Phase → ℕ → C → Device → Type 0
  -- by phase and epoch, what the image that is kept has of the tables; and what the image has that is made of this epoch
  pub keeps : Phase → ℕ → C → List Block → Type 0
  pub makes : ℕ → C → List Block → Type 0
  -- memory as it was sealed, and as the committed checkpoint has it
  pub sealed : C → Device → List Block
  pub committed : Phase → C → Device → List Block
  -- the controller once an epoch is sealed
  pub seal : C → C
  -- what holds if no block was stored since the last seal, or in the epoch that was sealed last
  pub rests : Bool → Bool → Phase → C → Type 0
  -- the hart may run while a checkpoint is under way
  pub overlaps : Bool
  -- ---- loads and stores

  -- what a controller keeps of the NVM beside its tables is what the NVM has: only then blocks are held
  pub agrees : C → Device → Bool
  -- a load of a block reads the NVM; and one of the committed version, by phase
  pub load_reads : C → ℕ → Bool
  pub committed_reads : Phase → C → ℕ → Bool
  -- a store of a block: what it returns, its action, and the controller afterwards
  pub store_answer : ℕ → C → Stored
  pub store_action : ℕ → Block → C → Action
  pub stored : ℕ → Block → C → Device → C
  -- whether still no block was stored, after a store that returned this; and what is then left of the controller
  pub storeless_after : Stored → Bool → Bool
  pub still : C → C → Type 0
  -- what loads and stores keep, those that fail too
  pub stays : C → Device → C → Device → Type 0
  -- entries that are free; a page that stores go into without a copy; copies that are owed, and that the next commit may add
  pub free : C → ℕ
  pub open_page : C → Option ℕ
  pub owed : C → ℕ
  pub owed_later : Phase → C → ℕ
  -- the most that are owed, with those that a commit may add, and the most entries
  pub most_owed : Parameters → ℕ
  pub most_free : Parameters → ℕ
  -- merging and promoting
  pub pages : PagesOf C

-- a scheme: its boot, its engine, and the rest
pub record DesignOf (C : Type 0) : Type 1 where
  pub filling : FillingOf C
  pub items : ItemsOf C
  pub parts : PartsOf C

abbrev pub design_of : {C : Type 0} → FillingOf C → ItemsOf C → PartsOf C → DesignOf C
design_of F I P = record { filling = F; items = I; parts = P }

-- a scheme's value: the controller, the engine, whether blocks were stored since the last seal and in the epoch that was
-- sealed last, and the boot
pub record Composed (C : Type 0) : Type 0 where
  pub control : C
  pub engine : Progress
  pub storeless : Bool
  pub sealed_storeless : Bool
  pub boot : Booting
