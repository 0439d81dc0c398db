-- Part of the claim.
-- What a store makes of the controller and of both devices.
use Rattle.std.specs.Prelude.{◌≡◌, ℕ, ◌<◌, false}
use Rattle.thy_block.specs.declared.block.Block.{Block}
use Rattle.thy_block.specs.Device.{Device, HasFailedToWrite}
use Rattle.thy_table.specs.Places.{in_dram, number_of}
use Rattle.thy_block.specs.Geometry.{memory_blocks}
use Rattle.thy_block.specs.Store.{page_of}
use Rattle.thy_table.specs.Devices.{Devices, devices_of, written_at}
use Rattle.thy_table.specs.declared.cell.Cell.{Cell}
use Rattle.thy_table.specs.declared.cell.StoreRule.{StoreRule}
use Rattle.thy_table.specs.Rules.{store_rule, store_place, after_store}
use Rattle.thy_table.specs.Sound.{IsWhole}
use Rattle.thy_table.specs.Store.{put_by}
use Rattle.thy_control.specs.Guarded.{IsFree}
use Rattle.thy_control.specs.StoredTables.{btt_with, btt_after, ptt_after, counts_after}
use Rattle.thy_control.specs.State.{State, cell_of, reads}

-- the controller with an entry for a block, if the rule of its store names one
abbrev pub with_block : StoreRule → ℕ → State → State
with_block rule b s = record s { btt = btt_with rule b s.btt }

-- the controller with the entries of a cell, as far as the rule of its store changes them
abbrev pub with_cell : StoreRule → Cell → State → State
with_cell rule c s = record s { btt = btt_after rule c s.btt; ptt = ptt_after rule c s.ptt }

-- the rule of a block's store
unfoldable pub rule_for : ℕ → State → StoreRule
rule_for b s = store_rule (cell_of s b)

-- the block with its entry, before the store
unfoldable pub cell_before : ℕ → State → Cell
cell_before b s = cell_of (with_block (rule_for b s) b s) b

-- both devices after a store by its rule: one write at one place
unfoldable pub devices_after : ℕ → Block → State → Device → Devices
devices_after b block s n =
    let c = cell_before b s in
    let rule = rule_for b s in
    written_at s.p (store_place rule c) (put_by rule block (reads s n) c) (devices_of n s.dram)

-- the controller after the store
unfoldable pub state_after : ℕ → Block → State → Device → State
state_after b block s n =
    let rule = rule_for b s in
    let t = with_cell rule (after_store rule (cell_before b s)) (with_block rule b s) in
    record t { counts = counts_after rule (page_of b) s.counts; dram = (devices_after b block s n).dram }

-- no promotion of a page is unfinished
pub record IsWholeState (s : State) : Type 0 where
  pub whole : (b : ℕ) → b < memory_blocks s.p → IsWhole (cell_of s b).page

-- the place that is written, if it is one of the NVM, is none that a checkpoint has
abbrev pub StoresFree : ℕ → State → Type 0
StoresFree b s =
    in_dram (store_place (rule_for b s) (cell_before b s)) ≡ false
    → IsFree s (number_of s.p (store_place (rule_for b s) (cell_before b s)))

-- the store failed: its place, one of the NVM, may hold what was to be put there, and nothing else
pub record FailsStore (b : ℕ) (block : Block) (s : State) (old new : Device) : Type 0 where
  pub in_nvm : in_dram (store_place (rule_for b s) (cell_before b s)) ≡ false
  pub failed : HasFailedToWrite (number_of s.p (store_place (rule_for b s) (cell_before b s)))
      (put_by (rule_for b s) block (reads s old) (cell_before b s)) old new
