-- Part of the claim.
-- What the controller and the NVM hold together, seen as a store of blocks.
use Rattle.std.specs.Prelude.{◌≡◌, ℕ, ◌<◌, ◌==◌, Bool, true, false, ◌&&◌, not, if◌then◌else◌, List, [], length, map, count_by, None}
use Rattle.std.specs.List.{range_with_len}
use Rattle.thy_block.specs.declared.block.Block.{Block}
use Rattle.thy_block.specs.declared.parameters.Parameters.{Parameters}
use Rattle.thy_block.specs.Device.{Device, failed_calls, block_at}
use Rattle.thy_block.specs.Geometry.{memory_blocks}
use Rattle.thy_table.specs.Places.{image_blocks}
use Rattle.thy_block.specs.Store.{Holding}
use Rattle.thy_dram.specs.Contents.{Contents}
use Rattle.thy_table.specs.Listing.{Listing, free_count, passes}
use Rattle.thy_table.specs.declared.block_entry.BttEntry.{BttEntry}
use Rattle.thy_table.specs.declared.page_entry.PttEntry.{PttEntry}
use Rattle.thy_table.specs.declared.block_entry.Pending.{Pending}
use Rattle.thy_table.specs.declared.block_entry.Pending.TheVariants.{FromBuffer}
use Rattle.thy_table.specs.PageEntry.{is_framed}
use Rattle.thy_control.specs.State.{State, IsSized, work_of, new_state}

-- what a load of each block gives; nothing if the NVM has another size, or is down
abbrev pub works : State → Device → List Block
works s n =
    if length n.image == image_blocks s.p && not n.down
    then map (work_of s n) (range_with_len 0 (memory_blocks s.p))
    else []

-- a buffer has still to be copied
abbrev pub waits : Pending → Bool
waits FromBuffer = true
waits pend = false

-- a page is being promoted: its frame has not all of it yet
abbrev pub is_promoted : PttEntry → Bool
is_promoted e = not (is_framed e) && e.fresh

-- how many buffers have still to be copied, and how many pages are being promoted
abbrev pub waiting : Listing BttEntry → ℕ
waiting t = count_by (passes (λ (e : BttEntry). waits e.pend)) t.entries

abbrev pub promoted : Listing PttEntry → ℕ
promoted t = count_by (passes is_promoted) t.entries

-- stores need that no page is being promoted, and that the NVM is up
abbrev pub holding_of : State → Device → Holding
holding_of s n = record {
  blocks = works s n;
  faults = failed_calls n;
  free = free_count s.btt;
  ready = promoted s.ptt == 0 && not n.down;
  open_page = None;
  owed = waiting s.btt;
}

-- what a controller holds has a block exactly if memory has, and that block is the work
pub record AreWorks (s : State) (n : Device) (b : ℕ) : Type 0 where
  pub sized : IsSized s n
  pub up : n.down ≡ false
  pub inside : b < memory_blocks s.p
  pub block : block_at (holding_of s n).blocks b ≡ work_of s n b

abbrev pub BlocksAreWorks : Type 0
BlocksAreWorks = (s : State) (n : Device) (b : ℕ) → b < length (holding_of s n).blocks → AreWorks s n b

-- a controller holds every block of memory if the NVM has its size and is up
abbrev pub MemoryIsHeld : Type 0
MemoryIsHeld = (s : State) (n : Device) → IsSized s n → n.down ≡ false → length (holding_of s n).blocks ≡ memory_blocks s.p

-- a new controller has room for one store for each entry of the block table, and is ready if the NVM is up
pub record IsNew (p : Parameters) (n : Device) (h : Holding) : Type 0 where
  pub free : h.free ≡ p.btt
  pub ready : h.ready ≡ not n.down
  pub owed : h.owed ≡ 0

abbrev pub NewIsReady : Type 0
NewIsReady = (p : Parameters) (dram : Contents) (n : Device) → IsNew p n (holding_of (new_state p dram) n)
