-- Part of the claim.
-- The pages that the checkpoint under way has still to write, and what the write of the next block makes of the controller.
use Rattle.std.specs.Prelude.{◌≡◌, ℕ, ◌+◌, ◌-◌, ◌*◌, Bool, ◌&&◌, nat_lt, if◌then◌else◌, Option, Some, None, Result}
use Rattle.std.specs.List.{sum_by}
use Rattle.thy_block.specs.declared.nvm.NvmError.{NvmError}
use Rattle.thy_block.specs.Device.{Device}
use Rattle.thy_table.specs.Devices.{Devices, devices_of}
use Rattle.thy_table.specs.Listing.{entry_at, with_entry, next_from}
use Rattle.thy_table.specs.declared.page_entry.PttEntry.{PttEntry}
use Rattle.thy_table.specs.PageEntry.{page_blocks}
use Rattle.thy_table.specs.Cells.{seat_of, frame_at, target}
use Rattle.thy_table.specs.Checkpoint.{page_issued}
use Rattle.thy_control.specs.Moves.{moved, FailsMove}
use Rattle.thy_control.specs.Outcomes.{MakesOrFails}
use Rattle.thy_control.specs.State.{State, cell_of}

-- a page's blocks are not all issued
abbrev pub needs_write : PttEntry → Bool
needs_write e = e.busy && nat_lt e.issued page_blocks

-- the entry whose page is written next
abbrev pub next_page : State → Option ℕ
next_page s = next_from needs_write 0 s.ptt

-- how many blocks of a page are left, and of all pages
abbrev pub issues_left : Option PttEntry → ℕ
issues_left None = 0
issues_left (Some e) = if e.busy then page_blocks - e.issued else 0

abbrev pub writes_left : State → ℕ
writes_left s = sum_by issues_left s.ptt.entries

-- the page that an entry lists, and the block of it that comes after a number of others
abbrev pub page_in : Option PttEntry → ℕ
page_in None = 0
page_in (Some e) = e.page

abbrev pub block_after : (PttEntry → ℕ) → Option PttEntry → ℕ
block_after done None = 0
block_after done (Some e) = page_blocks * e.page + done e

-- the next block of the page that an entry lists
abbrev pub block_to_write : ℕ → State → ℕ
block_to_write j s = block_after (λ e. e.issued) (entry_at s.ptt j)

-- both devices after a block was written from its frame to its place, and the controller
unfoldable pub devices_issued : ℕ → State → Device → Devices
devices_issued b s m = moved s.p (frame_at (seat_of (cell_of s b))) (target (cell_of s b)) (devices_of m s.dram)

unfoldable pub issued : ℕ → State → Device → State
issued b s m = record s {
  ptt = with_entry (cell_of s b).j (Some (page_issued (cell_of s b).page)) s.ptt;
  dram = (devices_issued b s m).dram;
}

-- the NVM, and the controller, after the write of the next block of an entry's page; unchanged if nothing is left
abbrev pub devices_after_write : Option ℕ → State → Device → Device
devices_after_write None s m = m
devices_after_write (Some j) s m = (devices_issued (block_to_write j s) s m).nvm

abbrev pub after_next_write : Option ℕ → State → Device → State
after_next_write None s m = s
after_next_write (Some j) s m = issued (block_to_write j s) s m

-- the write failed: the place may hold the block or not
abbrev pub FailsWriteOf : ℕ → State → Device → Device → Type 0
FailsWriteOf b s m n =
    FailsMove s.p (frame_at (seat_of (cell_of s b))) (target (cell_of s b)) (devices_of m s.dram) (devices_of n s.dram)

-- a write that failed was of the page whose entry was next
pub record FailsNextWrite (s : State) (m n : Device) : Type 0 where
  pub entry : ℕ
  pub next : next_page s ≡ Some entry
  pub fails : FailsWriteOf (block_to_write entry s) s m n

-- how the write of a block ends, and the next write, or none if nothing is left
abbrev pub WritesBlock : {T : Type 0} → ℕ → State → Device → Result T NvmError → State → Device → Type 0
WritesBlock b s m result t n = MakesOrFails (issued b s m) (devices_issued b s m).nvm (FailsWriteOf b s m n) s m result t n

abbrev pub WritesNext : State → Device → Result Bool NvmError → State → Device → Type 0
WritesNext s m result t n =
    MakesOrFails (after_next_write (next_page s) s m) (devices_after_write (next_page s) s m) (FailsNextWrite s m n) s m result t n
