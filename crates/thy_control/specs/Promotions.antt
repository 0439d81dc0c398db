-- Part of the claim.
-- The pages that are being promoted, and what the copy of the next block into its frame makes of the controller.
use Rattle.std.specs.Prelude.{◌≡◌, ℕ, false, ◌-◌, if◌then◌else◌, Option, Some, None, Result}
use Rattle.std.specs.List.{sum_by}
use Rattle.thy_block.specs.declared.nvm.NvmError.{NvmError}
use Rattle.thy_block.specs.Device.{Device, HasFailed}
use Rattle.thy_table.specs.Places.{in_dram}
use Rattle.thy_table.specs.Devices.{Devices, devices_of}
use Rattle.thy_table.specs.Listing.{entry_at, with_entry, next_from}
use Rattle.thy_table.specs.declared.page_entry.PttEntry.{PttEntry}
use Rattle.thy_table.specs.PageEntry.{page_blocks}
use Rattle.thy_table.specs.Cells.{seat_of, frame_at, work}
use Rattle.thy_table.specs.Checkpoint.{with_filled}
use Rattle.thy_control.specs.Holding.{is_promoted}
use Rattle.thy_control.specs.Moves.{moved}
use Rattle.thy_control.specs.Outcomes.{MakesOrFails}
use Rattle.thy_control.specs.Pages.{block_after}
use Rattle.thy_control.specs.State.{State, cell_of}
use Rattle.thy_control.specs.Stays.{HoldAll}
use Rattle.thy_control.specs.Versions.{KeepsWork}

-- the entry whose page is copied next
abbrev pub next_promotion : State → Option ℕ
next_promotion s = next_from is_promoted 0 s.ptt

-- how many blocks of a page are left, and of all pages
abbrev pub fills_left : Option PttEntry → ℕ
fills_left None = 0
fills_left (Some e) = if is_promoted e then page_blocks - e.filled else 0

abbrev pub unfilled : State → ℕ
unfilled s = sum_by fills_left s.ptt.entries

-- the next block of the page that an entry lists
abbrev pub block_to_fill : ℕ → State → ℕ
block_to_fill j s = block_after (λ e. e.filled) (entry_at s.ptt j)

-- both devices after a block, as a load reads it, was copied into its frame, and the controller
unfoldable pub devices_filled : ℕ → State → Device → Devices
devices_filled b s m = moved s.p (work (cell_of s b)) (frame_at (seat_of (cell_of s b))) (devices_of m s.dram)

unfoldable pub block_filled : ℕ → State → Device → State
block_filled b s m = record s {
  ptt = with_entry (cell_of s b).j (Some (with_filled (cell_of s b)).page) s.ptt;
  dram = (devices_filled b s m).dram;
}

-- the controller after the next block of an entry's page was copied into its frame, if there is such an entry
abbrev pub after_promotion : Option ℕ → State → Device → State
after_promotion None s m = s
after_promotion (Some j) s m = block_filled (block_to_fill j s) s m

-- the next block that is promoted is read from the NVM
abbrev pub ReadsNvm : Option ℕ → State → Type 0
ReadsNvm None s = ⊥
ReadsNvm (Some j) s = in_dram (work (cell_of s (block_to_fill j s))) ≡ false

-- the places hold what they have to, and a load of every block gives what it gave
pub record HoldsWork (s : State) (m : Device) (t : State) (n : Device) : Type 0 where
  pub holds : HoldAll t n
  pub work : KeepsWork s m t n

-- how the copy of a block into its frame ends, and the next such copy: the NVM is not written, and a read of it may fail
abbrev pub FillsBlock : {T : Type 0} → ℕ → State → Device → Result T NvmError → State → Device → Type 0
FillsBlock b s m result t n = MakesOrFails (block_filled b s m) m (HasFailed m n) s m result t n

abbrev pub FillsNext : {T : Type 0} → State → Device → Result T NvmError → State → Device → Type 0
FillsNext s m result t n = MakesOrFails (after_promotion (next_promotion s) s m) m (HasFailed m n) s m result t n
