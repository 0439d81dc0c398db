-- Part of the claim.
-- The copies that the checkpoint under way still needs, and what the next of them makes of the controller.
use Rattle.std.specs.Prelude.{◌≡◌, ℕ, Bool, true, false, Option, Some, None, Result, count_by}
use Rattle.thy_block.specs.declared.nvm.NvmError.{NvmError}
use Rattle.thy_block.specs.Device.{Device}
use Rattle.thy_table.specs.Devices.{Devices, devices_of}
use Rattle.thy_table.specs.Listing.{entry_at, with_entry, passes, next_from}
use Rattle.thy_table.specs.declared.block_entry.BttEntry.{BttEntry}
use Rattle.thy_table.specs.declared.block_entry.Pending.{Pending}
use Rattle.thy_table.specs.declared.block_entry.Pending.TheVariants.{Settled}
use Rattle.thy_table.specs.Cells.{target, last}
use Rattle.thy_table.specs.Rules.{after_copy}
use Rattle.thy_control.specs.Moves.{moved, FailsMove}
use Rattle.thy_control.specs.Outcomes.{MakesOrFails}
use Rattle.thy_control.specs.State.{State, cell_of}

-- a version has still to be copied to its place
abbrev pub is_pending : Pending → Bool
is_pending Settled = false
is_pending pend = true

abbrev pub needs_copy : BttEntry → Bool
needs_copy e = is_pending e.pend

-- the entry whose copy is next, and how many copies are left
abbrev pub next_copy : State → Option ℕ
next_copy s = next_from needs_copy 0 s.btt

abbrev pub copies_left : State → ℕ
copies_left s = count_by (passes needs_copy) s.btt.entries

-- the block that an entry lists
abbrev pub block_in : Option BttEntry → ℕ
block_in None = 0
block_in (Some e) = e.block

abbrev pub block_listed : ℕ → State → ℕ
block_listed i s = block_in (entry_at s.btt i)

-- both devices after the copy of a block's pending version to its place, and the controller
unfoldable pub devices_copied : ℕ → State → Device → Devices
devices_copied b s m = moved s.p (last (cell_of s b)) (target (cell_of s b)) (devices_of m s.dram)

unfoldable pub copied : ℕ → State → Device → State
copied b s m = record s {
  btt = with_entry (cell_of s b).i (Some (after_copy (cell_of s b)).entry) s.btt;
  dram = (devices_copied b s m).dram;
}

-- the NVM, and the controller, after the copy of what an entry lists; unchanged if nothing is left
abbrev pub devices_after_copy : Option ℕ → State → Device → Device
devices_after_copy None s m = m
devices_after_copy (Some i) s m = (devices_copied (block_listed i s) s m).nvm

abbrev pub after_next_copy : Option ℕ → State → Device → State
after_next_copy None s m = s
after_next_copy (Some i) s m = copied (block_listed i s) s m

-- the copy failed: the place may hold the version or not
abbrev pub FailsCopy : ℕ → State → Device → Device → Type 0
FailsCopy b s m n = FailsMove s.p (last (cell_of s b)) (target (cell_of s b)) (devices_of m s.dram) (devices_of n s.dram)

-- a copy that failed was of the block whose entry was next
pub record FailsNextCopy (s : State) (m n : Device) : Type 0 where
  pub entry : ℕ
  pub next : next_copy s ≡ Some entry
  pub fails : FailsCopy (block_listed entry s) s m n

-- how the copy of a block ends, and the next copy, or none if nothing is left
abbrev pub CopiesBlock : {T : Type 0} → ℕ → State → Device → Result T NvmError → State → Device → Type 0
CopiesBlock b s m result t n = MakesOrFails (copied b s m) (devices_copied b s m).nvm (FailsCopy b s m n) s m result t n

abbrev pub CopiesNext : State → Device → Result Bool NvmError → State → Device → Type 0
CopiesNext s m result t n =
    MakesOrFails (after_next_copy (next_copy s) s m) (devices_after_copy (next_copy s) s m) (FailsNextCopy s m n) s m result t n
