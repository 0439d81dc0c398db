-- Memory as it was stored last, and at home, over what is done to the NVM and to the log.
use Rattle.std.proofs.Common.{◌≡◌, ◌≢◌, ℕ, ◌<◌, length, Option, Some, None, refl, ap, arith}
use Rattle.thy_block.specs.declared.block.Block.{Block}
use Rattle.thy_block.specs.Device.{Device, written_to}
use Rattle.thy_block.specs.Geometry.{memory_blocks}
use Rattle.thy_block.proofs.DeviceLemmas.{newest-written_to_other}
use Rattle.thy_table.specs.Listing.{entry_at, lists}
use Rattle.thy_table.proofs.ListingLaws.{entry_at-cleared, index_of-none}
use Rattle.thy_images.specs.JournalPlaces.{image_blocks, home_place}
use Rattle.thy_journal_parts.specs.Holding.{works, homes}
use Rattle.thy_journal_parts.specs.Keys.{block_key, freed}
use Rattle.thy_journal_parts.specs.State.{State, entry_for, home_of, work_by, work_of}
use Rattle.thy_journal_parts.specs.Stores.{released}
use Rattle.thy_scheme_parts.proofs.MemoryLemmas.{map_below}

-- ---- over another NVM

-- a block in a buffer does not depend on the NVM
work_same : (s : State) (m n : Device) (b : ℕ) (o : Option ℕ) → (o ≡ None → home_of s n b ≡ home_of s m b)
    → work_by s n b o ≡ work_by s m b o
work_same s m n b None h = h refl
work_same s m n b (Some i) h = refl

-- all blocks load as before if each block that no entry lists reads at home as before
pub works_same : (s : State) (m n : Device)
    → ((b : ℕ) → b < memory_blocks s.p → entry_for s b ≡ None → home_of s n b ≡ home_of s m b) → works s n ≡ works s m
works_same s m n same =
    map_below (memory_blocks s.p) (work_of s n) (work_of s m)
    (λ b l. work_same s m n b (entry_for s b) (same b l))

-- a write elsewhere leaves a home
pub home_over : (s : State) (m : Device) (at : ℕ) (block : Block) (b : ℕ)
    → length m.image ≡ image_blocks s.p → b < memory_blocks s.p
    → home_place s.p b ≢ at → home_of s (written_to m at block) b ≡ home_of s m b
home_over s m at block b sized l other =
    newest-written_to_other m at block (home_place s.p b) other (omega (arith, sized))

-- ---- with all entries free

pub none_left : (s : State) (i : ℕ) → entry_at (released s).table i ≡ None
none_left s i = entry_at-cleared freed (λ e. refl) s.table i

-- with all entries free every block loads from home
pub works-released : (s : State) (n : Device) → works (released s) n ≡ homes s n
works-released s n =
    map_below (memory_blocks s.p) (work_of (released s) n) (home_of s n)
    (λ b l.
    ap (work_by (released s) n b)
    (index_of-none block_key (released s).table b (λ i. ap (lists block_key b) (none_left s i))))
