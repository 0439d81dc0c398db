-- Part of the claim.
-- What the checkpoint under way has still to write before its slot, by positions: an entry of the block table, whose version is
-- copied, or, after these, 64 times an entry of the page table and a block of its page.
use Rattle.std.specs.Prelude.{ℕ, ◌+◌, ◌*◌, Option, Some, None}
use Rattle.thy_table.specs.Listing.{entry_at}
use Rattle.thy_table.specs.declared.page_entry.PttEntry.{PttEntry}
use Rattle.thy_table.specs.PageEntry.{page_blocks}
use Rattle.thy_control.specs.Copies.{next_copy}
use Rattle.thy_control.specs.Pages.{next_page}
use Rattle.thy_control.specs.State.{State}

-- how many blocks of an entry's page are written
abbrev pub issued_of : Option PttEntry → ℕ
issued_of None = 0
issued_of (Some e) = e.issued

-- the position that is next: of the copy that is, else of the page
abbrev pub position_by : State → Option ℕ → Option ℕ → Option ℕ
position_by s (Some i) page = Some i
position_by s None (Some j) = Some (s.p.btt + (page_blocks * j + issued_of (entry_at s.ptt j)))
position_by s None None = None

abbrev pub next_position : State → Option ℕ
next_position s = position_by s (next_copy s) (next_page s)
