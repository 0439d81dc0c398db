-- Part of the claim.
-- What a seal, a commit, a merge, a promotion and the write of a page make of a block's entries, and their laws.
use Rattle.std.specs.Prelude.{◌≡◌, ◌≢◌, ℕ, ◌+◌, ◌≤◌, ◌==◌, Bool, true, false, ◌||◌, not, if◌then◌else◌, Option, Some, None}
use Rattle.thy_block.specs.declared.block.Block.{Block}
use Rattle.thy_table.specs.declared.place.Place.{Place}
use Rattle.thy_table.specs.declared.block_entry.BttEntry.{BttEntry}
use Rattle.thy_table.specs.declared.page_entry.PttEntry.{PttEntry}
use Rattle.thy_table.specs.declared.block_entry.Version.{Version}
use Rattle.thy_table.specs.declared.block_entry.Version.TheVariants.{Out, Alt}
use Rattle.thy_table.specs.declared.block_entry.Pending.TheVariants.{Settled, FromBuffer, FromAlternate}
use Rattle.thy_table.specs.declared.block_entry.Working.{Working}
use Rattle.thy_table.specs.declared.block_entry.Working.TheVariants.{NoWork, InNvm, InBuffer}
use Rattle.thy_table.specs.declared.page_entry.Site.{Site}
use Rattle.thy_table.specs.declared.page_entry.Site.TheVariants.{AtHome, AtAlternate}
use Rattle.thy_table.specs.declared.cell.Cell.{Cell}
use Rattle.thy_table.specs.BlockEntry.{new_entry, other_version}
use Rattle.thy_table.specs.PageEntry.{page_blocks, other_site, no_page, promoted_page, is_framed}
use Rattle.thy_table.specs.Cells.{penult, last, work}
use Rattle.thy_table.specs.Sound.{IsSoundCell, IsWhole, Holds}

-- Step 1 of a seal in docs/CONTROLLER.md, of an entry of the block table: by whether its page is framed, its work, whether
-- few entries are free, and the place at which the checkpoint before has the block
abbrev pub sealed_by : Bool → Working → Bool → Version → BttEntry → BttEntry
sealed_by true work few v1 e = record e { v1 = Out }
sealed_by false InNvm few v1 e = record e { v1 = other_version v1; pend = Settled; work = NoWork }
sealed_by false InBuffer few v1 e = record e { v1 = other_version v1; pend = FromBuffer; work = NoWork }
sealed_by false NoWork true Alt e = record e { v1 = Out; pend = FromAlternate }
sealed_by false NoWork true Out e = e
sealed_by false NoWork false v1 e = e

abbrev pub sealed_entry : Bool → Bool → BttEntry → BttEntry
sealed_entry framed few e = sealed_by framed e.work few e.v1 e

-- step 2, of a framed page: by whether it had few stores, whether it was written since it was last, and its place
abbrev pub page_sealed_by : Bool → Bool → Site → PttEntry → Option PttEntry
page_sealed_by true false AtHome page = None
page_sealed_by true written AtAlternate page =
    Some (record page { target = AtHome; busy = true; leaving = true; dirty = false; fresh = false })
page_sealed_by low true place page = Some (record page { target = other_site place; busy = true; dirty = false; fresh = false })
page_sealed_by low false place page = Some (record page { target = place; dirty = false; fresh = false })

abbrev pub sealed_frame : Bool → PttEntry → Option PttEntry
sealed_frame low page = page_sealed_by low (page.dirty || page.fresh) page.place page

-- a page's entry after a seal, which changes only the entry of a framed page
abbrev pub sealed_page : Bool → PttEntry → Option PttEntry
sealed_page low page = if is_framed page then sealed_frame low page else Some page

-- the place of an entry, or 0 if the entry was cleared
abbrev pub kept_index : {E : Type 0} → ℕ → Option E → ℕ
kept_index i None = 0
kept_index i (Some e) = i

-- a page's entry, or the entry of an unlisted page if it was cleared
abbrev pub page_or_none : ℕ → Option PttEntry → PttEntry
page_or_none page None = no_page page
page_or_none page (Some e) = e

-- a block after a seal
abbrev pub sealed : Bool → Bool → Cell → Cell
sealed few low c = record c {
  entry = sealed_entry (is_framed c.page) few c.entry;
  j = kept_index c.j (sealed_page low c.page);
  page = page_or_none c.page.page (sealed_page low c.page);
}

-- a block after its page was listed at an entry, to be promoted
abbrev pub with_listed : ℕ → Cell → Cell
with_listed j c = record c { j = j; page = promoted_page c.page.page }

-- A commit. It clears an entry if the new checkpoint does not have the block there and it has no work
abbrev pub committed_by : Version → Working → BttEntry → Option BttEntry
committed_by Out NoWork e = None
committed_by v1 work e = Some (record e { v0 = v1 })

abbrev pub committed_entry : BttEntry → Option BttEntry
committed_entry e = committed_by e.v1 e.work e

abbrev pub page_committed_by : Bool → PttEntry → Option PttEntry
page_committed_by true page = None
page_committed_by false page = Some (record page { place = page.target; issued = 0 })

abbrev pub committed_page : PttEntry → Option PttEntry
committed_page page = page_committed_by page.leaving page

-- a block's entry, or a new entry if that was cleared
abbrev pub entry_or_new : ℕ → Option BttEntry → BttEntry
entry_or_new b None = new_entry b
entry_or_new b (Some e) = e

-- a block after a commit
abbrev pub committed : Cell → Cell
committed c = record c {
  i = kept_index c.i (committed_entry c.entry);
  entry = entry_or_new c.entry.block (committed_entry c.entry);
  j = kept_index c.j (committed_page c.page);
  page = page_or_none c.page.page (committed_page c.page);
}

-- a block after its buffer was merged into its page's frame
abbrev pub merged : Cell → Cell
merged c = record c { i = 0; entry = new_entry c.entry.block; page = record c.page { dirty = true } }

-- a page after one more of its blocks was written out: with the last its frame is free again, unless the page leaves
abbrev pub page_issued : PttEntry → PttEntry
page_issued page = record page {
  issued = page.issued + 1;
  busy = page.leaving || not (page.issued + 1 == page_blocks);
}

-- a block after its page was stored to, one block more of it was copied into the frame, and one more was written out
abbrev pub with_dirty : Cell → Cell
with_dirty c = record c { page = record c.page { dirty = true } }

abbrev pub with_filled : Cell → Cell
with_filled c = record c { page = record c.page { filled = c.page.filled + 1 } }

abbrev pub with_issued : Cell → Cell
with_issued c = record c { page = page_issued c.page }

-- a block after a seal or a commit, which write no place: what each version reads as then
pub record Moves (reads : Place → Block) (c d : Cell) (penult_now last_now : Block) : Type 0 where
  pub penult_is : reads (penult d) ≡ penult_now
  pub last_is : reads (last d) ≡ last_now
  pub work_same : reads (work d) ≡ reads (work c)
  pub holds : Holds reads d

-- if its page is framed, the block has no work in a buffer
pub record IsBare (c : Cell) : Type 0 where
  pub no_overlay : is_framed c.page ≡ true → c.entry.work ≢ InBuffer

-- the block has nothing left to copy, and its page, if busy, is written out
pub record IsCopied (c : Cell) : Type 0 where
  pub copied : c.entry.pend ≡ Settled
  pub written : c.page.busy ≡ true → 64 ≤ c.page.issued

-- A seal: what was the work is the last version now, and the committed one stays
abbrev pub SealKeepsSound : Type 0
SealKeepsSound =
    (few low : Bool) (c : Cell) → IsSoundCell false c → IsWhole c.page → IsBare c → IsSoundCell true (sealed few low c)

abbrev pub SealMoves : Type 0
SealMoves =
    (few low : Bool) (c : Cell) (reads : Place → Block) → IsSoundCell false c → IsWhole c.page → IsBare c → Holds reads c
    → Moves reads c (sealed few low c) (reads (penult c)) (reads (work c))

-- a seal leaves no work
abbrev pub SealTakesWork : Type 0
SealTakesWork =
    (few low : Bool) (c : Cell) → IsSoundCell false c → IsBare c → (sealed few low c).entry.work ≡ NoWork

-- The listing of a page that is to be promoted keeps every version, if the block has no work
pub record ListsPage (under_way : Bool) (c d : Cell) : Type 0 where
  pub sound : IsSoundCell under_way d
  pub moves : (reads : Place → Block) → Moves reads c d (reads (penult c)) (reads (last c))

abbrev pub ListingKeeps : Type 0
ListingKeeps =
    (under_way : Bool) (j page : ℕ) (c : Cell)
    → IsSoundCell under_way c → c.page ≡ no_page page → c.entry.work ≡ NoWork
    → ListsPage under_way c (with_listed j c)

-- A commit: what was the last version is the committed one now
abbrev pub CommitKeepsSound : Type 0
CommitKeepsSound = (c : Cell) → IsSoundCell true c → IsCopied c → IsSoundCell false (committed c)

abbrev pub CommitMoves : Type 0
CommitMoves =
    (c : Cell) (reads : Place → Block) → IsSoundCell true c → IsCopied c → Holds reads c
    → Moves reads c (committed c) (reads (last c)) (reads (last c))
