-- The entries at which the next searches of the tables start: no entry below has what is looked for.
use Rattle.std.specs.Prelude.{◌≡◌, ℕ, ◌<◌, Bool, false, ◌≤◌, true}
use Rattle.thy_table.specs.Listing.{Listing, entry_at, passes}
use Rattle.thy_table.specs.declared.block_entry.BttEntry.{BttEntry}
use Rattle.thy_table.specs.declared.page_entry.PttEntry.{PttEntry}
use Rattle.thy_control.specs.State.{State, AreSoundTables}
use Rattle.thy_control.specs.Copies.{needs_copy}
use Rattle.thy_control.specs.Pages.{needs_write}
use Rattle.thy_control.specs.Holding.{is_promoted}
use Rattle.thy_control.specs.Overlay.{is_overlaid, AreWorkCounts}
use Rattle.thy_control.specs.declared.overlay.WorkCounts.{WorkCounts}
use Rattle.thy_control.specs.declared.cursors.Cursors.{Cursors}
use Rattle.thy_table.specs.PageEntry.{is_framed}
use Rattle.thy_table.specs.declared.cell.Cell.{Cell}
use Rattle.thy_table.specs.declared.cell.StoreRule.{StoreRule}
use Rattle.thy_table.specs.declared.cell.StoreRule.TheVariants.{ToBuffer}

-- no entry below a place passes a test
abbrev pub NoneBelow : {E : Type 0} → (E → Bool) → ℕ → Listing E → Type 0
NoneBelow test place t = (k : ℕ) → k < place → passes test (entry_at t k) ≡ false

-- no entry below the place at which a search starts passes the test of that search
pub record AreCursors (pages : Listing PttEntry) (blocks : Listing BttEntry) (c : Cursors) : Type 0 where
  pub copies : NoneBelow needs_copy c.copies blocks
  pub writes : NoneBelow needs_write c.writes pages
  pub merges : NoneBelow (is_overlaid pages) c.merges blocks
  pub promotions : NoneBelow is_promoted c.promotions pages

-- what holds of the controller at every moment
pub record IsControl (s : State) (m : WorkCounts) (c : Cursors) : Type 0 where
  pub tables : AreSoundTables s
  pub marks : AreWorkCounts s.ptt s.btt m
  pub cursors : AreCursors s.ptt s.btt c

-- after a store by a rule the places are as before, but that a buffer over a frame has to be merged
pub record AreLowered (r : StoreRule) (c : Cell) (old new : Cursors) : Type 0 where
  pub copies : new.copies ≡ old.copies
  pub writes : new.writes ≡ old.writes
  pub promotions : new.promotions ≡ old.promotions
  pub merges : new.merges ≤ old.merges
  pub buffer : r ≡ ToBuffer → is_framed c.page ≡ true → new.merges ≤ c.i
