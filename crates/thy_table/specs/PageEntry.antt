-- Part of the claim.
-- Entries of the page translation table, as they are made.
use Rattle.std.specs.Prelude.{ℕ, Bool, true, false, ◌==◌}
use Rattle.thy_table.specs.declared.page_entry.Site.{Site}
use Rattle.thy_table.specs.declared.page_entry.Site.TheVariants.{AtHome, AtAlternate}
use Rattle.thy_table.specs.declared.page_entry.PttEntry.{PttEntry}

-- how many blocks a page has
abbrev pub page_blocks : ℕ
page_blocks = 64

-- the other place
abbrev pub other_site : Site → Site
other_site AtHome = AtAlternate
other_site AtAlternate = AtHome

-- a page at a place, with an empty frame, and no copy or write under way
abbrev pub page_at : Site → ℕ → PttEntry
page_at site page = record {
  page = page;
  place = site;
  target = site;
  dirty = false;
  fresh = false;
  busy = false;
  leaving = false;
  filled = 0;
  issued = 0;
}

-- a page that no entry lists is at home
abbrev pub no_page : ℕ → PttEntry
no_page page = page_at AtHome page

-- the entry of a page that is to be copied into its frame, and was not yet written from there
abbrev pub promoted_page : ℕ → PttEntry
promoted_page page = record (page_at AtHome page) { fresh = true }

-- the entry of a page that the committed checkpoint has in the entry's alternate page: it counts as framed at once
abbrev pub listed_page : ℕ → PttEntry
listed_page page = record (page_at AtAlternate page) { filled = page_blocks }

-- an entry's frame holds the whole page
abbrev pub is_framed : PttEntry → Bool
is_framed e = e.filled == page_blocks
