-- An entry that a commit leaves lists the number that it listed, as a rule over a table has to show.
use Rattle.std.specs.Prelude.{◌≡◌, Bool, true, false, Some}
use Rattle.std.proofs.Common.{sym, ap}
use Rattle.thy_table.specs.declared.block_entry.BttEntry.{BttEntry}
use Rattle.thy_table.specs.declared.block_entry.Version.{Version}
use Rattle.thy_table.specs.declared.block_entry.Version.TheVariants.{Out}
use Rattle.thy_table.specs.declared.block_entry.Working.{Working}
use Rattle.thy_table.specs.declared.block_entry.Working.TheVariants.{NoWork}
use Rattle.thy_table.specs.declared.page_entry.PttEntry.{PttEntry}
use Rattle.thy_table.specs.Checkpoint.{committed_by, committed_entry, page_committed_by, committed_page}
use Rattle.thy_control.specs.Keys.{block_key, page_key}

moved : (e f : BttEntry) (v : Version) → Some (record e { v0 = v }) ≡ Some f → block_key f ≡ block_key e
moved e f v h = let same : record e { v0 = v } ≡ f = cc in sym (ap block_key same)

committed_by-block : (v : Version) (w : Working) (e f : BttEntry) → committed_by v w e ≡ Some f
    → block_key f ≡ block_key e
committed_by-block Out NoWork e f h = cc
committed_by-block v w e f h = moved e f v h

pub committed_entry-block : (e f : BttEntry) → committed_entry e ≡ Some f → block_key f ≡ block_key e
committed_entry-block e f h = committed_by-block e.v1 e.work e f h

committed_by-page : (leaving : Bool) (e f : PttEntry) → page_committed_by leaving e ≡ Some f
    → page_key f ≡ page_key e
committed_by-page true e f h = cc
committed_by-page false e f h =
    let same : record e { place = e.target; issued = 0 } ≡ f = cc in sym (ap page_key same)

pub committed_page-page : (e f : PttEntry) → committed_page e ≡ Some f → page_key f ≡ page_key e
committed_page-page e f h = committed_by-page e.leaving e f h
