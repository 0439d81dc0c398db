-- The laws of the rules of one block.
use Rattle.std.proofs.Common.{rules}
use Rattle.thy_table.specs.BetweenCheckpoints.{MergeKeeps, DirtyKeeps, PromotionKeeps, PromotionKeepsOthers, CopyKeeps, PageWriteKeeps, PageWriteKeepsOthers}
use Rattle.thy_table.specs.Store.{StoreGoesElsewhere, StoreLeavesTarget, StoreReads, StoreHolds}
use Rattle.thy_table.specs.Checkpoint.{SealKeepsSound, SealMoves, SealTakesWork, ListingKeeps, CommitKeepsSound, CommitMoves}

pub copy_keeps : CopyKeeps
copy_keeps = search rules

pub page_write_keeps : PageWriteKeeps
page_write_keeps = search rules

pub page_write_keeps_others : PageWriteKeepsOthers
page_write_keeps_others = search rules

pub commit_keeps_sound : CommitKeepsSound
commit_keeps_sound = search rules

pub commit_moves : CommitMoves
commit_moves = search rules

pub seal_moves : SealMoves
seal_moves = search rules

pub seal_takes : SealTakesWork
seal_takes = search rules

pub listing_keeps : ListingKeeps
listing_keeps = search rules

pub merge_keeps : MergeKeeps
merge_keeps = search rules

pub dirty_keeps : DirtyKeeps
dirty_keeps = search rules

pub promotion_keeps : PromotionKeeps
promotion_keeps = search rules

pub promotion_keeps_others : PromotionKeepsOthers
promotion_keeps_others = search rules

pub seal_keeps_sound : SealKeepsSound
seal_keeps_sound few low c s whole bare = record {
  of_page = search rules;
  apart0 = search rules;
  apart1 = search rules;
  one = search rules;
  in_nvm_free = search rules;
  in_nvm_bare = search rules;
  pending_moves = search rules;
  pending_home = search rules;
  pending_still = search rules;
  one_buffer = search rules;
  fresh_idle = search rules;
  framed_out = search rules;
}

pub store_goes_elsewhere : StoreGoesElsewhere
store_goes_elsewhere = search rules

pub store_leaves_target : StoreLeavesTarget
store_leaves_target = search rules

pub store_reads : StoreReads
store_reads = search rules

pub store_holds : StoreHolds
store_holds = search rules
