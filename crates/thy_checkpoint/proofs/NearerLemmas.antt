-- Each step leaves fewer actions.
use Rattle.std.proofs.Common.{◌≡◌, ℕ, ◌+◌, ◌-◌, ◌<◌, ◌≤◌, ◌==◌, ◌&&◌, Bool, true, false, if◌then◌else◌, refl, arith, Option, Some, None}
use Rattle.thy_block.specs.declared.block.Block.{Block}
use Rattle.thy_layout.specs.declared.bad_image.BadImage.{BadImage}
use Rattle.thy_layout.specs.declared.layout_version.LayoutVersion.{LayoutVersion}
use Rattle.thy_layout.specs.declared.layout_version.LayoutVersion.TheVariants.{VersionOne, VersionTwo}
use Rattle.thy_layout.specs.Commit.{is_zero, commit_magic, commit_of}
use Rattle.thy_layout.specs.Header.{knows_version_one}
use Rattle.thy_block.specs.Words.{word_of}
use Rattle.thy_checkpoint.specs.declared.boot_stage.Stage.{Stage}
use Rattle.thy_checkpoint.specs.declared.boot_stage.Stage.TheVariants.{Reads, Loads, Migrates}
use Rattle.thy_checkpoint.specs.declared.boot_stage.ReadStage.TheVariants.{Unread, Header, Slot, Fills}
use Rattle.thy_computer.specs.declared.round.Round.TheVariants.{Write}
use Rattle.thy_computer.specs.Round.{round_left}
use Rattle.thy_computer.proofs.RoundLemmas.{round_most}
use Rattle.thy_checkpoint.specs.Boot.{Booting, layout_in, slot_read, slot_fault, version_in, at_stage, refusing_or, after_commit, head_fault, after_header, after_slot, filled_by, filling_or, filling_from, has_more, gone_on}
use Rattle.thy_checkpoint.specs.Filling.{FillingOf, IsFilling, anew}
use Rattle.thy_checkpoint.specs.Left.{migration_by, numbers_of, reads_left, boot_left}
use Rattle.thy_checkpoint.specs.Recovers.{IsNearer}

-- a migration that follows is none but one of those that may
few_by : (known word : Bool) (slot most : ℕ) → slot ≤ most
    → migration_by (if word && known then VersionOne else VersionTwo) slot ≤ (if known then round_left most (Write 0) else 0)
few_by true true slot most below = omega (arith, below)
few_by true false slot most below = omega arith
few_by false true slot most below = omega arith
few_by false false slot most below = omega arith

module _ {C : Type 0} (F : FillingOf C) (laws : IsFilling F) where
  room : (b : Booting) → (layout_in F b).slot_blocks b.commit ≤ (layout_in F b).most_slot
  room b = (laws.laid.slot b.p b.commit).most

  room_anew : (b : Booting) → (layout_in F b).slot_blocks (anew b.commit) ≤ (layout_in F b).most_slot
  room_anew b = (laws.laid.slot b.p (anew b.commit)).most

  room_first : (b : Booting) → (layout_in F b).slot_blocks (commit_of 0) ≤ (layout_in F b).most_slot
  room_first b = (laws.laid.slot b.p (commit_of 0)).most

  few : (b : Booting) → (numbers_of F b).migration ≤ (numbers_of F b).most_migration
  few b =
      few_by (knows_version_one (layout_in F b).scheme b.p) (word_of b.commit 0 == commit_magic VersionOne)
      ((layout_in F b).slot_blocks (anew b.commit)) (layout_in F b).most_slot (room_anew b)

  pub nearer_commit : (b : Booting) (block : Block) → IsNearer F b Unread (after_commit block b)
  nearer_commit b block = by_test (is_zero block) where
    by_test : (z : Bool) → boot_left F (after_commit block b) (if z then Loads (Write 0) else Reads Header) < reads_left F b Unread
    by_test true = omega (arith, room_first b)
    by_test false = omega (arith, few (after_commit block b))

  pub nearer_header : (b : Booting) (block : Block) → IsNearer F b Header (at_stage (after_header (layout_in F b) block b) b)
  nearer_header b block = by_fault (head_fault (layout_in F b) block b.commit) where
    by_fault : (o : Option BadImage)
        → boot_left F (at_stage (after_header (layout_in F b) block b) b) (refusing_or o (Reads (Slot 0))) < reads_left F b Header
    by_fault None = omega (arith, room b)
    by_fault (Some bad) = omega arith

  -- what is left with all filled
  filled_left : (b : Booting) (v : LayoutVersion)
      → boot_left F b (filled_by v) ≤ migration_by v ((layout_in F b).slot_blocks (anew b.commit))
  filled_left b VersionOne = omega arith
  filled_left b VersionTwo = omega arith

  -- a boot that fills from a position on has at most the positions from there on, and the migration, left
  nearer_next : (b : Booting) (from : ℕ) → boot_left F b (filling_from F from b) ≤ F.most_fills b.p - from + (numbers_of F b).migration
  nearer_next b from = by_next (F.next_fill b.p b.commit (slot_read F b) from) refl where
    by_next : (o : Option ℕ) → F.next_fill b.p b.commit (slot_read F b) from ≡ o
        → boot_left F b (filling_or (version_in F b) o) ≤ F.most_fills b.p - from + (numbers_of F b).migration
    by_next None e = omega (arith, filled_left b (version_in F b))
    by_next (Some k) e = let above = laws.above b.p b.commit (slot_read F b) from k e in omega (arith, above.0)

  pub nearer_slot : (b : Booting) (k : ℕ) → k < (layout_in F b).slot_blocks b.commit
      → boot_left F (gone_on F k b) (gone_on F k b).stage < reads_left F b (Slot k)
  nearer_slot b k inside = by_test (has_more F k b) where
    by_fault : (o : Option BadImage) → boot_left F (gone_on F k b) (refusing_or o (filling_from F 0 b)) < reads_left F b (Slot k)
    by_fault None =
        let less : boot_left F (gone_on F k b) (filling_from F 0 b) ≤ F.most_fills b.p - 0 + (numbers_of F b).migration = nearer_next b 0 in
        omega (arith, inside, less)
    by_fault (Some bad) = omega (arith, inside)

    by_test : (z : Bool) → boot_left F (gone_on F k b) (if z then Reads (Slot (k + 1)) else after_slot F b) < reads_left F b (Slot k)
    by_test true = omega (arith, inside)
    by_test false = by_fault (slot_fault F b)

  pub nearer_fill : (b : Booting) (k : ℕ) → k < F.most_fills b.p → IsNearer F b (Fills k) (at_stage (filling_from F (k + 1) b) b)
  nearer_fill b k inside =
      let less : boot_left F (at_stage (filling_from F (k + 1) b) b) (filling_from F (k + 1) b)
      ≤ F.most_fills b.p - (k + 1) + (numbers_of F b).migration
      = nearer_next b (k + 1) in
      omega (arith, inside, less)

  -- no stage has more left than the first
  pub left_most : (b : Booting) (q : Stage) → boot_left F b q ≤ boot_left F b (Reads Unread)
  left_most b (Reads Header) = omega (arith, few b)
  left_most b (Reads (Slot next)) = omega (arith, room b, few b)
  left_most b (Reads (Fills k)) = omega (arith, few b)
  left_most b (Loads r) = omega (arith, round_most (numbers_of F b).first r, room_first b)
  left_most b (Migrates r) = omega (arith, round_most (numbers_of F b).anew r, room_anew b)
  left_most b q = omega arith
