-- Every item takes exactly one of the cycles that are left.
use Rattle.std.proofs.Common.{◌≡◌, ℕ, ◌+◌, ◌<◌, true, Option, Some, None, refl, ap, arith}
use Rattle.thy_layout.specs.declared.layout_version.LayoutVersion.{LayoutVersion}
use Rattle.thy_layout.proofs.ReadBackLemmas.{version_of-commit_of}
use Rattle.thy_table.specs.Places.{slot_blocks as blocks_of_two}
use Rattle.thy_record.specs.Number.{scheme_number}
use Rattle.thy_record.specs.VersionSlots.{blocks_of_slot}
use Rattle.thy_control.specs.Copies.{next_copy, copies_left}
use Rattle.thy_control.specs.Pages.{next_page, writes_left}
use Rattle.thy_control.specs.Positions.{position_by, next_position}
use Rattle.thy_control.specs.State.{State, AreSoundTables}
use Rattle.thy_control.proofs.CopyLemmas.{none_left}
use Rattle.thy_control.proofs.IssueLemmas.{writes_left-next}
use Rattle.thy_checkpoint.specs.declared.engine_stage.EngineStage.{EngineStage}
use Rattle.thy_checkpoint.specs.declared.engine_stage.EngineStage.TheVariants.{Idle, Body, InRound, Tail}
use Rattle.thy_computer.specs.declared.round.Round.{Round}
use Rattle.thy_computer.specs.declared.round.Round.TheVariants.{Write}
use Rattle.thy_computer.specs.Round.{IsInRound, round_left}
use Rattle.thy_computer.proofs.RoundLemmas.{next_by}
use Rattle.thy_checkpoint.specs.Cycles.{left_at}
use Rattle.thy_checkpoint.specs.Progress.{Progress, phase_of, slot_blocks, is_under_way, Item, RoundItem, body_or_slot, item, next_after, control_after}
use Rattle.thy_thynvm_parts.specs.Filling.{filling_thynvm}
use Rattle.thy_thynvm_parts.specs.Design.{StandsAt, items_thynvm}
use Rattle.thy_thynvm_parts.specs.Laws.{ItemsCount}
use Rattle.thy_thynvm_parts.proofs.ItemLemmas.{counts_by, some_device}

-- a slot has a block
some_slot : (e : Progress) → 0 < slot_blocks filling_thynvm e
some_slot e =
    let blocks : slot_blocks filling_thynvm e ≡ blocks_of_two e.p
    = ap (λ (v : LayoutVersion). blocks_of_slot v e.p) (version_of-commit_of scheme_number e.p e.epoch) in
    omega (arith, blocks)

-- with no position left, no copy is, and no block of a page
none_by : (s : State) → AreSoundTables s → (i j : Option ℕ) → next_copy s ≡ i → next_page s ≡ j → position_by s i j ≡ None
    → copies_left s + writes_left s ≡ 0
none_by s t None None copy page is =
    let pages = writes_left-next s (some_device s) t None page in omega (arith, none_left s copy, pages.0)
none_by s t i j copy page is = cc

module _ (e : Progress) (s : State) where
  -- what is left at a stage, and after an item
  abbrev left : EngineStage → State → ℕ
  left q t = left_at filling_thynvm items_thynvm e q t

  abbrev after : Item → ℕ
  after i = left (next_after filling_thynvm items_thynvm e i) (control_after items_thynvm i s)

  counts-round : (r : Round) → IsInRound (slot_blocks filling_thynvm e) r
      → after (RoundItem r) + 1 ≡ round_left (slot_blocks filling_thynvm e) r
  counts-round (Write k) inside =
      next_by (λ (q : Round). left (InRound q) s + 1 ≡ round_left (slot_blocks filling_thynvm e) (Write k)) k (slot_blocks filling_thynvm e)
      (λ more. omega (arith, more)) (λ last. omega (arith, last, inside))
  counts-round r inside = omega arith

  counts-body : (o : Option ℕ) → next_position s ≡ o → StandsAt true s
      → after (body_or_slot o) + 1 ≡ copies_left s + writes_left s + (slot_blocks filling_thynvm e + 3)
  counts-body None next at =
      let none = none_by s at.tables (next_copy s) (next_page s) refl refl next in
      let first = counts-round (Write 0) (some_slot e) in
      omega (arith, first, none)
  counts-body (Some k) next at = let one = counts_by s at (next_copy s) (next_page s) k refl refl next in omega (arith, one)

  counts : (q : EngineStage) → ((r : Round) → q ≡ InRound r → IsInRound (slot_blocks filling_thynvm e) r)
      → items_thynvm.stands (phase_of q) s → is_under_way q ≡ true
      → after (item items_thynvm q s) + 1 ≡ left q s
  counts Idle inside stands way = cc
  counts (Body from) inside stands way = let body = counts-body (next_position s) refl stands in omega (arith, body)
  counts (InRound r) inside stands way = let round = counts-round r (inside r refl) in omega (arith, round)
  counts (Tail from) inside stands way = absurd stands

pub items_count : ItemsCount
items_count e s fits way = counts e s e.stage fits.inside fits.stands way
