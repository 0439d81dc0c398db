-- A round, from action to action.
use Rattle.std.proofs.Common.{◌≡◌, ℕ, ◌+◌, ◌<◌, ◌≤◌, nat_lt, Bool, true, false, if◌then◌else◌, List, length, Option, Some, None, refl, sym, ◌∙◌, ap, subst, inl, inr, arith}
use Rattle.std.proofs.lemmas.Bool.{cases_eq, ltb-true, ltb-false}
use Rattle.thy_block.specs.declared.block.Block.{Block}
use Rattle.thy_block.specs.Device.{Device, IsOneWordApart, Settles, block_at, newest, drained, written_to, HasFailedToWrite}
use Rattle.thy_block.proofs.DeviceLemmas.{length-settled, newest-settled}
use Rattle.thy_layout.specs.Fixed.{Reads}
use Rattle.thy_layout.specs.Saved.{Kept, InDoubt, guarded, next_image}
use Rattle.thy_layout.proofs.FixedLemmas.{Reads-written, Reads-elsewhere, Reads-settled, Reads-drained}
use Rattle.thy_layout.proofs.SparesLemmas.{Spares-written, Spares-unsettled, Spares-failed_to_write}
use Rattle.thy_layout.specs.Layout.{looked_by}
use Rattle.thy_layout.proofs.AskingLemmas.{map-alike}
use Rattle.thy_computer.specs.Action.{IsLeftBy, IsBootAction}
use Rattle.thy_computer.specs.declared.round.Round.{Round}
use Rattle.thy_computer.specs.declared.round.Round.TheVariants.{Write, Settle, Commit, Confirm}
use Rattle.thy_computer.specs.Issuing.{CheckpointParts, ArePlaced, AreIssued}
use Rattle.thy_computer.specs.Moves.{Move, standing, Goes, Readies, Commits, Confirms}
use Rattle.thy_computer.specs.Round.{RoundWrites, IsInRound, round_action, next_round, round_left}
use Rattle.thy_computer.specs.Rounds.{saved_in, RoundsMove, FailedRoundsMove, AreApart, HasWritten, HasWrittenBefore, HasWrittenThen, slot_writes, AreIssuedBefore, AreIssuedThen}
use Rattle.thy_computer.proofs.IssuingLemmas.{slot_goes_on, elsewhere_keeps}

-- ---- what comes next

-- after a write the next one, if there is one more block, else the barrier
pub next_by : (P : Round → Type 0) (k blocks : ℕ) → (k + 1 < blocks → P (Write (k + 1))) → (blocks ≤ k + 1 → P Settle)
    → P (if nat_lt (k + 1) blocks then Write (k + 1) else Settle)
next_by P k blocks more last = by_more (nat_lt (k + 1) blocks) refl where
  by_more : (t : Bool) → nat_lt (k + 1) blocks ≡ t → P (if t then Write (k + 1) else Settle)
  by_more true e = more (ltb-true (k + 1) blocks e)
  by_more false e = last (ltb-false (k + 1) blocks e)

-- the next action of a round is in the round
pub next_inside : (blocks : ℕ) (r q : Round) → next_round blocks r ≡ Some q → IsInRound blocks q
next_inside blocks (Write k) q e =
    let same : (if nat_lt (k + 1) blocks then Write (k + 1) else Settle) ≡ q = cc in
    subst (λ (x : Round). IsInRound blocks x) same (next_by (λ (x : Round). IsInRound blocks x) k blocks (λ more. more) (λ last. tt))
next_inside blocks Settle q e = let same : Commit ≡ q = cc in subst (λ (x : Round). IsInRound blocks x) same tt
next_inside blocks Commit q e = let same : Confirm ≡ q = cc in subst (λ (x : Round). IsInRound blocks x) same tt
next_inside blocks Confirm q e = cc

-- one action less is left then
abbrev pub left_then : ℕ → Option Round → ℕ
left_then blocks (Some r) = round_left blocks r
left_then blocks None = 0

pub round_counts : (blocks : ℕ) (r : Round) → IsInRound blocks r → left_then blocks (next_round blocks r) + 1 ≤ round_left blocks r
round_counts blocks (Write k) inside =
    next_by (λ (q : Round). round_left blocks q + 1 ≤ round_left blocks (Write k)) k blocks (λ more. omega (arith, inside))
    (λ last. omega (arith, inside))
round_counts blocks Settle inside = omega arith
round_counts blocks Commit inside = omega arith
round_counts blocks Confirm inside = omega arith

pub round_most : (blocks : ℕ) (r : Round) → round_left blocks r ≤ blocks + 3
round_most blocks (Write k) = omega arith
round_most blocks Settle = omega arith
round_most blocks Commit = omega arith
round_most blocks Confirm = omega arith

-- an action may be taken in a boot
pub round_asks : (w : RoundWrites) (r : Round) → IsBootAction (round_action w r)
round_asks w (Write k) = tt
round_asks w Settle = tt
round_asks w Commit = tt
round_asks w Confirm = tt

-- ---- the checkpoints

pub rounds_move : RoundsMove
rounds_move o l m w (Write k) before next kept n new spared left =
    next_by (λ (q : Round). Move o l (standing n (Kept before) kept (Some m)) (standing new (saved_in q before next) kept (Some m)))
    k w.blocks (λ more. goes) (λ last. goes)
  where
    goes : Move o l (standing n (Kept before) kept (Some m)) (standing new (Kept before) kept (Some m))
    goes =
        Goes (Kept before) kept (Some m) n new
        (Spares-written (guarded (looked_by l) (Kept before)) (w.place k) (w.block k) n new spared left)
rounds_move o l m w Settle before next kept n new made left = Readies before (next_image n w.commit) kept m n new made.1 made.0 left
rounds_move o l m w Commit before next kept n new commit left =
    Commits before next kept m n new (subst (IsOneWordApart (block_at before 1)) (sym commit.0) commit.1)
    (inl (left ∙ ap (written_to n 1) (sym commit.0)))
rounds_move o l m w Confirm before next kept n new made left =
    Confirms before next kept m n new (subst (Reads n 1) (sym made.0) made.1) left

pub failed_rounds_move : FailedRoundsMove
failed_rounds_move o l m w (Write k) before next kept n new spared failed framed =
    Goes (Kept before) kept (Some m) n new
    (Spares-failed_to_write (guarded (looked_by l) (Kept before)) (w.place k) (w.block k) n new spared failed framed)
failed_rounds_move o l m w Settle before next kept n new made failed framed =
    Goes (Kept before) kept (Some m) n new (Spares-unsettled (guarded (looked_by l) (Kept before)) n new failed framed)
failed_rounds_move o l m w Commit before next kept n new commit failed framed =
    Commits before next kept m n new (subst (IsOneWordApart (block_at before 1)) (sym commit.0) commit.1)
    (inr (subst (λ (b : Block). HasFailedToWrite 1 b n new) (sym commit.0) failed, framed))
failed_rounds_move o l m w Confirm before next kept n new made failed framed =
    Goes (InDoubt before next) kept (Some m) n new (Spares-unsettled (guarded (looked_by l) (InDoubt before next)) n new failed framed)

-- ---- what was written

module _ (w : RoundWrites) where
  written_settled : (k : ℕ) (n new : Device) → Settles n new → HasWritten w k n → HasWritten w k new
  written_settled k n new e h = record { each = λ i l. Reads-settled (w.place i) (w.block i) n new (h.each i l) e }

  written_drained : (k : ℕ) (n : Device) → HasWritten w k n → HasWritten w k (drained n)
  written_drained k n h = record { each = λ i l. Reads-drained (w.place i) (w.block i) n (drained n) (h.each i l) refl }

  pub drain_keeps_written : (r : Round) (n : Device) → HasWrittenBefore w r n → HasWrittenBefore w r (drained n)
  drain_keeps_written (Write k) n h = written_drained k n h
  drain_keeps_written Settle n h = written_drained w.blocks n h
  drain_keeps_written Commit n h = written_drained w.blocks n h
  drain_keeps_written Confirm n h = (written_drained w.blocks n h.0, Reads-drained 1 w.commit n (drained n) h.1 refl)

  -- one block more of a round was written
  written_more : (image_blocks k : ℕ) (n new : Device) → AreApart image_blocks w → length n.image ≡ image_blocks → k < w.blocks
      → HasWritten w k n
      → new ≡ written_to n (w.place k) (w.block k) → HasWritten w (k + 1) new
  written_more image_blocks k n new apart sized low h left =
      let inside = apart.inside k low in
      record {
        each = λ i l. elim (cases_eq i k) as (λ _. Reads new (w.place i) (w.block i)) [
          | inl e ↦
              subst (λ (j : ℕ). Reads new (w.place j) (w.block j)) (sym e)
              (Reads-written (w.place k) (w.block k) n new (omega (arith, inside, sized)) left)
          | inr other ↦
              Reads-elsewhere (w.place i) (w.block i) (w.place k) (w.block k) n new (h.each i (omega arith))
              (λ e. let same = apart.once i k (omega (arith, low)) low e in omega arith) left
        ];
      }

  pub rounds_write : (image_blocks : ℕ) (r : Round) (n new : Device) → AreApart image_blocks w → length n.image ≡ image_blocks
      → IsInRound w.blocks r
      → HasWrittenBefore w r n → IsLeftBy (round_action w r) n new → HasWrittenThen w (next_round w.blocks r) new
  rounds_write image_blocks (Write k) n new apart sized low h left =
      let wrote : HasWritten w (k + 1) new = written_more image_blocks k n new apart sized low h left in
      next_by (λ (q : Round). IsInRound w.blocks q × HasWrittenBefore w q new) k w.blocks (λ more. (more, wrote))
      (λ last. let all : k + 1 ≡ w.blocks = omega (arith, low, last) in (tt, subst (λ (j : ℕ). HasWritten w j new) all wrote))
  rounds_write image_blocks Settle n new apart sized low h left = (tt, written_settled w.blocks n new left h)
  rounds_write image_blocks Commit n new apart sized low h left = (
    tt,
    (
      record { each = λ i l. Reads-elsewhere (w.place i) (w.block i) 1 w.commit n new (h.each i l) (apart.elsewhere i l) left },
      Reads-written 1 w.commit n new (omega (arith, apart.room, sized)) left,
    ),
  )
  rounds_write image_blocks Confirm n new apart sized low h left =
      (written_settled w.blocks n new left h.0, ap (λ (m : Device). m.queue) left)

-- ---- the slot of a checkpoint

module _ (image_blocks : ℕ) (parts : CheckpointParts) (commit : Block) (placed : ArePlaced image_blocks parts) where
  issued_settled : (k : ℕ) (n new : Device) (memory : List Block) → Settles n new → AreIssued image_blocks parts n memory k
      → AreIssued image_blocks parts new memory k
  issued_settled k n new memory e h = record {
    sized = ap (λ (m : Device). length m.image) e ∙ length-settled new.writes n ∙ h.sized;
    memory_is = map-alike (newest new) (newest n) parts.memory
        (λ x inside.
        let low = placed.memory_inside x inside in
        ap (λ (m : Device). newest m x) e ∙ newest-settled new.writes n x (omega (arith, low, h.sized)))
        ∙ h.memory_is;
    slot = record { each = λ i l. Reads-settled (parts.slot_place + i) (parts.slot i) n new (h.slot.each i l) e };
  }

  pub rounds_issue : (r : Round) (n new : Device) (memory : List Block) → IsInRound parts.slot_blocks r
      → AreIssuedBefore image_blocks parts commit r n memory
      → IsLeftBy (round_action (slot_writes parts commit) r) n new
      → AreIssuedThen image_blocks parts commit (next_round parts.slot_blocks r) new memory
  rounds_issue (Write k) n new memory low h left =
      let wrote : AreIssued image_blocks parts new memory (k + 1) = slot_goes_on image_blocks parts n new memory k placed h low left in
      next_by (λ (q : Round). IsInRound parts.slot_blocks q × AreIssuedBefore image_blocks parts commit q new memory) k parts.slot_blocks
      (λ more. (more, wrote))
      (λ last.
      let all : k + 1 ≡ parts.slot_blocks = omega (arith, low, last) in
      (tt, subst (λ (j : ℕ). AreIssued image_blocks parts new memory j) all wrote))
  rounds_issue Settle n new memory low h left = (tt, issued_settled parts.slot_blocks n new memory left h)
  rounds_issue Commit n new memory low h left = (
    tt,
    (
      elsewhere_keeps image_blocks parts n new memory parts.slot_blocks placed h 1 commit (omega arith)
          (record {
            no_slot = λ i l e. omega (arith, placed.slot_behind, e);
            no_memory = λ inside. let behind = placed.memory_behind 1 inside in omega (arith, behind);
          })
          left,
      Reads-written 1 commit n new (omega (arith, placed.slot_behind, placed.slot_inside, h.sized)) left,
    ),
  )
  rounds_issue Confirm n new memory low h left = issued_settled parts.slot_blocks n new memory left h.0

-- what says the same of each number of blocks says it before each action
pub issued_over : (image_blocks : ℕ) (a b : CheckpointParts) (commit : Block) (r : Round) (n m : Device) (old new : List Block)
    → a.slot_blocks ≡ b.slot_blocks → IsInRound a.slot_blocks r
    → ((k : ℕ) → k ≤ a.slot_blocks → AreIssued image_blocks a n old k → AreIssued image_blocks b m new k)
    → (Reads n 1 commit → Reads m 1 commit)
    → AreIssuedBefore image_blocks a commit r n old → AreIssuedBefore image_blocks b commit r m new
issued_over image_blocks a b commit (Write k) n m old new as_many low over read h = over k (omega (arith, low)) h
issued_over image_blocks a b commit Settle n m old new as_many low over read h =
    subst (λ (k : ℕ). AreIssued image_blocks b m new k) as_many (over a.slot_blocks (omega arith) h)
issued_over image_blocks a b commit Commit n m old new as_many low over read h =
    subst (λ (k : ℕ). AreIssued image_blocks b m new k) as_many (over a.slot_blocks (omega arith) h)
issued_over image_blocks a b commit Confirm n m old new as_many low over read h =
    (subst (λ (k : ℕ). AreIssued image_blocks b m new k) as_many (over a.slot_blocks (omega arith) h.0), read h.1)
