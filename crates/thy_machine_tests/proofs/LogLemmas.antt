-- What boots, calls and cuts of the least memory leave.
use Rattle.std.proofs.Common.{◌≡◌, ℕ, ◌-◌, ◌*◌, ◌<◌, false, [], length, Option, None, refl, sym, ◌∙◌, ap, subst}
use Rattle.std.proofs.lemmas.List.{length-replicate}
use Rattle.thy_block.specs.declared.block.Block.{Block}
use Rattle.thy_block.specs.declared.parameters.Parameters.{Parameters}
use Rattle.thy_block.specs.Device.{Device, IsCut, IsFramed}
use Rattle.thy_block.specs.Places.{dram_blocks}
use Rattle.thy_block.proofs.BasicLemmas.{get_or-replicate_any, room-cut}
use Rattle.thy_dram.specs.Contents.{Contents, lost}
use Rattle.thy_dram.proofs.DrawLemmas.{length-over}
use Rattle.thy_isa.specs.Step.{State as Plain}
use Rattle.thy_computer.specs.Action.{IsAfter}
use Rattle.thy_computer.proofs.ActionLemmas.{down-after}
use Rattle.thy_checkpoint.specs.declared.boot_stage.Stage.{Stage}
use Rattle.thy_checkpoint.specs.declared.boot_stage.Stage.TheVariants.{Reads, Loads, Migrates, Over}
use Rattle.thy_checkpoint.specs.Boot.{Booting, new_boot}
use Rattle.thy_checkpoint.specs.Filling.{first_by}
use Rattle.thy_checkpoint.specs.Loads.{first_writes}
use Rattle.thy_checkpoint.specs.Migrating.{renewing}
use Rattle.thy_computer.specs.declared.round.Round.TheVariants.{Write, Settle, Commit, Confirm}
use Rattle.thy_computer.specs.Round.{round_action}
use Rattle.thy_checkpoint.specs.Start.{CanStart}
use Rattle.thy_checkpoint.specs.Steps.{Steps, StepsAt}
use Rattle.thy_checkpoint.proofs.ReadLemmas.{HasRead-new}
use Rattle.thy_images.specs.JournalPlaces.{slot_blocks, image_blocks}
use Rattle.thy_journal_parts.specs.declared.entry.Listed.{Listed}
use Rattle.thy_checkpoint.specs.Progress.{Progress, Fits, Item, NoItem, BodyItem, RoundItem, TailItem, ReleaseItem, control_after, control_next, action_next, item_of}
use Rattle.thy_journal_parts.specs.Design.{items_journal}
use Rattle.thy_block.specs.Geometry.{memory_blocks}
use Rattle.thy_journal_parts.specs.State.{State, IsSoundState, new_state}
use Rattle.thy_journal_parts.specs.Stores.{after_store}
use Rattle.thy_journal_parts.specs.Filling.{filling_journal}
use Rattle.thy_machine_tests.specs.Least.{all, HasRoom, off}
use Rattle.thy_machine_tests.specs.LogParts.{IsOff, IsBegun, Boots, parts, AreParts}
use Rattle.thy_machine_tests.proofs.LeastLemmas.{HasRoom-framed}

-- ---- steps of the boot

-- a step leaves the NVM up or down as it was, and the geometry
pub down-step : (s : Plain) (n : Device) (b : Booting) (c : State) (m : Device) (d : Booting) (e : State)
    → Steps filling_journal s n b c m d e → m.down ≡ n.down
down-step s n b c m d e steps = by_stage b.stage steps where
  by_stage : (q : Stage) → StepsAt filling_journal q s n b c m d e → m.down ≡ n.down
  by_stage (Reads r) on = ap (λ (x : Device). x.down) on.device
  by_stage (Loads r) on = down-after (round_action (first_writes (first_by filling_journal b.p s)) r) n m on.device
  by_stage (Migrates r) on = down-after (round_action (renewing filling_journal b) r) n m on.device
  by_stage (Over end) on = absurd on

pub same-step : (s : Plain) (n : Device) (b : Booting) (c : State) (m : Device) (d : Booting) (e : State)
    → c.p ≡ b.p → Steps filling_journal s n b c m d e → e.p ≡ c.p
same-step s n b c m d e same steps = by_stage b.stage steps where
  by_stage : (q : Stage) → StepsAt filling_journal q s n b c m d e → e.p ≡ c.p
  by_stage (Reads r) on = on.read.same_p ∙ on.same_p ∙ sym same
  by_stage (Loads r) on = ap (λ (x : State). x.p) on.control
  by_stage (Migrates r) on = ap (λ (x : State). x.p) on.control
  by_stage (Over end) on = absurd on

-- ---- where it begins

-- a machine whose power comes on boots
pub Boots-new : (p : Parameters) (s : Plain) (dram : Contents) (n : Device) → CanStart p s → IsSoundState (new_state p dram)
    → length n.image ≡ image_blocks p → n.queue ≡ [] → n.down ≡ false → Boots s n (new_boot filling_journal p) (new_state p dram)
Boots-new p s dram n start state sized settled up = record {
  start = start;
  up = up;
  same_p = refl;
  fits = record { room = length-replicate (64 * slot_blocks p) 0; there = tt };
  may = HasRead-new filling_journal p n (new_state p dram) (record { state = state; free = λ i. get_or-replicate_any {A = Option Listed} p.btt i None }) refl sized settled;
}

pub Boots-of : (p : Parameters) (s : Plain) (dram : Contents) (n : Device) (b : Booting) (c : State) → CanStart p s
    → b ≡ new_boot filling_journal p → c ≡ new_state p dram → IsSoundState c → length n.image ≡ image_blocks p → n.queue ≡ []
    → n.down ≡ false → Boots s n b c
Boots-of p s dram n b c start b_is c_is state sized settled up =
    subst (λ (x : Booting). Boots s n x c) (sym b_is)
    (subst (λ (x : State). Boots s n (new_boot filling_journal p) x) (sym c_is)
    (Boots-new p s dram n start (subst (λ (x : State). IsSoundState x) c_is state) sized settled up))

-- ---- after the boot

-- after a boot the parts are of one geometry, and the NVM is up
pub AreParts-begun : (p : Parameters) (s : State) (e : Progress) (n : Device) (cuts : ℕ) → s.p ≡ p → IsSoundState s → IsBegun p e → memory_blocks p ≡ all
    → length n.image ≡ image_blocks p → n.down ≡ false → HasRoom n cuts → AreParts (parts p s e n cuts)
AreParts-begun p s e n cuts log sound begun blocks sized up room = record {
  log_p = log;
  fits = record { same_p = log ∙ sym begun.same_p; inside = λ r is. absurd (begun.no_round r is); stands = sound };
  blocks = blocks;
  sized = sized;
  up = up;
  room = room;
}

-- a store leaves the geometry
pub p_stored : (b : ℕ) (block : Block) (s : State) → (after_store b block s).p ≡ s.p
unfolding after_store
p_stored b block s = refl

-- calls that leave the engine and the geometry, and the NVM up, leave parts of one geometry
pub AreParts-on : (p : Parameters) (s t : State) (e : Progress) (m n : Device) (cuts : ℕ) → AreParts (parts p s e m cuts)
    → t.p ≡ s.p → IsSoundState t → n.down ≡ m.down → IsFramed m n → AreParts (parts p t e n cuts)
AreParts-on p s t e m n cuts w log sound down frame = record {
  log_p = log ∙ w.log_p;
  fits = record { same_p = log ∙ w.fits.same_p; inside = w.fits.inside; stands = sound };
  blocks = w.blocks;
  sized = frame.blocks ∙ w.sized;
  up = down ∙ w.up;
  room = HasRoom-framed m n cuts w.room frame;
}

same-item : (i : Item) (s : State) → (control_after items_journal i s).p ≡ s.p
same-item NoItem s = refl
same-item (BodyItem k) s = refl
same-item (RoundItem (Write k)) s = refl
same-item (RoundItem Settle) s = refl
same-item (RoundItem Commit) s = refl
same-item (RoundItem Confirm) s = refl
same-item (TailItem k) s = refl
same-item ReleaseItem s = refl

-- an action of the engine leaves parts of one geometry
pub AreParts-item : (p : Parameters) (s t : State) (e f : Progress) (m n : Device) (cuts : ℕ) → AreParts (parts p s e m cuts)
    → t ≡ control_next items_journal e s → Fits filling_journal items_journal f t → IsAfter (action_next filling_journal items_journal e s m) m n → IsFramed m n
    → AreParts (parts p t f n cuts)
AreParts-item p s t e f m n cuts w log fits device frame = record {
  log_p = ap (λ (x : State). x.p) log ∙ same-item (item_of items_journal e s) s ∙ w.log_p;
  fits = fits;
  blocks = w.blocks;
  sized = frame.blocks ∙ w.sized;
  up = down-after (action_next filling_journal items_journal e s m) m n device ∙ w.up;
  room = HasRoom-framed m n cuts w.room frame;
}

-- ---- cuts

-- a cut leaves both devices with their sizes, and room for one cut less
pub IsOff-cut : (p : Parameters) (s : State) (e : Progress) (m n : Device) (pick : ℕ) (dram : Contents) (cuts : ℕ)
    → IsSoundState s → AreParts (parts p s e m cuts) → IsCut pick m n → dram ≡ lost s.dram pick → 0 < cuts
    → IsOff (off p dram n (cuts - 1))
IsOff-cut p s e m n pick dram cuts state w cut is some = record {
  blocks = w.blocks;
  dram = ap (λ (x : Contents). length x.blocks) is ∙ length-over pick s.dram.blocks ∙ state.dram_size ∙ ap dram_blocks w.log_p;
  sized = cut.crash.same_length ∙ w.sized;
  settled = ap (λ (x : Device). x.queue) cut.device;
  up = ap (λ (x : Device). x.down) cut.device;
  room = subst (λ (x : Device). HasRoom x (cuts - 1)) (sym cut.device) (room-cut m.left n.image m.left_room cuts w.room some);
}
