-- What boots, calls and cuts of the least memory leave.
use Rattle.std.proofs.Common.{◌≡◌, ℕ, ◌-◌, ◌*◌, ◌<◌, false, [], length, refl, sym, ◌∙◌, ap, subst}
use Rattle.std.proofs.lemmas.List.{length-replicate}
use Rattle.thy_block.specs.declared.block.Block.{Block}
use Rattle.thy_block.specs.declared.parameters.Parameters.{Parameters}
use Rattle.thy_block.specs.Device.{Device, IsCut, IsFramed}
use Rattle.thy_block.specs.Geometry.{memory_blocks}
use Rattle.thy_block.specs.Places.{dram_blocks}
use Rattle.thy_block.proofs.BasicLemmas.{room-cut}
use Rattle.thy_dram.specs.Contents.{Contents, lost}
use Rattle.thy_dram.proofs.DrawLemmas.{length-over}
use Rattle.thy_isa.specs.declared.state.CpuState.{CpuState}
use Rattle.thy_isa.specs.Step.{State as Plain}
use Rattle.thy_computer.specs.Action.{IsAfter}
use Rattle.thy_computer.proofs.ActionLemmas.{down-after}
use Rattle.thy_checkpoint.specs.declared.boot_stage.Stage.{Stage}
use Rattle.thy_checkpoint.specs.declared.boot_stage.Stage.TheVariants.{Reads, Loads, Migrates, Over}
use Rattle.thy_checkpoint.specs.Boot.{Booting, new_boot}
use Rattle.thy_checkpoint.specs.Filling.{first_by}
use Rattle.thy_checkpoint.specs.Loads.{first_writes}
use Rattle.thy_checkpoint.specs.Migrating.{renewing}
use Rattle.thy_computer.specs.declared.round.Round.TheVariants.{Write, Settle, Commit, Confirm}
use Rattle.thy_computer.specs.Round.{round_action}
use Rattle.thy_checkpoint.specs.Start.{CanStart}
use Rattle.thy_checkpoint.specs.Steps.{Steps, StepsAt}
use Rattle.thy_checkpoint.proofs.ReadLemmas.{HasRead-new}
use Rattle.thy_images.specs.ShadowPlaces.{slot_blocks, image_blocks}
use Rattle.thy_checkpoint.specs.declared.engine_stage.EngineStage.{EngineStage}
use Rattle.thy_checkpoint.specs.declared.engine_stage.EngineStage.TheVariants.{Idle, Body, InRound, Tail}
use Rattle.thy_checkpoint.specs.Progress.{Progress, Fits, Item, NoItem, BodyItem, RoundItem, TailItem, ReleaseItem, new_engine, begun, is_under_way, phase_of, control_after, control_next, action_next, item_of}
use Rattle.thy_shadow_parts.specs.Commit.{sealed_state}
use Rattle.thy_shadow_parts.specs.State.{State, IsSoundState}
use Rattle.thy_shadow_parts.specs.Stores.{StoreCase, Into, Fill, Copy, store_case, after_case, after_store, after_drain, new_state}
use Rattle.thy_table.proofs.ListingLaws.{entry_at-empty}
use Rattle.thy_shadow_parts.specs.Filling.{filling_shadow}
use Rattle.thy_shadow_parts.specs.Design.{items_shadow, stands_at}
use Rattle.thy_shadow_parts.proofs.DesignLemmas.{stands_drained}
use Rattle.thy_shadow_parts.proofs.PartsLemmas.{first_committed}
use Rattle.thy_machine_tests.specs.Least.{all, HasRoom, off}
use Rattle.thy_machine_tests.specs.PoolParts.{IsOff, Boots, parts, AreParts}
use Rattle.thy_machine_tests.proofs.LeastLemmas.{HasRoom-framed}

-- ---- steps of the boot

-- a step leaves the NVM up or down as it was, and the geometry
pub down-step : (s : Plain) (n : Device) (b : Booting) (c : State) (m : Device) (d : Booting) (e : State)
    → Steps filling_shadow s n b c m d e → m.down ≡ n.down
down-step s n b c m d e steps = by_stage b.stage steps where
  by_stage : (q : Stage) → StepsAt filling_shadow q s n b c m d e → m.down ≡ n.down
  by_stage (Reads r) on = ap (λ (x : Device). x.down) on.device
  by_stage (Loads r) on = down-after (round_action (first_writes (first_by filling_shadow b.p s)) r) n m on.device
  by_stage (Migrates r) on = down-after (round_action (renewing filling_shadow b) r) n m on.device
  by_stage (Over end) on = absurd on

pub same-step : (s : Plain) (n : Device) (b : Booting) (c : State) (m : Device) (d : Booting) (e : State)
    → c.p ≡ b.p → Steps filling_shadow s n b c m d e → e.p ≡ c.p
same-step s n b c m d e same steps = by_stage b.stage steps where
  by_stage : (q : Stage) → StepsAt filling_shadow q s n b c m d e → e.p ≡ c.p
  by_stage (Reads r) on = on.read.same_p ∙ on.same_p ∙ sym same
  by_stage (Loads r) on = ap (λ (x : State). x.p) on.control
  by_stage (Migrates r) on = ap (λ (x : State). x.p) on.control
  by_stage (Over end) on = absurd on

-- ---- where it begins

-- a machine whose power comes on boots
pub Boots-new : (p : Parameters) (s : Plain) (dram : Contents) (n : Device) → CanStart p s → IsSoundState (new_state p dram)
    → length n.image ≡ image_blocks p → n.queue ≡ [] → n.down ≡ false → Boots s n (new_boot filling_shadow p) (new_state p dram)
Boots-new p s dram n start state sized settled up = record {
  start = start;
  up = up;
  same_p = refl;
  fits = record { room = length-replicate (64 * slot_blocks p) 0; there = tt };
  may = HasRead-new filling_shadow p n (new_state p dram) (record {
    unframed = record { state = state; free = entry_at-empty p.ptt p.pages; unbegun = refl };
    first = first_committed p dram state;
  }) refl sized settled;
}

pub Boots-of : (p : Parameters) (s : Plain) (dram : Contents) (n : Device) (b : Booting) (c : State) → CanStart p s
    → b ≡ new_boot filling_shadow p → c ≡ new_state p dram → IsSoundState c → length n.image ≡ image_blocks p → n.queue ≡ []
    → n.down ≡ false → Boots s n b c
Boots-of p s dram n b c start b_is c_is state sized settled up =
    subst (λ (x : Booting). Boots s n x c) (sym b_is)
    (subst (λ (x : State). Boots s n (new_boot filling_shadow p) x) (sym c_is)
    (Boots-new p s dram n start (subst (λ (x : State). IsSoundState x) c_is state) sized settled up))

-- ---- after the boot

-- after a boot the parts are of one geometry, and the NVM is up
pub AreParts-begun : (p : Parameters) (s : State) (e : Progress) (n : Device) (cuts : ℕ) → s.p ≡ p → IsSoundState s → e ≡ new_engine p → memory_blocks p ≡ all
    → length n.image ≡ image_blocks p → n.down ≡ false → HasRoom n cuts → AreParts (parts p s e n cuts)
AreParts-begun p s e n cuts pool sound begun blocks sized up room =
    subst (λ (x : Progress). AreParts (parts p s x n cuts)) (sym begun)
    (record { pool_p = pool; fits = record { same_p = pool; inside = λ r is. cc; stands = sound }; blocks = blocks; sized = sized; up = up; room = room })

-- calls that leave the geometry, and the NVM up, leave parts of one geometry, with an engine that belongs to the pool
pub AreParts-on : (p : Parameters) (s t : State) (e f : Progress) (m n : Device) (cuts : ℕ) → AreParts (parts p s e m cuts)
    → t.p ≡ s.p → Fits filling_shadow items_shadow f t → n.down ≡ m.down → IsFramed m n → AreParts (parts p t f n cuts)
AreParts-on p s t e f m n cuts w pool fits down frame = record {
  pool_p = pool ∙ w.pool_p;
  fits = fits;
  blocks = w.blocks;
  sized = frame.blocks ∙ w.sized;
  up = down ∙ w.up;
  room = HasRoom-framed m n cuts w.room frame;
}

same-case : (case : StoreCase) (b : ℕ) (block : Block) (n : Device) (s : State) → (after_case case b block n s).p ≡ s.p
same-case (Into j) b block n s = refl
same-case (Fill j) b block n s = refl
same-case (Copy j k) b block n s = refl

same-store : (b : ℕ) (block : Block) (n : Device) (s : State) → (after_store b block n s).p ≡ s.p
unfolding after_store
same-store b block n s = same-case (store_case b s) b block n s

-- an engine with nothing to do belongs to every pool of its geometry
idle_is : (q : EngineStage) → is_under_way q ≡ false → q ≡ Idle
idle_is Idle none = refl
idle_is (Body from) none = cc
idle_is (InRound r) none = cc
idle_is (Tail from) none = cc

fits_idle : (e : Progress) (s : State) → s.p ≡ e.p → IsSoundState s → is_under_way e.stage ≡ false → Fits filling_shadow items_shadow e s
fits_idle e s same sound idle =
    let is : e.stage ≡ Idle = idle_is e.stage idle in
    record {
      same_p = same;
      inside = λ r at. let both : Idle ≡ InRound r = sym is ∙ at in absurd cc;
      stands = subst (λ (q : EngineStage). stands_at (phase_of q) s) (sym is) sound;
    }

-- a store reads the NVM or leaves it
pub AreParts-store : (p : Parameters) (s t : State) (e : Progress) (m n : Device) (cuts b : ℕ) (block : Block) → AreParts (parts p s e m cuts)
    → is_under_way e.stage ≡ false → IsSoundState t → t ≡ after_store b block m s → n ≡ m → IsFramed m n → AreParts (parts p t e n cuts)
AreParts-store p s t e m n cuts b block w idle sound pool device frame =
    let same : t.p ≡ s.p = ap (λ (x : State). x.p) pool ∙ same-store b block m s in
    AreParts-on p s t e e m n cuts w same (fits_idle e t (same ∙ w.fits.same_p) sound idle) (ap (λ (x : Device). x.down) device) frame

-- with a seal the checkpoint begins, and the parts are of one geometry
pub AreParts-sealed : (p : Parameters) (s t : State) (e f : Progress) (n : Device) (cuts epoch : ℕ) (cpu : CpuState) → AreParts (parts p s e n cuts)
    → t ≡ sealed_state s → f ≡ begun cpu epoch e → IsSoundState t → AreParts (parts p t f n cuts)
AreParts-sealed p s t e f n cuts epoch cpu w pool engine sound =
    subst (λ (x : State). AreParts (parts p x f n cuts)) (sym pool)
    (subst (λ (x : Progress). AreParts (parts p (sealed_state s) x n cuts)) (sym engine)
    (record {
      pool_p = w.pool_p;
      fits = record {
        same_p = w.fits.same_p;
        inside = λ r is. cc;
        stands = record { sound = subst (λ (x : State). IsSoundState x) pool sound; unbegun = refl };
      };
      blocks = w.blocks;
      sized = w.sized;
      up = w.up;
      room = w.room;
    }))

-- a drain of the DRAM leaves them
pub AreParts-drained : (p : Parameters) (s t : State) (e : Progress) (n : Device) (cuts : ℕ) → AreParts (parts p s e n cuts)
    → t ≡ after_drain s → AreParts (parts p t e n cuts)
AreParts-drained p s t e n cuts w pool =
    subst (λ (x : State). AreParts (parts p x e n cuts)) (sym pool)
    (record {
      pool_p = w.pool_p;
      fits = record { same_p = w.fits.same_p; inside = w.fits.inside; stands = stands_drained (phase_of e.stage) s w.fits.stands };
      blocks = w.blocks;
      sized = w.sized;
      up = w.up;
      room = w.room;
    })

same-item : (i : Item) (s : State) → (control_after items_shadow i s).p ≡ s.p
same-item NoItem s = refl
same-item (BodyItem k) s = refl
same-item (RoundItem (Write k)) s = refl
same-item (RoundItem Settle) s = refl
same-item (RoundItem Commit) s = refl
same-item (RoundItem Confirm) s = refl
same-item (TailItem k) s = refl
same-item ReleaseItem s = refl

-- an action of the engine leaves parts of one geometry
pub AreParts-item : (p : Parameters) (s t : State) (e f : Progress) (m n : Device) (cuts : ℕ) → AreParts (parts p s e m cuts)
    → t ≡ control_next items_shadow e s → Fits filling_shadow items_shadow f t → IsAfter (action_next filling_shadow items_shadow e s m) m n → IsFramed m n
    → AreParts (parts p t f n cuts)
AreParts-item p s t e f m n cuts w pool fits device frame =
    AreParts-on p s t e f m n cuts w (ap (λ (x : State). x.p) pool ∙ same-item (item_of items_shadow e s) s) fits
    (down-after (action_next filling_shadow items_shadow e s m) m n device) frame

-- ---- cuts

-- a cut leaves both devices with their sizes, and room for one cut less
pub IsOff-cut : (p : Parameters) (s : State) (e : Progress) (m n : Device) (pick : ℕ) (dram : Contents) (cuts : ℕ)
    → IsSoundState s → AreParts (parts p s e m cuts) → IsCut pick m n → dram ≡ lost s.dram pick → 0 < cuts
    → IsOff (off p dram n (cuts - 1))
IsOff-cut p s e m n pick dram cuts state w cut is some = record {
  blocks = w.blocks;
  dram = ap (λ (x : Contents). length x.blocks) is ∙ length-over pick s.dram.blocks ∙ state.dram_size ∙ ap dram_blocks w.pool_p;
  sized = cut.crash.same_length ∙ w.sized;
  settled = ap (λ (x : Device). x.queue) cut.device;
  up = ap (λ (x : Device). x.down) cut.device;
  room = subst (λ (x : Device). HasRoom x (cuts - 1)) (sym cut.device) (room-cut m.left n.image m.left_room cuts w.room some);
}
