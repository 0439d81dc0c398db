-- Part of the claim.
-- What a scheme says of its checkpoints: what is written before the slot and after the commit, by positions, and what the
-- slot has after the processor's record.
use Rattle.std.specs.Prelude.{◌≡◌, ◌⊎◌, ℕ, ◌+◌, ◌≤◌, Bool, true, if◌then◌else◌, Option, Some, None}
use Rattle.thy_block.specs.declared.block.Block.{Block}
use Rattle.thy_block.specs.declared.parameters.Parameters.{Parameters}
use Rattle.thy_block.specs.Device.{Device}
use Rattle.thy_layout.specs.declared.engine_step.EngineStep.{EngineStep}
use Rattle.thy_layout.specs.declared.engine_step.EngineStep.TheVariants.{Copied, PageBlock}
use Rattle.thy_checkpoint.specs.Filling.{FillingOf}

-- how far a checkpoint is, as the controller has it
pub data Phase : Type 0 where
  -- no checkpoint is under way
  Resting : Phase
  -- below this position the body is written
  Making : (from : ℕ) → Phase
  -- the whole body is written
  Made : Phase
  -- the checkpoint is committed, and below this position the tail is written
  Applying : (from : ℕ) → Phase

-- what controllers of a type mean, and what they show, while their checkpoints are made
pub record ItemsOf (C : Type 0) : Type 1 where
  -- the controller is one that has a checkpoint in this phase
  pub stands : Phase → C → Type 0
  -- the body: the first position from one on that is written; by epoch, the place, and by device, the block; and the
  -- controller afterwards
  pub body_next : C → ℕ → Option ℕ
  pub body_place : ℕ → C → ℕ → ℕ
  pub body_block : C → Device → ℕ → Block
  pub body_after : C → ℕ → C
  -- what the engine reports of a position of body or tail
  pub step_of : Parameters → ℕ → EngineStep
  -- block k of the slot after the processor's record
  pub rest : C → ℕ → Block
  -- the controller after the commit of its checkpoint
  pub committed : C → C
  -- whether a tail follows; its positions, places, blocks and controllers, and the controller after the barrier at its end
  pub has_tail : Bool
  pub tail_next : C → ℕ → Option ℕ
  pub tail_place : C → ℕ → ℕ
  pub tail_block : C → Device → ℕ → Block
  pub tail_after : C → ℕ → C
  pub released : C → C
  -- how many positions of body and tail are left at most, from one on; and ever
  pub body_left : C → ℕ → ℕ
  pub tail_left : Parameters → ℕ → ℕ
  pub most_body : Parameters → ℕ

-- the phase after the commit
abbrev pub phase_committed : {C : Type 0} → ItemsOf C → Phase
phase_committed I = if I.has_tail then Applying 0 else Resting

-- a position was written: the next phase stands, and it is of the same geometry. Nothing is written to the DRAM
pub record GoesTo {C : Type 0} (F : FillingOf C) (I : ItemsOf C) (phase : Phase) (old new : C) : Type 0 where
  pub same_p : F.p new ≡ F.p old
  pub dram : F.dram new ≡ F.dram old
  pub stands : I.stands phase new

-- what holds of the items of every scheme
pub record AreItems {C : Type 0} (F : FillingOf C) (I : ItemsOf C) : Type 0 where
  -- a position that is next is so if it is looked for from itself, and the checkpoint is as far; in the tail it is not below
  -- the one from which it was looked for
  pub body_onwards : (c : C) (from k : ℕ) → I.stands (Making from) c → I.body_next c from ≡ Some k
      → (I.body_next c k ≡ Some k) × I.stands (Making k) c
  pub tail_onwards : (c : C) (from k : ℕ) → I.stands (Applying from) c → I.tail_next c from ≡ Some k
      → (from ≤ k) × (I.tail_next c k ≡ Some k) × I.stands (Applying k) c
  -- each item leads to the next phase
  pub body : (c : C) (k : ℕ) → I.stands (Making k) c → I.body_next c k ≡ Some k → GoesTo F I (Making (k + 1)) c (I.body_after c k)
  pub body_ends : (c : C) (from : ℕ) → I.stands (Making from) c → I.body_next c from ≡ None → I.stands Made c
  pub commits : (c : C) → I.stands Made c → GoesTo F I (phase_committed I) c (I.committed c)
  pub tail : (c : C) (k : ℕ) → I.stands (Applying k) c → I.tail_next c k ≡ Some k → GoesTo F I (Applying (k + 1)) c (I.tail_after c k)
  pub releases : (c : C) (from : ℕ) → I.stands (Applying from) c → I.tail_next c from ≡ None
      → GoesTo F I Resting c (I.released c)
  -- a position that is written is one less
  pub body_counts : (c : C) (from k : ℕ) → I.stands (Making from) c → I.body_next c from ≡ Some k
      → I.body_left (I.body_after c k) (k + 1) + 1 ≤ I.body_left c from
  pub tail_counts : (c : C) (from k : ℕ) → I.stands (Applying from) c → I.tail_next c from ≡ Some k
      → I.tail_left (F.p c) (k + 1) + 1 ≤ I.tail_left (F.p c) from
  -- what the engine reports of a position is one of a block that was written
  pub steps : (p : Parameters) (k : ℕ) → (I.step_of p k ≡ Copied) ⊎ (I.step_of p k ≡ PageBlock)
  pub body_most : (c : C) (from : ℕ) → I.stands (Making from) c → I.body_left c from ≤ I.most_body (F.p c)
  pub tail_most : (p : Parameters) (from : ℕ) → I.tail_left p from ≤ I.tail_left p 0
  -- a tail is written only if there is one
  pub tail_follows : (c : C) (from : ℕ) → I.stands (Applying from) c → I.has_tail ≡ true
