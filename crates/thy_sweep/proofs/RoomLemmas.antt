-- A copy of a run's device.
use Rattle.std.proofs.Common.{◌≡◌, ◌<◌, ◌^◌, ℕ, length, ◌∙◌, false, Option, List, [], sym, subst}
use Rattle.thy_block.specs.declared.block.Block.{Block}
use Rattle.thy_block.specs.declared.mix.Mix.{Mix}
use Rattle.thy_block.specs.Device.{Device, Crash}
use Rattle.thy_run.specs.declared.plan.Plan.{Plan}
use Rattle.thy_run.specs.World.{World}
use Rattle.thy_sweep.specs.declared.lead.Booted.{Booted}
use Rattle.thy_sweep.specs.declared.trial.part.Part.{Part}
use Rattle.thy_sweep.specs.declared.trial.part.Restored.{Restored}
use Rattle.thy_sweep.specs.declared.trial.room.Room.{Room}
use Rattle.thy_sweep.specs.Rooms.{IsRunAt, GivesBack, HasRoomFor}
use Rattle.thy_sweep.specs.Trials.{CanCopy, IsTried}
use Rattle.thy_computer.specs.Kind.{KindOf}
use Rattle.thy_computer.specs.Origin.{Origin}

pub can_copy_of : {M : Type 0} (K : KindOf M) (o : Origin) (w : World M) (n : Device) (mix : Mix) → IsRunAt K o w n mix
    → (d : Device) → d.down ≡ false → d.queue ≡ [] → Crash n d.image → CanCopy K o w d
can_copy_of K o w n mix at d up empty crash = record {
  at_moment = at.at_moment;
  crash = subst (λ (x : Device). Crash x d.image) (sym at.device) crash;
  up = up;
  empty = empty;
}

-- an image was tried, by other names of the image and of what was found
pub tried_as : {M : Type 0} (K : KindOf M) (o : Origin) (pick : ℕ) (part : Part) (g h : List Block) (w : World M) (most : ℕ) (b c : Option Booted) (s t : Option Restored)
    → g ≡ h → c ≡ b → t ≡ s → IsTried K o pick part g w most b s → IsTried K o pick part h w most c t
tried_as K o pick part g h w most b c s t image booted state is =
    subst (λ (i : List Block). IsTried K o pick part i w most c t) image
    (subst (λ (x : Option Booted). IsTried K o pick part g w most x t) (sym booted)
    (subst (λ (x : Option Restored). IsTried K o pick part g w most b x) (sym state) is))

-- the room of a copy has room for the next one of its device
pub room_again : (plan : Plan) (copy n : Device) (room : Room) → length copy.image ≡ length n.image → copy.queue_room ≡ n.queue_room → copy.left_room < 2 ^ 64
    → GivesBack plan copy room → HasRoomFor plan n room
room_again plan copy n room size queue cuts h = record {
  dram = h.dram;
  blocks = h.blocks ∙ size;
  queue = h.queue ∙ queue;
  cuts = subst (λ k. k < 2 ^ 64) (sym h.cuts) cuts;
}
