-- A run that is swept, between two cycles.
use Rattle.std.proofs.Common.{ℕ, ◌+◌, ◌<◌, ◌≤◌, ◌^◌, Bool, length, refl, sym, ◌∙◌, ap, arith}
use Rattle.thy_block.specs.declared.parameters.Parameters.{Parameters}
use Rattle.thy_block.specs.Device.{Device}
use Rattle.thy_block.specs.Geometry.{IsInRange}
use Rattle.thy_block.specs.Outside.{Stream}
use Rattle.thy_execute.specs.Planning.{HasStayed}
use Rattle.thy_execute.proofs.PlanLemmas.{planned_promise}
use Rattle.thy_run.specs.declared.ending.Ending.{Ending}
use Rattle.thy_run.specs.declared.plan.Plan.{Plan}
use Rattle.thy_run.specs.declared.progress.Progress.{Progress}
use Rattle.thy_run.specs.Going.{IsPlanned, origin_of, given_of, world_at}
use Rattle.thy_run.specs.Rounds.{RunEnds}
use Rattle.thy_run.specs.Sending.{Sinks}
use Rattle.thy_run.specs.World.{World, line}
use Rattle.thy_run.proofs.AdvanceLemmas.{good_of}
use Rattle.thy_run.proofs.PickLaws.{StaysFitted, StaysFitted-ran}
use Rattle.thy_sweep.specs.Lying.{LiesOn, blocks_below}
use Rattle.thy_sweep.specs.declared.trial.room.Room.{Room}
use Rattle.thy_sweep.specs.Rooms.{HasRoomFor}
use Rattle.thy_computer.specs.Kind.{KindOf, IsLawful}
use Rattle.sweep.specs.Sweeping.{CanLook, HasRoomBelow, IsSwept}

limit_most : (p : Parameters) → IsInRange p → p.limit ≤ 10 ^ 12
limit_most p r = omega arith

few_left : (done limit : ℕ) → done ≤ limit → limit ≤ 10 ^ 12 → done + 10 ^ 12 ≤ 2 ^ 62
few_left done limit few most = omega (arith, few, most)

module _ {M : Type 0} (K : KindOf M) (laws : IsLawful K) (plan : Plan) (fitted : Device) (levels : Bool) (p : Progress M) (n : Device) (done : ℕ)
    (before now : Sinks) (room : Room) (planned : IsPlanned plan) (few : done ≤ plan.geometry.limit) (some : 0 < length fitted.image)
    (h : IsSwept K plan fitted levels p n done before now room) where
  abbrev world : World M
  world = world_at p n done h.turns

  stays : StaysFitted (given_of plan fitted) world.passed n
  stays = StaysFitted-ran K (origin_of plan) (given_of plan fitted) done world h.running.goes.ran

  -- the device has the size that it was fitted with
  pub sized_still : 0 < length n.image
  sized_still = omega (arith, some, stays.blocks)

  pub has_stayed : HasStayed fitted n
  has_stayed = record { blocks = stays.blocks; lent = stays.lent; every = stays.every }

  at_here : K.is_at (line (origin_of plan) world) done world.machine n
  at_here = (good_of K plan fitted p n done h.turns planned h.running.goes).stands.at_moment

  module _ (memory : Device) (lies : LiesOn levels memory n) where
    -- an image can be tried here
    pub can_look : CanLook K plan p memory n room
    can_look = record {
      room = record {
        dram = h.room.dram;
        blocks = h.room.blocks ∙ ap (blocks_below levels) (sym stays.blocks) ∙ sym lies.blocks;
        queue = h.room.queue ∙ sym stays.queue_room ∙ sym lies.queue_room;
        cuts = h.room.cuts;
      };
      can = (
        world,
        record { at_moment = at_here; device = refl; mix = refl },
        few_left done plan.geometry.limit few (limit_most plan.geometry planned.origin.geometry),
        sized_still,
      );
      up = laws.up (line (origin_of plan) world) done world.machine n at_here;
    }

    -- room for copies of the device in memory is room for copies of it as it was fitted
    pub room_back : (next : Room) → HasRoomFor plan memory next → HasRoomBelow plan levels fitted next
    room_back next r = record {
      dram = r.dram;
      blocks = r.blocks ∙ lies.blocks ∙ ap (blocks_below levels) stays.blocks;
      queue = r.queue ∙ lies.queue_room ∙ stays.queue_room;
      cuts = r.cuts;
    }

-- a run that stopped leaves the device as a run does
pub stayed_ended : {M : Type 0} (K : KindOf M) (laws : IsLawful K) (plan : Plan) (fitted new : Device) (e : Ending) (terminal shown report read : Stream)
    → IsPlanned plan → RunEnds K plan fitted new e terminal shown report read → HasStayed fitted new
stayed_ended K laws plan fitted new e terminal shown report read planned ends =
    let promise = planned_promise K laws plan fitted new e terminal shown report read planned ends in
    record { blocks = promise.room.blocks; lent = promise.room.lent; every = promise.room.every }
