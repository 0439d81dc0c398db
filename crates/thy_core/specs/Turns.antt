-- Whose turn a pick is, by what the machine holds.
use Rattle.std.specs.Prelude.{ℕ, ◌+◌, ◌==◌, ◌&&◌, ◌||◌, not, nat_lt, Bool, false, is_some, if◌then◌else◌, Option, Some, None}
use Rattle.thy_block.specs.declared.mix.Pick.{Pick}
use Rattle.thy_block.specs.declared.mix.Pick.TheVariants.{Hart, Second, Engine, NvmDrain, DramDrain}
use Rattle.thy_computer.specs.declared.did.Stall.{Stall}
use Rattle.thy_computer.specs.declared.did.Stall.TheVariants.{Booting, Sealing, Waiting, Halted}
use Rattle.thy_computer.specs.declared.view.Phase.{Phase}
use Rattle.thy_computer.specs.declared.view.Phase.TheVariants.{Boot, Run, Halt}
use Rattle.thy_computer.specs.NextActor.{Actor, Nvm, Dram, Checkpoint, advancing, hart_at}
use Rattle.thy_scheme.specs.Scheme.{SchemeOf}
use Rattle.thy_scheme.specs.Machine.{Machine, shortage_of, pressure_of}

-- fewer entries are free than the dirty lines and the blocks need that room is to be secured for
abbrev pub lacks : ℕ → ℕ → Option ℕ → Bool
lacks free dirty None = false
lacks free dirty (Some need) = nat_lt free (dirty + need)

-- the sealed state has ended, and nothing is left to be promoted
abbrev pub stopped_now : {S : Type 0} → SchemeOf S → Machine S → Bool
stopped_now K m = is_some m.marks.sealed && m.ends && not (K.promoting m.scheme)

-- the hart waits for the checkpoint under way
abbrev pub waits_now : {S : Type 0} → SchemeOf S → Machine S → Bool
waits_now K m =
    K.under_way m.scheme && (not K.overlaps || is_some m.hart.epoch.over || is_some (shortage_of K m) || stopped_now K m)

-- the hart's stall in this phase
abbrev pub stall_now : {S : Type 0} → SchemeOf S → Phase → Machine S → Option Stall
stall_now K Boot m = Some Booting
stall_now K Halt m = Some Halted
stall_now K Run m =
    if waits_now K m then Some Waiting else (if is_some m.hart.epoch.over || K.promoting m.scheme then Some Sealing else None)

-- the hart that a pick comes to
abbrev pub hart_of : {S : Type 0} → SchemeOf S → Pick → Machine S → ℕ
hart_of K pick m = hart_at m.hart.geometry.harts pick (pressure_of K m)

-- the turn of the hart that a pick comes to
abbrev pub hart_now : {S : Type 0} → SchemeOf S → Pick → Machine S → Actor
hart_now K pick m = advancing (stall_now K m.phase m) (hart_of K pick m)

-- the turn of the engine
abbrev pub engine_now : {S : Type 0} → SchemeOf S → Pick → Phase → Machine S → Actor
engine_now K pick Boot m = hart_now K pick m
engine_now K pick Halt m = hart_now K pick m
engine_now K pick Run m = if K.under_way m.scheme then Checkpoint else hart_now K pick m

-- whose turn a pick is
abbrev pub actor_now : {S : Type 0} → SchemeOf S → Pick → ℕ → Machine S → Actor
actor_now K Hart nvm m = hart_now K Hart m
actor_now K Second nvm m = hart_now K Second m
actor_now K Engine nvm m = engine_now K Engine m.phase m
actor_now K NvmDrain nvm m = if nvm == 0 then hart_now K NvmDrain m else Nvm
actor_now K DramDrain nvm m = if K.queued m.scheme == 0 then hart_now K DramDrain m else Dram
