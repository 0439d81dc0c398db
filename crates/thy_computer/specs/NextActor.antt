-- Part of the claim.
-- Who takes a cycle. The engine acts while a checkpoint is under way, and a hart waits for it only for the reasons of `waits`.
-- An instruction stays the hart's that began it, so no instruction of the other hart comes between its reads and its writes.
use Rattle.std.specs.Prelude.{◌≡◌, ◌≢◌, ◌⊎◌, ℕ, ◌==◌, Bool, true, false, ◌&&◌, ◌||◌, not, is_some, option_map, unwrap_or, if◌then◌else◌, Option, Some, None}
use Rattle.thy_block.specs.declared.cause.EndCause.{EndCause}
use Rattle.thy_block.specs.declared.cause.EndCause.TheVariants.{Exhausted}
use Rattle.thy_block.specs.declared.mark.Mark.{Mark}
use Rattle.thy_block.specs.declared.mix.Pick.{Pick}
use Rattle.thy_block.specs.declared.mix.Pick.TheVariants.{Hart, Second, Engine as EnginePick, NvmDrain, DramDrain}
use Rattle.thy_computer.specs.declared.view.Phase.{Phase}
use Rattle.thy_computer.specs.declared.view.Phase.TheVariants.{Boot as BootPhase, Run, Halt}
use Rattle.thy_computer.specs.declared.view.View.{View}
use Rattle.thy_computer.specs.Origin.{Origin, runs_at}
use Rattle.thy_computer.specs.declared.did.Did.{Did}
use Rattle.thy_computer.specs.declared.did.Did.TheVariants.{Moved, Retired, Flushed, Merged, Sealed, Promoted, Engine, Committed, NvmDrained, DramDrained, Nothing, Loaded, Restarted}
use Rattle.thy_computer.specs.declared.did.Stall.{Stall}
use Rattle.thy_computer.specs.declared.did.Stall.TheVariants.{Booting, Sealing, Waiting, Halted}

-- an actor of the machine
pub data Actor : Type 0 where
  -- the NVM's queue
  Nvm : Actor
  -- the DRAM's queue
  Dram : Actor
  -- the checkpoint engine
  Checkpoint : Actor
  -- a hart, which advances its instruction
  Advances : (hart : ℕ) → Actor
  -- the harts, none of which advances an instruction, for this reason
  Stalled : (stall : Stall) → Actor

-- the instruction in hand needs more table entries than are free
pub record Shortage : Type 0 where
  pub free : ℕ
  pub dirty : ℕ
  pub need : ℕ

-- what decides a turn in addition to the view and the NVM's queue
pub record Pressure : Type 0 where
  -- writes queued in the DRAM
  pub dram : ℕ
  -- the engine has something to do: a checkpoint is sealed, or the scheme applies what one has written
  pub under_way : Bool
  pub applies : Bool
  -- while the engine has something to do, the hart may not run
  pub barred : Bool
  -- the shortage of table entries of the instruction in hand, if it has one
  pub short : Option Shortage
  -- a block of a page is still to be promoted
  pub promotes : Bool
  -- lines of the cache that are dirty
  pub dirty : ℕ
  -- a block is still to be merged into its page
  pub overlaid : Bool
  -- the hart whose instruction is begun, if one is
  pub begun : Option ℕ
  -- the hart that retired the last instruction since the boot
  pub last : Option ℕ

-- the hart in front: the one whose instruction is begun, or hart 0
abbrev pub front_of : Option ℕ → ℕ
front_of None = 0
front_of (Some hart) = hart

-- the hart that did not retire the last instruction; hart 0 at first
abbrev pub rested : Option ℕ → ℕ
rested None = 0
rested (Some hart) = if hart == 0 then 1 else 0

-- whose instruction a pick begins: the hart's that it names, or, if its own actor has nothing to do, the hart's that
-- rested
abbrev pub begins : Pick → Option ℕ → ℕ
begins Hart last = 0
begins Second last = 1
begins pick last = rested last

-- the hart that a pick comes to: the one whose instruction is begun; with one hart it is hart 0
abbrev pub hart_at : ℕ → Pick → Pressure → ℕ
hart_at harts pick p = if harts == 1 then 0 else unwrap_or p.begun (begins pick p.last)

-- the state at a mark has ended
abbrev pub has_stopped : Origin → Option Mark → Bool
has_stopped o None = false
has_stopped o (Some m) = not (runs_at o m.count)

-- The hart waits for a checkpoint under way if it may not run meanwhile, if its own epoch is over, if too few entries are
-- free, or if the program has ended and there is nothing to promote. So an epoch is sealed only while none is under way.
abbrev pub waits : Origin → View → Pressure → Bool
waits o v p = p.under_way && (p.barred || is_some v.over || is_some p.short || (has_stopped o v.sealed && not p.promotes))

-- the first stall that holds: the rules of a hart's turn by their numbers in docs/CONTROLLER.md, 1 Booting, 2 Halted,
-- 3 Waiting, 4 Sealing, 5 none
abbrev pub stall_in : Origin → Phase → View → Pressure → Option Stall
stall_in o BootPhase v p = Some Booting
stall_in o Halt v p = Some Halted
stall_in o Run v p = if waits o v p then Some Waiting else (if is_some v.over || p.promotes then Some Sealing else None)

-- a hart advances its instruction unless there is a stall
abbrev pub advancing : Option Stall → ℕ → Actor
advancing None hart = Advances hart
advancing (Some stall) hart = Stalled stall

-- the turn of the hart that a pick comes to
abbrev pub hart_actor : Origin → Pick → View → Pressure → Actor
hart_actor o pick v p = advancing (stall_in o v.phase v p) (hart_at o.geometry.harts pick p)

-- the engine acts if a checkpoint is under way
abbrev pub engine_actor : Origin → Pick → Phase → View → Pressure → Actor
engine_actor o pick Run v p = if p.under_way then Checkpoint else hart_actor o pick v p
engine_actor o pick phase v p = hart_actor o pick v p

-- whose turn a pick is, if this many writes are queued in the NVM
abbrev pub actor_of : Origin → Pick → ℕ → View → Pressure → Actor
actor_of o Hart nvm v p = hart_actor o Hart v p
actor_of o Second nvm v p = hart_actor o Second v p
actor_of o EnginePick nvm v p = engine_actor o EnginePick v.phase v p
actor_of o NvmDrain nvm v p = if nvm == 0 then hart_actor o NvmDrain v p else Nvm
actor_of o DramDrain nvm v p = if p.dram == 0 then hart_actor o DramDrain v p else Dram

-- the engine's work is done at its turn, or at the turn of a hart that waits for it
abbrev pub IsEngines : Actor → Type 0
IsEngines actor = (actor ≡ Checkpoint) ⊎ (actor ≡ Stalled Waiting)

-- whose turn a cycle was that did this; what is not listed is the boot's
abbrev pub Does : Did → Actor → Type 0
Does NvmDrained actor = actor ≡ Nvm
Does DramDrained actor = actor ≡ Dram
Does (Engine step) actor = IsEngines actor
Does (Committed epoch overlapped) actor = IsEngines actor
Does Moved actor = (hart : ℕ) × (actor ≡ Advances hart)
Does (Retired hart) actor = actor ≡ Advances hart
Does Flushed actor = actor ≡ Stalled Sealing
Does Merged actor = actor ≡ Stalled Sealing
Does (Sealed epoch count cause) actor = actor ≡ Stalled Sealing
Does Promoted actor = actor ≡ Stalled Sealing
Does Nothing actor = actor ≡ Stalled Halted
Does did actor = actor ≡ Stalled Booting

-- Before a seal the first of these is done that is left: a block is promoted, a dirty line stored, a block merged. The
-- epoch is sealed once none is left. In docs/CONTROLLER.md these are steps 5, 2, 3 and 4 of an epoch's end.
abbrev pub Prepares : Did → Pressure → Type 0
Prepares Promoted p = p.promotes ≡ true
Prepares Flushed p = (p.promotes ≡ false) × (p.dirty ≢ 0)
Prepares Merged p = (p.promotes ≡ false) × (p.dirty ≡ 0) × (p.overlaid ≡ true)
Prepares (Sealed epoch count cause) p = (p.promotes ≡ false) × (p.dirty ≡ 0) × (p.overlaid ≡ false)
Prepares did p = Unit {0}

-- the stall that is reported at an actor's turn
abbrev pub stall_at : Actor → Option Stall
stall_at (Stalled stall) = Some stall
stall_at actor = None

-- a pick was the turn of the actor that did this, which it could do, and this stall is reported
abbrev pub NextActor : Origin → Pick → ℕ → View → Pressure → Did → Option Stall → Type 0
NextActor o pick nvm v p did stall =
    Does did (actor_of o pick nvm v p) × (stall ≡ stall_at (actor_of o pick nvm v p)) × Prepares did p

-- ---- whose instruction is begun

-- the hart that advanced
abbrev pub hart_in : Actor → ℕ
hart_in (Advances hart) = hart
hart_in actor = 0

pub record IsHanded (begun last : Option ℕ) (next : Pressure) : Type 0 where
  pub begun_is : next.begun ≡ begun
  pub last_is : next.last ≡ last

-- an instruction that is short of entries is dropped
abbrev pub begun_by : Option Shortage → ℕ → Option ℕ
begun_by None hart = Some hart
begun_by (Some s) hart = None

-- what a cycle makes of whose instruction is begun, and of who retired the last one: an instruction stays the hart's that
-- began it until it is retired or dropped. When a boot ends, none is begun.
abbrev pub HandsOn : Actor → Did → Pressure → Pressure → Type 0
HandsOn actor Moved p next = IsHanded (begun_by p.short (hart_in actor)) p.last next
HandsOn actor (Retired hart) p next = IsHanded None (Some hart) next
HandsOn actor Loaded p next = IsHanded None None next
HandsOn actor (Restarted epoch count) p next = IsHanded None None next
HandsOn actor did p next = IsHanded p.begun p.last next

-- why the epoch is over once the hart moved on: an instruction for which too few entries are free ends it
abbrev pub over_by : Option Shortage → Option EndCause
over_by = option_map (λ (s : Shortage). Exhausted s.free s.dirty s.need)
