-- Part of the claim.
-- What a view says at a glance.
use Rattle.std.specs.Prelude.{◌≡◌, Bool, true, false, ◌&&◌, ◌||◌, ◌==◌, not, is_none, if◌then◌else◌, Option, Some, None}
use Rattle.thy_block.specs.declared.mark.Mark.{Mark}
use Rattle.thy_computer.specs.declared.view.Phase.{Phase}
use Rattle.thy_computer.specs.declared.view.Phase.TheVariants.{Boot, Halt}
use Rattle.thy_computer.specs.declared.view.View.{View}

abbrev pub is_boot : Phase → Bool
is_boot Boot = true
is_boot phase = false

abbrev pub is_halt : Phase → Bool
is_halt Halt = true
is_halt phase = false

-- a view whose boot found no checkpoint
abbrev pub loads : View → Bool
loads v = is_boot v.phase && is_none v.done

-- a view whose boot found this checkpoint, and restores it
pub record IsRestarting (v : View) (found : Mark) : Type 0 where
  pub phase : v.phase ≡ Boot
  pub done : v.done ≡ Some found

-- a cycle is the one that halts
abbrev pub halts : View → View → Bool
halts v next = not (is_halt v.phase) && is_halt next.phase

-- no instruction is under way: the machine has halted, or its boot is over and nothing was spent since
abbrev pub is_between : View → Bool
is_between v = is_halt v.phase || (not (is_boot v.phase) && v.spent == 0)

-- the mark that a cut may leave instead of the one done: the sealed one, once its commit block is written
abbrev pub doubt_of : View → Option Mark
doubt_of v = if v.written then v.sealed else None
