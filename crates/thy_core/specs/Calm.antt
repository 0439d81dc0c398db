-- While the harts alone have something to do.
use Rattle.std.specs.Prelude.{◌≡◌, ◌==◌, ◌&&◌, not, is_none, Bool, true, false}
use Rattle.thy_hart.specs.declared.hand.HartStep.{HartStep}
use Rattle.thy_hart.specs.declared.hand.HartStep.TheVariants.{Moved, Retired, Waiting, Over}
use Rattle.thy_scheme.specs.Scheme.{SchemeOf}
use Rattle.thy_core.specs.declared.parts.MachineParts.{MachineParts}
use Rattle.thy_core.specs.MachineParts.{machine_of}
use Rattle.thy_core.specs.Turns.{stall_now}
use Rattle.thy_scheme.specs.Machine.{Machine}

-- no checkpoint is under way, no write is queued in the DRAM, and nothing keeps a hart from its turn: so each pick is a hart's
-- while no write is queued in the NVM
abbrev pub is_calm : {S : Type 0} → SchemeOf S → Machine S → Bool
is_calm K m = not (K.under_way m.scheme) && (K.queued m.scheme == 0 && is_none (stall_now K m.phase m))

-- a machine is marked as calm only if it is
abbrev pub KnowsCalm : {S : Type 0} → SchemeOf S → MachineParts S → Type 0
KnowsCalm K p = p.store.calm ≡ true → is_calm K (machine_of p) ≡ true

-- an epoch has ended by this step
abbrev pub is_over : HartStep → Bool
is_over Moved = false
is_over Retired = false
is_over Waiting = false
is_over (Over cause) = true
