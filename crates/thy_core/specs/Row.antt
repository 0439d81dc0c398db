-- Steps of a hart in a row, as cycles of the machine.
use Rattle.std.specs.Prelude.{ℕ, ◌+◌, Bool, false, if◌then◌else◌, List, [], ◌∷◌, ◌++◌, replicate, Option, Some, None}
use Rattle.thy_hart.specs.declared.hand.HartStep.{HartStep}
use Rattle.thy_computer.specs.declared.did.Advance.{Advance}
use Rattle.thy_computer.specs.declared.did.Advance.TheVariants.{Moved, Retired}
use Rattle.thy_scheme.specs.MachineCalls.{retires_by, ends_by, after_hart}
use Rattle.thy_scheme.specs.Machine.{Machine, cpu_fronted}
use Rattle.thy_core.specs.Calm.{is_over}

-- what a step of this hart did in its cycle
abbrev pub advance_by : ℕ → HartStep → Advance
advance_by hart step = if retires_by step then Retired hart else Moved

-- what the cycles did of this many steps that moved its instruction on, and of the one that ended the row, if one did
abbrev pub advances_by : ℕ → ℕ → Option HartStep → List Advance
advances_by hart moved None = replicate moved Moved
advances_by hart moved (Some step) = replicate moved Moved ++ advance_by hart step ∷ []

-- a machine after these steps, which left its hart and its cache as they are
abbrev pub after_row : {S : Type 0} → ℕ → ℕ → Option HartStep → Machine S → Machine S
after_row hart moved None m = record m { spent = m.spent + moved; begun = Some hart }
after_row hart moved (Some step) m = after_hart hart step m.hart m.cache m.scheme (record m { spent = m.spent + moved })

-- the step that ended the row ended the epoch
abbrev pub ends_epoch : Option HartStep → Bool
ends_epoch None = false
ends_epoch (Some step) = is_over step

-- an instruction has ended by it
abbrev pub ends_last : Option HartStep → Bool
ends_last None = false
ends_last (Some step) = ends_by step

-- the machine that `begun_by_hart` was made of, if no step was taken: the hart that is in front for an instruction that was not
-- begun goes back
abbrev pub put_back : {S : Type 0} → ℕ → Option ℕ → Machine S → Machine S
put_back hart None m = record m { hart = record m.hart { cpu = cpu_fronted hart m.hart.cpu }; begun = None }
put_back hart (Some begun) m = m
