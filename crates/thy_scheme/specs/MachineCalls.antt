-- Part of the claim.
-- What the calls of hart and cache leave of the machine, and the machine after each cycle.
use Rattle.std.specs.Prelude.{◌≡◌, ◌≢◌, ◌⊎◌, ℕ, ◌+◌, ◌-◌, ◌==◌, ◌≤◌, if◌then◌else◌, not, true, false, Bool, Option, Some, None}
use Rattle.thy_block.specs.declared.cause.EndCause.{EndCause}
use Rattle.thy_block.specs.declared.cause.EndCause.TheVariants.{Length, Exhausted, Ended}
use Rattle.thy_block.specs.declared.store.Stored.{Stored}
use Rattle.thy_block.specs.declared.store.Stored.TheVariants.{Done, CopyFirst}
use Rattle.thy_block.specs.Device.{Device, block_at}
use Rattle.thy_block.specs.Marks.{mark}
use Rattle.thy_cache.specs.declared.line.Flushed.{Flushed}
use Rattle.thy_cache.specs.declared.line.Flushed.TheVariants.{Clean, Line as StoredLine, CopyFirst as CopiedFirst}
use Rattle.thy_cache.specs.declared.line.Line.{Line}
use Rattle.thy_cache.specs.declared.line.Victim.{Victim}
use Rattle.thy_cache.specs.declared.line.Victim.TheVariants.{Room, Dirty}
use Rattle.thy_cache.specs.Contents.{Contents, dirty_count, dirty_line, victim_of, victim_line_of, filled_with, evicted_for, flushed_from, HasFlushed, CountsFlushed, KeepsSize, KeepsOpen}
use Rattle.thy_cache.specs.Flat.{flat, Agrees}
use Rattle.thy_hart.specs.Epoch.{next_epoch}
use Rattle.thy_hart.specs.declared.hand.HartStep.{HartStep}
use Rattle.thy_hart.specs.declared.hand.HartStep.TheVariants.{Moved, Retired, Waiting, Over}
use Rattle.thy_hart.specs.Outcomes.{Given, cache_by}
use Rattle.thy_hart.specs.HartState.{HartState, next_block, new_hart, secured}
use Rattle.thy_hart.specs.Moments.{moment, brings_line}
use Rattle.thy_hart.specs.OneStep.{IsStep}
use Rattle.thy_isa.specs.declared.state.CpuState.{CpuState}
use Rattle.thy_isa.specs.Step.{cpu_of, is_running}
use Rattle.thy_layout.specs.declared.engine_step.EngineStep.{EngineStep}
use Rattle.thy_layout.specs.declared.engine_step.EngineStep.TheVariants.{Committed}
use Rattle.thy_computer.specs.declared.boot_step.BootStep.{BootStep}
use Rattle.thy_computer.specs.declared.boot_step.BootStep.TheVariants.{GoesOn, Loaded, Restarted, Refused}
use Rattle.thy_computer.specs.declared.did.Did.{Did}
use Rattle.thy_computer.specs.declared.did.Did.TheVariants.{Moved as DidMove, Retired as DidRetire}
use Rattle.thy_computer.specs.declared.view.Phase.{Phase}
use Rattle.thy_computer.specs.declared.view.Phase.TheVariants.{Run, Halt}
use Rattle.thy_computer.specs.Action.{Action, Rest, IsAfter}
use Rattle.thy_computer.specs.Origin.{Origin}
use Rattle.thy_scheme.specs.CheckpointMarks.{only, marks_after}
use Rattle.thy_scheme.specs.Exact.{Made}
use Rattle.thy_scheme.specs.Scheme.{SchemeOf}
use Rattle.thy_scheme.specs.Calls.{IsOneAccess}
use Rattle.thy_scheme.specs.SchemeStore.{held_by_scheme}
use Rattle.thy_scheme.specs.Machine.{Lengths, Machine, cpu_fronted, moment_of}

-- ---- what is left below the hart

-- what is left below a hart: cache and scheme, and what the NVM was asked for
pub record Below (S : Type 0) : Type 0 where
  pub cache : Contents
  pub scheme : S
  pub action : Action

pub record IsBelow {S : Type 0} (b : Below S) (n : Device) (c : Contents) (t : S) (new : Device) : Type 0 where
  pub cache_is : c ≡ b.cache
  pub scheme_is : t ≡ b.scheme
  pub nvm_is : IsAfter b.action n new

-- the line in a block's way was stored, or a copy came first; by what the store made
abbrev pub evicted_by : {S : Type 0} → Made S Stored → ℕ → Machine S → Below S
evicted_by made b m = record { cache = evicted_for made.answer b m.cache; scheme = made.scheme; action = made.action }

abbrev pub line_evicted : {S : Type 0} → SchemeOf S → ℕ → Option Line → Machine S → Device → Below S
line_evicted K b None m n = record { cache = m.cache; scheme = m.scheme; action = Rest }
line_evicted K b (Some line) m n = evicted_by (K.calls.store line.at line.block m.scheme n) b m

-- a line is brought: with room its block is filled in
abbrev pub line_brought : {S : Type 0} → SchemeOf S → ℕ → Victim → Machine S → Device → Below S
line_brought K b Room m n =
    record { cache = filled_with b (block_at (K.holding m.scheme n).blocks b) m.cache; scheme = m.scheme; action = Rest }
line_brought K b (Dirty at) m n = line_evicted K b (victim_line_of m.cache b) m n

-- what is left below a hart: what a line that is brought leaves, of the block that is touched next, or only another cache
abbrev pub below_by : {S : Type 0} → SchemeOf S → Bool → Option ℕ → Machine S → Device → Below S
below_by K true (Some b) m n = line_brought K b (victim_of m.cache b) m n
below_by K brings block m n = record { cache = cache_by m.cache m.hart m.hart.hand; scheme = m.scheme; action = Rest }

abbrev pub below_after : {S : Type 0} → SchemeOf S → Machine S → Device → Below S
below_after K m n = below_by K (brings_line (moment_of K m n)) (next_block m.hart) m n

-- the first dirty line was flushed
abbrev pub flushed_as : Stored → Flushed
flushed_as Done = StoredLine
flushed_as CopyFirst = CopiedFirst

abbrev pub flushed_by : {S : Type 0} → Made S Stored → Machine S → Below S
flushed_by made m =
    record { cache = flushed_from (flushed_as made.answer) m.cache; scheme = made.scheme; action = made.action }

abbrev pub flushed_line : {S : Type 0} → SchemeOf S → Option Line → Machine S → Device → Below S
flushed_line K None m n = record { cache = m.cache; scheme = m.scheme; action = Rest }
flushed_line K (Some line) m n = flushed_by (K.calls.store line.at line.block m.scheme n) m

abbrev pub line_flushed : {S : Type 0} → SchemeOf S → Machine S → Device → Below S
line_flushed K m n = flushed_line K (dirty_line m.cache) m n

-- ---- what the calls leave

-- the scheme was asked for one load or store, or for nothing
abbrev pub IsAsked : {S : Type 0} → SchemeOf S → S → Device → S → Device → Type 0
IsAsked K s n t new = ((t ≡ s) × (new ≡ n)) ⊎ IsOneAccess K s n t new

-- a step of the hart left this hart, cache and scheme
pub record HartCall {S : Type 0} (K : SchemeOf S) (g : Given) (m : Machine S) (n : Device) (h : HartState) (c : Contents) (t : S) (new : Device) (step : HartStep) : Type 0 where
  pub is_step : IsStep g (moment_of K m n) (moment h c (held_by_scheme K t new)) step
  pub asked : IsAsked K m.scheme n t new
  pub stays : K.stays m.scheme n t new
  pub untouched : brings_line (moment_of K m n) ≡ false → (t ≡ m.scheme) × (new ≡ n)
  -- no more lines become dirty than secured room is used, and without a dirty line nothing is stored
  pub tidy : dirty_count c ≤ dirty_count m.cache + (secured m.hart.hand - secured h.hand)
  pub rests : dirty_count m.cache ≡ 0 → K.storeless t ≡ K.storeless m.scheme
  -- exactly this is left below it
  pub below : IsBelow (below_after K m n) n c t new

-- a step of a flush left this cache and scheme; it was not the last
pub record FlushCall {S : Type 0} (K : SchemeOf S) (m : Machine S) (n : Device) (flushed : Flushed) (c : Contents) (t : S) (new : Device) : Type 0 where
  pub more : flushed ≢ Clean
  pub cache : c ≡ flushed_from flushed m.cache
  pub store : HasFlushed flushed m.cache (held_by_scheme K m.scheme n) (held_by_scheme K t new)
  pub reads : flat c (held_by_scheme K t new).blocks ≡ flat m.cache (held_by_scheme K m.scheme n).blocks
  pub agree : Agrees c (held_by_scheme K t new).blocks
  pub dirty : CountsFlushed flushed (dirty_count m.cache) (dirty_count c)
  pub opened : KeepsOpen m.cache (held_by_scheme K m.scheme n) c (held_by_scheme K t new)
  pub sized : KeepsSize m.cache c
  pub access : IsOneAccess K m.scheme n t new
  pub made : IsBelow (line_flushed K m n) n c t new

-- ---- whose instruction is begun

-- the processor with this hart in front: it is there already if its instruction is begun
abbrev pub cpu_begun : ℕ → Option ℕ → CpuState → CpuState
cpu_begun hart None c = cpu_fronted hart c
cpu_begun hart (Some begun) c = c

-- the machine as this hart's step finds it, with its instruction begun
abbrev pub begun_by_hart : {S : Type 0} → ℕ → Machine S → Machine S
begun_by_hart hart m = record m { hart = record m.hart { cpu = cpu_begun hart m.begun m.hart.cpu }; begun = Some hart }

-- an instruction has ended by this step: it was retired, or dropped
abbrev pub ends_by : HartStep → Bool
ends_by Moved = false
ends_by Retired = true
ends_by Waiting = false
ends_by (Over cause) = true

-- ---- the machine after a cycle

-- an instruction was retired, by the result of the hart's step
abbrev pub retires_over : EndCause → Bool
retires_over Length = true
retires_over (Exhausted free dirty need) = false
retires_over Ended = true

abbrev pub retires_by : HartStep → Bool
retires_by Moved = false
retires_by Retired = true
retires_by Waiting = false
retires_by (Over cause) = retires_over cause

-- the instruction is this hart's
abbrev pub hart_did : ℕ → HartStep → Did
hart_did hart step = if retires_by step then DidRetire hart else DidMove

-- the machine after a step of this hart; once its instruction has ended, hart 0 is in front again
abbrev pub after_hart : {S : Type 0} → ℕ → HartStep → HartState → Contents → S → Machine S → Machine S
after_hart hart step h c t m = record m {
  hart = record h { cpu = if ends_by step then cpu_fronted hart h.cpu else h.cpu };
  cache = c;
  scheme = t;
  spent = m.spent + 1;
  lap = m.lap + (if retires_by step then 1 else 0);
  begun = if ends_by step then None else Some hart;
  last = if retires_by step then Some hart else m.last;
}

-- a machine after a line was stored
abbrev pub after_flush : {S : Type 0} → Contents → S → Machine S → Machine S
after_flush c t m = record m { cache = c; scheme = t; spent = m.spent + 1 }

-- a machine after a merge or a promotion
abbrev pub after_call : {S : Type 0} → S → Machine S → Machine S
after_call t m = record m { scheme = t; spent = m.spent + 1 }

-- a machine after a drain of the DRAM
abbrev pub after_drain : {S : Type 0} → S → Machine S → Machine S
after_drain t m = record m { scheme = t }

-- a machine after a seal
abbrev pub after_seal : {S : Type 0} → S → Machine S → Machine S
after_seal t m = record m {
  hart = record m.hart { epoch = next_epoch m.hart.epoch };
  scheme = t;
  marks = record m.marks { sealed = Some (mark m.hart.epoch.number m.hart.cpu.count) };
  consoles = record m.consoles { sealed = m.hart.cpu.console_len };
  ends = not (is_running m.hart.cpu.status);
  spent = 0;
  lap = 0;
  idle = m.hart.epoch.retired == 0;
}

-- the phase after a step of the engine: with a commit the checkpoint is the committed one, and the machine may halt
abbrev pub phase_after : EngineStep → Bool → Phase → Phase
phase_after (Committed epoch) ends phase = if ends then Halt else Run
phase_after step ends phase = phase

abbrev pub consoles_after : EngineStep → Lengths → Lengths
consoles_after (Committed epoch) l = record l { done = l.sealed }
consoles_after step l = l

abbrev pub after_engine : {S : Type 0} → EngineStep → S → Machine S → Machine S
after_engine step t m = record m {
  scheme = t;
  phase = phase_after step m.ends m.phase;
  marks = marks_after step m.marks;
  consoles = consoles_after step m.consoles;
  spent = m.spent + 1;
}

-- the machine after the boot's last step: the hart begins after the checkpoint of this epoch
abbrev pub running_from : {S : Type 0} → CpuState → ℕ → S → Machine S → Machine S
running_from cpu epoch t m = record m {
  hart = new_hart m.hart.geometry cpu (epoch + 1);
  scheme = t;
  phase = if is_running cpu.status then Run else Halt;
  marks = only (mark epoch cpu.count);
  consoles = record { done = cpu.console_len; sealed = 0 };
  begun = None;
  last = None;
}

abbrev pub after_boot : {S : Type 0} → Origin → BootStep → S → Machine S → Machine S
after_boot o GoesOn t m = record m { scheme = t }
after_boot o Loaded t m = running_from (cpu_of o.start) 0 t m
after_boot o (Restarted cpu epoch) t m = running_from cpu epoch t m
after_boot o (Refused bad) t m = record m { scheme = t }
