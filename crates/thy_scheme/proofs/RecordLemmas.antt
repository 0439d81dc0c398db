-- The console of a state that a processor and the blocks of memory make, and what blocks of a slot leave of the marks.
use Rattle.std.proofs.Common.{◌≡◌, ◌≤◌, List, length, refl, inr, arith, Bool, true, false, if◌then◌else◌}
use Rattle.thy_block.specs.declared.block.Block.{Block}
use Rattle.thy_block.specs.declared.parameters.Parameters.{Parameters}
use Rattle.thy_block.specs.Geometry.{IsInRange, memory_blocks, console_room}
use Rattle.thy_block.specs.Device.{Device}
use Rattle.thy_block.proofs.MemoryLaws.{length-console_bytes}
use Rattle.thy_isa.specs.declared.state.CpuState.{CpuState}
use Rattle.thy_isa.specs.OnBlocks.{state_from}
use Rattle.thy_layout.specs.declared.engine_step.EngineStep.TheVariants.{StateBlock, TableBlock}
use Rattle.thy_scheme.specs.Scheme.{SchemeOf}
use Rattle.thy_scheme.specs.Calls.{Keeps, IsDue}
use Rattle.thy_scheme.specs.CheckpointMarks.{CheckpointMarks, marks_after}

-- the console of a state is as long as the processor counts
pub state-console : (p : Parameters) (cpu : CpuState) (memory : List Block) → IsInRange p → length memory ≡ memory_blocks p
    → cpu.console_len ≤ console_room p → length (state_from p cpu memory).console ≡ cpu.console_len
unfolding state_from
state-console p cpu memory range whole room = length-console_bytes p memory cpu.console_len range whole room

-- a call that changes nothing keeps all
pub Keeps-same : {S : Type 0} (K : SchemeOf S) (s : S) (n : Device) → Keeps K s n s n
Keeps-same K s n = record {
  held = record { blocks = refl; free = omega arith; opened = inr refl };
  left = record { owed = omega arith; engine = omega arith; merges = omega arith; promotions = omega arith };
  whole = λ e. e;
  storeless = refl;
  sealed_storeless = refl;
}

-- a block of the record and one of the tables may be written at any time
pub due-slot : (k : CheckpointMarks) (record_block : Bool) → IsDue (if record_block then StateBlock else TableBlock) k
due-slot k true = tt
due-slot k false = tt

-- blocks of the record and of the tables leave the marks as they were
pub marks-slot : (k : CheckpointMarks) (record_block : Bool) → marks_after (if record_block then StateBlock else TableBlock) k ≡ k
marks-slot k true = refl
marks-slot k false = refl
