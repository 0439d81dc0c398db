-- What boots and cuts of the least memory leave.
use Rattle.std.proofs.Common.{◌≡◌, ℕ, ◌-◌, ◌*◌, ◌^◌, ◌<◌, false, inl, inr, replicate, slice_index, List, [], length, refl, sym, ◌∙◌, ap, subst, arith}
use Rattle.std.proofs.lemmas.Bool.{cases_lt}
use Rattle.std.proofs.lemmas.List.{length-replicate, get_or-replicate, get_or_past}
use Rattle.thy_block.specs.declared.parameters.Parameters.{Parameters}
use Rattle.thy_block.specs.Device.{Device, IsCut}
use Rattle.thy_block.specs.Geometry.{IsInRange, memory_blocks}
use Rattle.thy_table.specs.Places.{slot_blocks, image_blocks}
use Rattle.thy_block.specs.Places.{dram_blocks}
use Rattle.thy_block.proofs.BasicLemmas.{room-cut}
use Rattle.thy_control.specs.State.{State, AreSoundTables, new_state}
use Rattle.thy_dram.specs.Contents.{Contents, lost}
use Rattle.thy_dram.proofs.DrawLemmas.{length-over}
use Rattle.thy_isa.specs.Step.{State as Plain}
use Rattle.thy_checkpoint.specs.declared.boot_stage.Stage.{Stage}
use Rattle.thy_checkpoint.specs.declared.boot_stage.Stage.TheVariants.{Reads, Loads, Migrates, Over}
use Rattle.thy_checkpoint.specs.declared.boot_stage.ReadStage.TheVariants.{Unread, Header, Slot, Fills, Refusing}
use Rattle.thy_checkpoint.specs.declared.boot_stage.End.TheVariants.{Restored, Loaded}
use Rattle.thy_computer.specs.declared.round.Round.{Round}
use Rattle.thy_computer.specs.declared.round.Round.TheVariants.{Write, Settle, Commit, Confirm}
use Rattle.thy_computer.specs.Round.{round_action}
use Rattle.thy_checkpoint.specs.Boot.{Booting, answer_at, new_boot}
use Rattle.thy_checkpoint.specs.Filling.{first_by}
use Rattle.thy_checkpoint.specs.Loads.{first_writes}
use Rattle.thy_checkpoint.specs.Migrating.{migrated_by, renewing}
use Rattle.thy_checkpoint.specs.Recovers.{HasReadAt}
use Rattle.thy_checkpoint.specs.Steps.{Steps, StepsAt}
use Rattle.thy_checkpoint.proofs.ReadLemmas.{HasRead-new}
use Rattle.thy_isa.specs.declared.state.Status.{Status}
use Rattle.thy_layout.specs.Cpu.{status_tag, status_value, is_status, IsOtherRecordable}
use Rattle.thy_checkpoint.specs.Start.{CanStart}
use Rattle.thy_thynvm_parts.specs.Filling.{filling_thynvm}
use Rattle.thy_thynvm_parts.proofs.LiveLemmas.{IsFresh-new}
use Rattle.thy_control_tests.specs.Beside.{all}
use Rattle.thy_control_tests.specs.Boots.{Boots}
use Rattle.thy_test_support.specs.Starts.{IsLeastStart}
use Rattle.thy_control_tests.specs.Memory.{HasRoom}
use Rattle.thy_control_tests.specs.Starting.{Off, IsOff, starting, IsStarting, is_refused}
use Rattle.thy_computer.proofs.ActionLemmas.{down-after}

-- ---- steps

-- unless it refused, a boot that reads has a controller with no checkpoint under way
idle-at : (stage : Stage) (n : Device) (b : Booting) (c : State)
    → is_refused (answer_at filling_thynvm stage b) ≡ false → HasReadAt filling_thynvm stage n b c → c.under_way ≡ false
idle-at (Reads Unread) n b c reported read = read.fresh.booting.idle
idle-at (Reads Header) n b c reported read = read.0.fresh.booting.idle
idle-at (Reads (Slot next)) n b c reported read = read.0.fresh.booting.idle
idle-at (Reads (Fills k)) n b c reported read = read.0.lists.booting.idle
idle-at (Reads (Refusing bad)) n b c reported read = cc
idle-at (Loads r) n b c reported read = read.0.fresh.booting.idle
idle-at (Migrates r) n b c reported read = read.restored.listed.lists.booting.idle
idle-at (Over Restored) n b c reported read = read.restored.listed.lists.booting.idle
idle-at (Over Loaded) n b c reported read = absurd read

-- a step leaves the NVM up or down as it was, and the geometry
pub down-step : (s : Plain) (n : Device) (b : Booting) (c : State) (m : Device) (d : Booting) (e : State)
    → Steps filling_thynvm s n b c m d e → m.down ≡ n.down
down-step s n b c m d e steps = by_stage b.stage steps where
  by_stage : (q : Stage) → StepsAt filling_thynvm q s n b c m d e → m.down ≡ n.down
  by_stage (Reads r) on = ap (λ (x : Device). x.down) on.device
  by_stage (Loads r) on = down-after (round_action (first_writes (first_by filling_thynvm b.p s)) r) n m on.device
  by_stage (Migrates r) on = down-after (round_action (renewing filling_thynvm b) r) n m on.device
  by_stage (Over end) on = absurd on

same-migrated : (r : Round) (b : Booting) → (migrated_by filling_thynvm r b).p ≡ b.p
same-migrated (Write k) b = refl
same-migrated Settle b = refl
same-migrated Commit b = refl
same-migrated Confirm b = refl

pub same-step : (s : Plain) (n : Device) (b : Booting) (c : State) (m : Device) (d : Booting) (e : State)
    → Steps filling_thynvm s n b c m d e → d.p ≡ b.p
same-step s n b c m d e steps = by_stage b.stage steps where
  by_stage : (q : Stage) → StepsAt filling_thynvm q s n b c m d e → d.p ≡ b.p
  by_stage (Reads r) on = on.same_p
  by_stage (Loads r) on = ap (λ (x : Booting). x.p) on.boot
  by_stage (Migrates r) on = ap (λ (x : Booting). x.p) on.boot ∙ same-migrated r b
  by_stage (Over end) on = absurd on

-- ---- where it begins

abbrev pub off : Parameters → Contents → Device → ℕ → Off
off p dram n cuts = record { p = p; dram = dram; nvm = n; cuts = cuts }

-- a machine whose power comes on boots
pub Boots-new : (p : Parameters) (s : Plain) (dram : Contents) (n : Device) → CanStart p s → AreSoundTables (new_state p dram)
    → length n.image ≡ image_blocks p → n.queue ≡ [] → n.down ≡ false → Boots s n (new_boot filling_thynvm p) (new_state p dram)
Boots-new p s dram n start tables sized settled up = record {
  start = start;
  up = up;
  same_p = refl;
  fits = record { room = length-replicate (64 * slot_blocks p) 0; there = tt };
  may = HasRead-new filling_thynvm p n (new_state p dram) (record { tables = tables; fresh = IsFresh-new p dram }) refl sized settled;
}

pub Boots-of : (p : Parameters) (s : Plain) (dram : Contents) (n : Device) (b : Booting) (c : State) → CanStart p s → b ≡ new_boot filling_thynvm p
    → c ≡ new_state p dram → AreSoundTables c → length n.image ≡ image_blocks p → n.queue ≡ [] → n.down ≡ false → Boots s n b c
Boots-of p s dram n b c start b_is c_is tables sized settled up =
    subst (λ (x : Booting). Boots s n x c) (sym b_is)
    (subst (λ (x : State). Boots s n (new_boot filling_thynvm p) x) (sym c_is)
    (Boots-new p s dram n start (subst (λ (x : State). AreSoundTables x) c_is tables) sized settled up))

pub IsStarting-new : (p : Parameters) (s : Plain) (dram : Contents) (n : Device) (b : Booting) (c : State) (cuts : ℕ)
    → IsOff (off p dram n cuts) → CanStart p s → b ≡ new_boot filling_thynvm p → c ≡ new_state p dram → AreSoundTables c
    → IsStarting (starting p s b c n cuts)
IsStarting-new p s dram n b c cuts w start b_is c_is tables = record {
  boots = Boots-of p s dram n b c start b_is c_is tables w.sized w.settled w.up;
  same_p = ap (λ (x : Booting). x.p) b_is;
  blocks = w.blocks;
  sized = w.sized;
  idle = ap (λ (x : State). x.under_way) c_is;
  room = w.room;
}

-- the start of a test fits the least memory, and can be recorded
pub CanStart-least : (p : Parameters) (s : Plain) → IsInRange p → p.pages ≡ 8 → p.console ≡ 1 → p.harts ≡ 1 → IsLeastStart s → CanStart p s
CanStart-least p s range pages room one h = record {
  geometry = range;
  start = record {
    regs = ap length h.regs ∙ length-replicate {A = ℕ} 32 0;
    memory = (let size = h.memory in grind (arith, pages, room, size));
    console = (let size = h.console in grind (arith, room, size));
  };
  recordable = record {
    pc = (let e = h.pc in omega (arith, e));
    regs_length = ap length h.regs ∙ length-replicate {A = ℕ} 32 0;
    regs_zero = ap (λ (xs : List ℕ). slice_index xs 0) h.regs;
    regs = λ i. subst (λ (xs : List ℕ). slice_index xs i < 2 ^ 64) (sym h.regs) (zero_below i);
    console = (let size = h.console in grind (arith, room, size));
    cursor = (let e = h.cursor in omega (arith, e));
    brk = (let e = h.brk in omega (arith, e));
    floor = (let e = h.floor in omega (arith, e));
    count = (let e = h.count in omega (arith, e));
    status = ap (λ (x : Status). is_status (status_tag x) (status_value x)) h.status;
    other = subst (IsOtherRecordable p) (sym h.alone) (λ two. omega (arith, one, two));
  };
} where
  zero_below : (i : ℕ) → slice_index (replicate 32 0) i < 2 ^ 64
  zero_below i = elim (cases_lt i 32) as (λ _. slice_index (replicate 32 0) i < 2 ^ 64) [
    | inl inside ↦ let e : slice_index (replicate 32 0) i ≡ 0 = get_or-replicate 32 i 0 0 inside in omega (arith, e)
    | inr past ↦
        let size : length (replicate {A = ℕ} 32 0) ≡ 32 = length-replicate {A = ℕ} 32 0 in
        let e : slice_index (replicate 32 0) i ≡ 0 = get_or_past (replicate 32 0) i 0 (omega (arith, size, past)) in omega (arith, e)
  ]

-- ---- cuts

-- a cut leaves both devices with their sizes, and room for one cut less
pub IsOff-cut : (p : Parameters) (s : State) (m n : Device) (pick : ℕ) (dram : Contents) (cuts : ℕ)
    → AreSoundTables s → s.p ≡ p → memory_blocks p ≡ all → length m.image ≡ image_blocks p → HasRoom m cuts
    → IsCut pick m n → dram ≡ lost s.dram pick → 0 < cuts → IsOff (off p dram n (cuts - 1))
IsOff-cut p s m n pick dram cuts tables same blocks sized room cut is some = record {
  blocks = blocks;
  dram = ap (λ (x : Contents). length x.blocks) is ∙ length-over pick s.dram.blocks ∙ tables.dram_size ∙ ap dram_blocks same;
  sized = cut.crash.same_length ∙ sized;
  settled = ap (λ (x : Device). x.queue) cut.device;
  up = ap (λ (x : Device). x.down) cut.device;
  room = subst (λ (x : Device). HasRoom x (cuts - 1)) (sym cut.device) (room-cut m.left n.image m.left_room cuts room some);
}
