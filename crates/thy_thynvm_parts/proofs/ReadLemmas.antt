-- What is read of every block over a device that reads the same at memory's places.
use Rattle.std.proofs.Common.{◌≡◌, ℕ, ◌<◌, map, ◌∙◌, ap, Bool, true, false, if◌then◌else◌, refl, sym, arith}
use Rattle.std.specs.List.{range_with_len}
use Rattle.thy_block.specs.declared.block.Block.{Block}
use Rattle.thy_block.specs.declared.parameters.Parameters.{Parameters}
use Rattle.thy_block.specs.Geometry.{memory_blocks}
use Rattle.thy_block.proofs.DeviceLemmas.{map-agree, newest-written_to_other}
use Rattle.thy_block.specs.Device.{Device, block_at, newest, written_to}
use Rattle.thy_table.specs.declared.place.Place.{Place}
use Rattle.thy_table.specs.Places.{IsPlace, in_dram, number_of, blocks_one, IsApart}
use Rattle.thy_table.proofs.PlaceLemmas.{between_slots}
use Rattle.thy_table.specs.declared.cell.Cell.{Cell}
use Rattle.thy_table.specs.Cells.{seat_of, frame_at, penult, target, last, work}
use Rattle.thy_control.specs.State.{State, AreSoundTables, IsSized, cell_of, reads, penult_of, last_of, work_of}
use Rattle.thy_control.specs.Stays.{HoldAll}
use Rattle.thy_control.proofs.StateLemmas.{IsPlace-penult, IsPlace-target, IsPlace-last, IsPlace-work, IsWithin-cell_of}
use Rattle.thy_control.proofs.KeepLemmas.{apart_place, IsPlace-frame_of}
use Rattle.thy_control.proofs.StepLemmas.{KeepsEach, Keeps-untouched, checkpoints-each, work-each, holds-each}
use Rattle.thy_scheme_parts.specs.Moments.{ReadsSame}

-- two functions that agree on each block of memory make the same list of blocks, by two states of one geometry too
pub blocks-agree : (f g : ℕ → Block) (p q : Parameters) → q ≡ p → ((b : ℕ) → b < memory_blocks p → f b ≡ g b)
    → map f (range_with_len 0 (memory_blocks q)) ≡ map g (range_with_len 0 (memory_blocks p))
blocks-agree f g p q same agree =
    ap (λ (r : Parameters). map f (range_with_len 0 (memory_blocks r))) same ∙ map-agree f g (memory_blocks p) agree

-- both checkpoints have every block as before, and a load gives it; the places hold what they have to
pub record KeepsVersions (s : State) (n : Device) (t : State) (m : Device) : Type 0 where
  pub penult_same : (b : ℕ) → b < memory_blocks s.p → penult_of t m b ≡ penult_of s n b
  pub last_same : (b : ℕ) → b < memory_blocks s.p → last_of t m b ≡ last_of s n b
  pub work_same : (b : ℕ) → b < memory_blocks s.p → work_of t m b ≡ work_of s n b
  pub holds : HoldAll t m

-- every place reads as before
abbrev pub ReadsAll : State → Device → Device → Type 0
ReadsAll s n m = (x : Place) → IsPlace s.p x → reads s m x ≡ reads s n x

read_by : (side : Bool) (a b c : Block) → (side ≡ false → b ≡ c) → (if side then a else b) ≡ (if side then a else c)
read_by true a b c h = refl
read_by false a b c h = h refl

-- every block is kept if every place reads as before
keeps_each : (s : State) (n m : Device) → AreSoundTables s → ReadsAll s n m → KeepsEach s n s m
keeps_each s n m t same b l =
    let c : Cell = cell_of s b in
    let w = IsWithin-cell_of s b t l in
    Keeps-untouched s.under_way (reads s n) (reads s m) b c (t.cells b l) (record {
      penult_same = same (penult c) (IsPlace-penult s.p c w);
      target_same = same (target c) (IsPlace-target s.p c w);
      last_same = same (last c) (IsPlace-last s.p c w);
      work_same = same (work c) (IsPlace-work s.p c w);
      frame_same = λ listed. same (frame_at (seat_of c)) (IsPlace-frame_of s b t l);
    })

versions_read : (s : State) (n m : Device) → AreSoundTables s → HoldAll s n → ReadsAll s n m → KeepsVersions s n s m
versions_read s n m t hold same =
    let each : KeepsEach s n s m = keeps_each s n m t same in
    let checkpoints = checkpoints-each s n s m each in
    record {
      penult_same = checkpoints.penult_same;
      last_same = checkpoints.last_same;
      work_same = (work-each s n s m each).work_same;
      holds = holds-each s n s m refl each hold;
    }

-- a write apart from memory's places keeps the versions
pub versions_apart : (s : State) (n : Device) (x : ℕ) (block : Block) → AreSoundTables s → IsSized s n → HoldAll s n → IsApart s.p x
    → KeepsVersions s n s (written_to n x block)
versions_apart s n x block t sized hold apart = versions_read s n (written_to n x block) t hold (λ y there.
    read_by (in_dram y) (block_at s.dram.blocks (number_of s.p y)) (newest (written_to n x block) (number_of s.p y))
    (newest n (number_of s.p y)) (λ side.
    let before : number_of s.p y < blocks_one s.p = (between_slots s.p y there side).1 in
    newest-written_to_other n x block (number_of s.p y) (λ e. apart_place s.p y x there side apart (sym e)) (omega (arith, before, sized.nvm))))

-- over a device that gives the same to every read
pub versions_same : (s : State) (n m : Device) → AreSoundTables s → IsSized s n → HoldAll s n → ReadsSame n m → KeepsVersions s n s m
versions_same s n m t sized hold r = versions_read s n m t hold (λ y there.
    read_by (in_dram y) (block_at s.dram.blocks (number_of s.p y)) (newest m (number_of s.p y)) (newest n (number_of s.p y)) (λ side.
    let before : number_of s.p y < blocks_one s.p = (between_slots s.p y there side).1 in
    r.reads (number_of s.p y) (omega (arith, before, sized.nvm))))
