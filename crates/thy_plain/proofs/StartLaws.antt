-- What holds of the state at which a program starts: it has 32 registers, register 0 is 0, and it can be stored.
use Rattle.std.proofs.Common.{◌≡◌, ◌-◌, ◌==◌, ℕ, Bool, true, false, if◌then◌else◌, length, replicate, slice_index, Some, None, refl, ap, arith, lit<}
use Rattle.std.specs.List.{All}
use Rattle.std.proofs.lemmas.List.Elements.{All-set, All-nil, All-replicate}
use Rattle.thy_block.specs.declared.parameters.Parameters.{Parameters}
use Rattle.thy_block.specs.Geometry.{stack_top}
use Rattle.thy_elf.specs.Image.{Contents}
use Rattle.thy_isa.specs.declared.state.OtherHart.{OtherHart}
use Rattle.thy_isa.specs.Regs.{regs_with}
use Rattle.thy_isa.specs.Storable.{IsNumber, IsByte, IsOther, IsOtherOf, IsStorable}
use Rattle.thy_plain.specs.Start.{start_regs, second_regs, second_hart, start_other, start_state}

-- what an image says fits a machine of 64 bits
pub record Fits (image : Contents) : Type 0 where
  pub entry : IsNumber image.entry
  pub floor : IsNumber image.floor
  pub bytes : All IsByte image.memory

pub length-start_regs : (p : Parameters) → length (start_regs p) ≡ 32
unfolding start_regs
length-start_regs p = refl

pub start_regs-zero : (p : Parameters) → slice_index (start_regs p) 0 ≡ 0
unfolding start_regs
start_regs-zero p = refl

pub start_regs-numbers : (p : Parameters) → IsNumber (stack_top p) → All IsNumber (start_regs p)
unfolding start_regs
start_regs-numbers p top = All-set IsNumber (replicate 32 0) 2 (stack_top p) top (All-replicate IsNumber 32 0 (omega arith))

-- ---- hart 1

length-second_regs : (p : Parameters) → length (second_regs p) ≡ 32
unfolding second_regs
length-second_regs p = refl

second_regs-zero : (p : Parameters) → slice_index (second_regs p) 0 ≡ 0
unfolding second_regs
second_regs-zero p = refl

second_regs-numbers : (p : Parameters) → IsNumber (stack_top p) → All IsNumber (second_regs p)
unfolding second_regs
second_regs-numbers p top =
    All-set IsNumber (regs_with (replicate 32 0) 2 (stack_top p - 2048)) 10 1 (lit< tt)
    (All-set IsNumber (replicate 32 0) 2 (stack_top p - 2048) (omega (arith, top)) (All-replicate IsNumber 32 0 (omega arith)))

second_hart-is : (p : Parameters) (entry : ℕ) → IsNumber (stack_top p) → IsNumber entry → IsOther (second_hart p entry)
second_hart-is p entry top h = record {
  pc = h;
  registers = length-second_regs p;
  numbers = second_regs-numbers p top;
  zero_register = second_regs-zero p;
  front = lit< tt;
  back = lit< tt;
}

if_other : (b : Bool) (o : OtherHart) → IsOther o → IsOtherOf (if b then Some o else None)
if_other true o h = h
if_other false o h = tt

-- with one hart the start has no other hart
pub start_other-alone : (p : Parameters) (entry : ℕ) → p.harts ≡ 1 → start_other p entry ≡ None
start_other-alone p entry one = ap (λ n. if n == 2 then Some (second_hart p entry) else None) one

-- the start can be stored
pub start_state-storable : (p : Parameters) (image : Contents) → IsNumber (stack_top p) → Fits image
    → IsStorable (length image.memory) (start_state p image)
start_state-storable p image top f = record {
  pc = f.entry;
  registers = length-start_regs p;
  numbers = start_regs-numbers p top;
  zero_register = start_regs-zero p;
  memory_size = refl;
  memory = f.bytes;
  console = All-nil IsByte;
  cursor = omega arith;
  brk = f.floor;
  floor = f.floor;
  status = tt;
  other = if_other (p.harts == 2) (second_hart p image.entry) (second_hart-is p image.entry top f.entry);
}
