-- What a word that is kept means.
use Rattle.std.specs.Prelude.{ℕ, Option, Some}
use Rattle.thy_isa.specs.declared.instr.Alu.TheVariants.{Add, Sub, Sll, Xor, Srl, Or, And}
use Rattle.thy_isa.specs.declared.instr.Instr.{Instr}
use Rattle.thy_isa.specs.declared.instr.Instr.TheVariants.{Lui as LuiOf, Auipc as AuipcOf, Jal as JalOf, Jalr as JalrOf, Branch as BranchOf, Load as LoadOf, Store as StoreOf, OpImm as OpImmOf, Op as OpOf}
use Rattle.thy_isa.specs.Table.{instr_of}
use Rattle.thy_isa.specs.declared.decoded.found.Found.{Found}
use Rattle.thy_isa.specs.declared.decoded.found.Found.TheVariants.{AddImm, SllImm, XorImm, SrlImm, OrImm, AndImm, OpImm, Add as AddRegs, Sub as SubRegs, Sll as SllRegs, Xor as XorRegs, Srl as SrlRegs, Or as OrRegs, And as AndRegs, Op, Load, Store, Branch, Lui, Auipc, Jal, Jalr, Other}

-- a word, and what is kept of it
pub record Kept : Type 0 where
  pub word : ℕ
  pub found : Found

-- the instruction of a word of which this is kept
unfoldable pub instr_by : ℕ → Found → Option Instr
instr_by word (AddImm rd rs1 imm) = Some (OpImmOf Add rd rs1 imm)
instr_by word (SllImm rd rs1 imm) = Some (OpImmOf Sll rd rs1 imm)
instr_by word (XorImm rd rs1 imm) = Some (OpImmOf Xor rd rs1 imm)
instr_by word (SrlImm rd rs1 imm) = Some (OpImmOf Srl rd rs1 imm)
instr_by word (OrImm rd rs1 imm) = Some (OpImmOf Or rd rs1 imm)
instr_by word (AndImm rd rs1 imm) = Some (OpImmOf And rd rs1 imm)
instr_by word (OpImm op rd rs1 imm) = Some (OpImmOf op rd rs1 imm)
instr_by word (AddRegs rd rs1 rs2) = Some (OpOf Add rd rs1 rs2)
instr_by word (SubRegs rd rs1 rs2) = Some (OpOf Sub rd rs1 rs2)
instr_by word (SllRegs rd rs1 rs2) = Some (OpOf Sll rd rs1 rs2)
instr_by word (XorRegs rd rs1 rs2) = Some (OpOf Xor rd rs1 rs2)
instr_by word (SrlRegs rd rs1 rs2) = Some (OpOf Srl rd rs1 rs2)
instr_by word (OrRegs rd rs1 rs2) = Some (OpOf Or rd rs1 rs2)
instr_by word (AndRegs rd rs1 rs2) = Some (OpOf And rd rs1 rs2)
instr_by word (Op op rd rs1 rs2) = Some (OpOf op rd rs1 rs2)
instr_by word (Load width extend rd rs1 imm) = Some (LoadOf width extend rd rs1 imm)
instr_by word (Store width rs1 rs2 imm) = Some (StoreOf width rs1 rs2 imm)
instr_by word (Branch cond rs1 rs2 imm) = Some (BranchOf cond rs1 rs2 imm)
instr_by word (Lui rd imm) = Some (LuiOf rd imm)
instr_by word (Auipc rd imm) = Some (AuipcOf rd imm)
instr_by word (Jal rd imm) = Some (JalOf rd imm)
instr_by word (Jalr rd rs1 imm) = Some (JalrOf rd rs1 imm)
instr_by word Other = instr_of word
