use Rattle.std.proofs.Common.{◌≡◌, ◌%◌, ◌∙◌, ℕ, ap, arith}
use Rattle.thy_block.specs.declared.parameters.Parameters.{Parameters}
use Rattle.thy_block.proofs.RangeLemmas.{btt_eights}
use Rattle.thy_layout.specs.Files.{blocks_of}
use Rattle.thy_layout.specs.TableSlots.{table_of}
use Rattle.thy_images.proofs.journal.slot_faults.table_of.Goals as goal

pub table_behind-requires : goal.table_behind-requires
table_behind-requires c =
    let btt : c.numbers.result.btt ≡ c.args.geometry.now.btt = ap (λ (p : Parameters). p.btt) c.numbers.ensures.same in
    let eights : c.args.geometry.now.btt % 8 ≡ 0 = btt_eights c.args.geometry.now c.numbers.ensures.in_range in
    omega (arith, c.requires, btt, eights)

pub returns : goal.returns
returns c =
    c.table_behind.ensures
    ∙ ap (λ (n : ℕ). table_of c.args.geometry.now n (blocks_of c.args.slot.now)) (ap (λ (p : Parameters). p.btt) c.numbers.ensures.same)
