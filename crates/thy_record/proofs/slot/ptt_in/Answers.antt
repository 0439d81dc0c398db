use Rattle.std.proofs.Common.{◌≡◌, ◌+◌, ◌*◌, ◌%◌, ap, arith}
use Rattle.thy_block.specs.declared.parameters.Parameters.{Parameters}
use Rattle.thy_block.specs.Places.{record_blocks}
use Rattle.thy_layout.proofs.FileLemmas.{table_in-slice}
use Rattle.thy_record.proofs.slot.ptt_in.Goals as goal
use Rattle.thy_block.proofs.RangeLemmas.{btt_eights, ptt_eights}

pub returns : goal.returns
returns c =
    let btt : c.numbers-p.result.btt ≡ c.args.geometry.now.btt = ap (λ (p : Parameters). p.btt) c.numbers-p.ensures.same in
    let ptt : c.numbers-p.result.ptt ≡ c.args.geometry.now.ptt = ap (λ (p : Parameters). p.ptt) c.numbers-p.ensures.same in
    let btt8 : c.args.geometry.now.btt % 8 ≡ 0 = btt_eights c.args.geometry.now c.numbers-p.ensures.in_range in
    let ptt8 : c.args.geometry.now.ptt % 8 ≡ 0 = ptt_eights c.args.geometry.now c.numbers-p.ensures.in_range in
    table_in-slice c.args.slot.now _ _ (8 * record_blocks c.args.geometry.now + c.args.geometry.now.btt) c.args.geometry.now.ptt
    (omega arith) (omega (arith, c.record_size.ensures.size)) (omega (arith, c.requires))
