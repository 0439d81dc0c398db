use Rattle.std.proofs.Common.{◌≡◌, ℕ, IfOk, ap, subst}
use Rattle.thy_block.specs.declared.parameters.Parameters.{Parameters}
use Rattle.thy_dram.specs.Contents.{fresh}
use Rattle.thy_run.proofs.cycles.first_dram.Goals as goal

pub returns-clause-zeros : goal.returns-clause-zeros
returns-clause-zeros c =
    subst (λ (blocks : ℕ). IfOk c.new.result (λ d. d ≡ fresh blocks c.args.geometry.now.dramq)) c.dram_blocks.ensures.blocks
    (subst (λ (room : ℕ). IfOk c.new.result (λ d. d ≡ fresh c.dram_blocks.result room))
    (ap (λ (p : Parameters). p.dramq) c.numbers.ensures.same) c.new.ensures)
