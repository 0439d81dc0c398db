use Rattle.std.proofs.Common.{rules, length, sym, ap, ◌∙◌}
use Rattle.thy_block.proofs.DeviceLemmas.{length-applied, length-landed}
use Rattle.thy_dram.specs.Held.{device_of}
use Rattle.thy_nvm.proofs.mem_nvm.MemNvm.barrier_unless.Goals as goal

pub invariant_of-self : goal.invariant_of-self
invariant_of-self c =
    c.self.invariant
    ∙ sym (length-applied c.self.inside.ring.image c.self.inside.ring.queue)
    ∙ ap (λ r. length r.image) (sym c.settle.ensures)

pub invariant_of-self-in-Some-Late : goal.invariant_of-self-in-Some-Late
invariant_of-self-in-Some-Late c =
    c.self-in-Some-Late.invariant
    ∙ sym (length-landed _ (device_of c.self-in-Some-Late.inside.ring))
    ∙ ap (λ r. length r.image) (sym c.settle_half.ensures)

pub returns-in-None-clause-leaves : goal.returns-in-None-clause-leaves
returns-in-None-clause-leaves c = search rules
