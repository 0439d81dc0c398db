use Rattle.thy_machine_tests.proofs.PoolLemmas.{AreParts-sealed}
use Rattle.thy_machine_tests.proofs.pool.parts.Parts.seal.Goals as goal

pub invariant_of-self : goal.invariant_of-self
invariant_of-self g c =
    AreParts-sealed c.self.inside.geometry c.self.inside.pool c.seal.new.self c.self.inside.engine c.begin.new.self c.self.inside.nvm.device
    c.self.inside.cuts c.args.epoch c.cpu_at.result c.self.invariant c.seal.ensures c.begin.ensures c.recall_sound.ensures
