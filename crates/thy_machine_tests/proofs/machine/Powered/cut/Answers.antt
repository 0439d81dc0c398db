use Rattle.std.proofs.Common.{IfOk, subst, arith}
use Rattle.thy_machine_tests.proofs.PoweredLemmas.{IsPowered-cut}
use Rattle.thy_machine_tests.proofs.machine.Powered.cut.Goals as goal

pub invariant_of-result : goal.invariant_of-result
invariant_of-result g c =
    let before = c.self.inside in
    IsPowered-cut g.M.Computer.kind g.met.M.Computer.lawful before.geometry before.start before.machine c.expect-machine.result
    before.nvm.device c.cut.new.self.device before.cycles before.cuts c.args.pick c.self.invariant
    (subst (λ r. IfOk r (λ m. g.M.Computer.kind.powered before.geometry m)) c.expect-machine.ensures c.power_on.ensures.powered)
    c.cut.ensures.cut (omega arith)
