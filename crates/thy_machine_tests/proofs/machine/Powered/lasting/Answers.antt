use Rattle.std.proofs.Common.{◌≡◌, IfOk, OnOk, [], ◌∙◌, ap, subst}
use Rattle.thy_block.specs.declared.parameters.Parameters.{Parameters}
use Rattle.thy_block.specs.declared.nvm.Shape.{Shape}
use Rattle.thy_block.specs.Device.{Device, fitted}
use Rattle.thy_machine_tests.proofs.PoweredLemmas.{IsPowered-first}
use Rattle.thy_machine_tests.proofs.machine.Powered.lasting.Goals as goal

pub invariant_of-result : goal.invariant_of-result
invariant_of-result g c =
    let p : Parameters = c.expect-geometry.result in
    let same : p ≡ c.numbers_of.result = subst (λ r. IfOk r (λ geometry. geometry ≡ c.numbers_of.result)) c.expect-geometry.ensures c.geometry_of.ensures in
    let shape : Shape = record { blocks = c.nvm_blocks.result; queue = c.numbers.result.nvmq; cuts = c.args.cuts } in
    let before : Device = c.new_nvm-nvm.result.device in
    let n : Device = c.fit.new.self.device in
    IsPowered-first g.M.Computer.kind g.met.M.Computer.lawful p c.start_for-start.result c.expect-machine.result shape before n
    c.start_for-start.ensures.origin (ap (λ (q : Parameters). q.harts) same ∙ c.numbers_of.ensures.harts)
    c.start_for-start.ensures.made
    (subst (λ r. IfOk r (λ m. g.M.Computer.kind.powered p m)) c.expect-machine.ensures c.power_on.ensures.powered)
    c.nvm_blocks.ensures (subst (λ r. OnOk r (n ≡ fitted shape [] before)) c.expect.ensures
    (subst (λ xs. OnOk c.fit.result (n ≡ fitted shape xs before)) c.new.ensures.items c.fit.ensures.ok))
