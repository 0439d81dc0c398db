use Rattle.std.proofs.Common.{◌≡◌, length, not, IfOk, sym, ◌∙◌, ap, subst, arith}
use Rattle.thy_block.specs.Device.{Device}
use Rattle.thy_control.specs.State.{State, IsSized, new_state}
use Rattle.thy_control.specs.Holding.{holding_of}
use Rattle.thy_control_tests.specs.Beside.{Takes, all}
use Rattle.thy_control_tests.proofs.controller.controller.Goals as goal

pub returns : goal.returns
returns g c =
    let n : Device = g.N.Nvm.device c.args.nvm.now in
    let s : State = new_state c.args.geometry.now c.expect-dram.result in
    let is : c.expect-control.result ≡ s = subst (λ r. IfOk r (λ control. control ≡ s)) c.expect-control.ensures c.new-2.ensures in
    let sized : IsSized s n = record { nvm = c.requires.sized } in
    let long : length (holding_of s n).blocks ≡ all = omega (arith, c.blocks_are_works.ensures.all s n sized c.requires.up, c.requires.least) in
    let ready = (c.a_new_controller_is_ready.ensures c.args.geometry.now c.expect-dram.result n).ready ∙ ap not c.requires.up in
    subst (λ (t : State). Takes (holding_of t n)) (sym is) (record { long = long; ready = ready })
