use Rattle.std.proofs.Common.{◌≡◌, length, IfOk, ◌∙◌, ap, arith, subst}
use Rattle.thy_block.specs.declared.parameters.Parameters.{Parameters}
use Rattle.thy_block.specs.Device.{Device}
use Rattle.thy_table.specs.Places.{image_blocks}
use Rattle.thy_isa.specs.Step.{State as Plain, state_of}
use Rattle.thy_control_tests.proofs.StartingLemmas.{Boots-of, CanStart-least}
use Rattle.thy_control_tests.proofs.boot.boot.Goals as goal

pub steps-taken-requires-clause-boots : goal.steps-taken-requires-clause-boots
steps-taken-requires-clause-boots g c =
    let p : Parameters = c.expect-geometry.result in
    let same : p ≡ c.least.result = subst (λ r. IfOk r (λ geometry. geometry ≡ c.least.result)) c.expect-geometry.ensures c.geometry_of.ensures in
    let s : Plain = state_of c.start_of-start.result.state in
    let n : Device = g.N.Nvm.device c.args.nvm.now in
    let pages : p.pages ≡ 8 = ap (λ (q : Parameters). q.pages) same ∙ c.least.ensures.pages in
    let btt : p.btt ≡ 8 = ap (λ (q : Parameters). q.btt) same ∙ c.least.ensures.btt in
    let ptt : p.ptt ≡ 8 = ap (λ (q : Parameters). q.ptt) same ∙ c.least.ensures.ptt in
    let sized : length n.image ≡ image_blocks p = omega (arith, c.requires.ready.sized, pages, btt, ptt, c.has_least_memory.ensures.harts) in
    Boots-of p s c.controller-control.ensures.dram n c.new_boot-boot.result c.controller-control.result
    (CanStart-least p s c.has_least_memory.ensures.in_range c.has_least_memory.ensures.pages c.has_least_memory.ensures.console c.has_least_memory.ensures.harts c.start_of-start.ensures)
    c.new_boot-boot.ensures c.controller-control.ensures.is c.recall_tables.ensures sized c.requires.ready.settled c.requires.ready.up
