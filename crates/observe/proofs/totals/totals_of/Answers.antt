use Rattle.observe.proofs.totals.totals_of.Goals as goal

pub returns : goal.returns
returns c = λ seen h.
    let a = c.cycles-cycles.ensures seen h in
    let b = c.of-boot.ensures seen h in
    let n = c.of-nvm_drains.ensures seen h in
    let d = c.of-dram_drains.ensures seen h in
    let x = c.hart_cycles-hart.ensures seen h in
    let y = c.engine_cycles-engine.ensures seen h in
    let w = c.waiting-waiting.ensures seen h in
    let s = c.shares-shares.ensures seen h in
    cc
