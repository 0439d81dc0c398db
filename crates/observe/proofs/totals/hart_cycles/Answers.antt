use Rattle.observe.proofs.totals.hart_cycles.Goals as goal

pub returns : goal.returns
returns c = λ seen h.
    let m0 = c.of-moved.ensures seen h in
    let r1 = c.of-retired.ensures seen h in
    let f2 = c.of-flushed.ensures seen h in
    let m3 = c.of-merged.ensures seen h in
    let p4 = c.of-promoted.ensures seen h in
    let s5 = c.of-sealed.ensures seen h in
    cc
