use Rattle.observe.proofs.totals.engine_cycles.Goals as goal

pub returns : goal.returns
returns c = λ seen h.
    let c0 = c.of-copied.ensures seen h in
    let p1 = c.of-page.ensures seen h in
    let s2 = c.of-state.ensures seen h in
    let t3 = c.of-table.ensures seen h in
    let b4 = c.of-barrier.ensures seen h in
    let c5 = c.of-commit.ensures seen h in
    let c6 = c.of-committed.ensures seen h in
    cc
