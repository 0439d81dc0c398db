use Rattle.std.proofs.Common.{subst, None, ap, ◌∙◌}
use Rattle.thy_block.specs.Bytes.{bytes_of}
use Rattle.thy_isa.specs.OnBlocks.{setting_for}
use Rattle.thy_isa.specs.Step.{state_of}
use Rattle.thy_observe.specs.Replaying.{AreCounts, Executed, listed_of}
use Rattle.thy_observe.proofs.ReplayLemmas.{listed-all}
use Rattle.thy_observe.proofs.replay.count_pcs.Goals as goal

pub returns-in-Ok : goal.returns-in-Ok
returns-in-Ok c = λ seen is.
    let p = c.args.geometry.now in
    let start = c.args.start.now in
    subst (λ (e : Executed). AreCounts c.in-Ok.replay.counts.entries e.pcs)
    (ap (listed_of p start None) is ∙ listed-all (setting_for p (bytes_of start.input)) (state_of start.state) seen)
    c.in-Ok.ensures.counts
