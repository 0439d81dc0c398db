use Rattle.std.proofs.Common.{true, slice_set, ◌∙◌, ap}
use Rattle.thy_dram.specs.Merged.{merged}
use Rattle.thy_nvm.proofs.OverLemmas.{merged-taken}
use Rattle.thy_nvm.proofs.over.take_up.Goals as goal

pub returns-clause-image : goal.returns-clause-image
returns-clause-image c =
    ap (λ r. merged (slice_set c.args.marks.now c.args.at true) r.image c.args.below.now) c.put.ensures
    ∙ merged-taken c.args.marks.now c.args.ring.now.image c.args.below.now c.args.at _ c.requires.blocks c.requires.as_many
    c.requires.place c.if-marks-at.false
