use Rattle.std.proofs.Common.{◌∙◌}
use Rattle.thy_nvm.proofs.KeptLemmas.{block_at-kept}
use Rattle.thy_nvm.proofs.kept.Kept.block.Goals as goal

pub block_of-requires : goal.block_of-requires
block_of-requires c =
    rw c.deref.ensures.value
    (block_at-kept c.self.inside.size c.self.inside.blocks.items c.self.inside.picks.items c.self.inside.room c.args.self.now c.args.i
    c.args.at c.self.view_is c.self.invariant.whole c.requires.image c.requires.place).0

pub returns : goal.returns
returns c =
    c.block_of.ensures
    ∙ rw c.deref.ensures.value
    (block_at-kept c.self.inside.size c.self.inside.blocks.items c.self.inside.picks.items c.self.inside.room c.args.self.now c.args.i
    c.args.at c.self.view_is c.self.invariant.whole c.requires.image c.requires.place).1
