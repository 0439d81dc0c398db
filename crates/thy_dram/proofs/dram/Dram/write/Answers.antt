use Rattle.std.proofs.Common.{◌∙◌, ap, arith}
use Rattle.thy_dram.specs.Contents.{written}
use Rattle.thy_dram.proofs.DramLemmas.{contents_in-written, within}
use Rattle.thy_dram.proofs.dram.Dram.write.Goals as goal

pub index_mut-requires : goal.index_mut-requires
index_mut-requires c =
    omega (
      arith,
      (within c.self.inside.ring c.self.inside.marks.items c.self.inside.pick c.args.at c.args.self.now c.self.view_is c.self.invariant.marked c.requires).0,
      c.self.inside.marks.ok.0,
    )

pub write-requires : goal.write-requires
write-requires c = (within c.self.inside.ring c.self.inside.marks.items c.self.inside.pick c.args.at c.args.self.now c.self.view_is
    c.self.invariant.marked c.requires).1

pub returns : goal.returns
returns c =
    contents_in-written c.self.inside.ring c.write.new.self c.self.inside.marks.items c.self.inside.pick c.args.at
    c.args.block.now c.write.ensures.held
    c.self.invariant.some_room c.write.ensures.within c.self.invariant.marked
    (within c.self.inside.ring c.self.inside.marks.items c.self.inside.pick c.args.at c.args.self.now c.self.view_is c.self.invariant.marked c.requires).1
    ∙ ap (λ d. written d c.args.at c.args.block.now) c.self.view_is
