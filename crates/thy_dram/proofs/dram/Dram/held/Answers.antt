use Rattle.std.proofs.Common.{◌≡◌, true, false, sym, ◌∙◌, ap, arith}
use Rattle.std.proofs.lemmas.List.{get_or_read}
use Rattle.thy_block.specs.Device.{block_at}
use Rattle.thy_dram.specs.Merged.{is_marked}
use Rattle.thy_dram.proofs.DramLemmas.{within, read-marked}
use Rattle.thy_dram.proofs.dram.Dram.held.Goals as goal

pub index-requires : goal.index-requires
index-requires c =
    omega (
      arith,
      (within c.self.inside.ring c.self.inside.marks.items c.self.inside.pick c.args.at c.args.self.now c.self.view_is c.self.invariant.marked c.requires).0,
      c.self.inside.marks.ok.0,
    )

pub newest-requires : goal.newest-requires
newest-requires c =
    (within c.self.inside.ring c.self.inside.marks.items c.self.inside.pick c.args.at c.args.self.now c.self.view_is c.self.invariant.marked c.requires).1

pub returns-then-index : goal.returns-then-index
returns-then-index c =
    let inside = within c.self.inside.ring c.self.inside.marks.items c.self.inside.pick c.args.at c.args.self.now c.self.view_is
    c.self.invariant.marked c.requires in
    let marked : is_marked c.self.inside.marks.items c.args.at ≡ true
    = sym (get_or_read c.self.inside.marks.items c.args.at c.index.result.now inside.0 c.index.ensures false) ∙ c.if-index.true in
    c.newest.ensures
    ∙ read-marked c.self.inside.ring c.self.inside.marks.items c.self.inside.pick c.args.at c.self.invariant.marked inside.1 marked
    ∙ ap (λ d. block_at d.blocks c.args.at) c.self.view_is
