use Rattle.std.proofs.Common.{◌<◌, ◌++◌, length, ap, sym, ◌∙◌, arith}
use Rattle.thy_nvm.specs.Kept.{cuts_in, with_cut}
use Rattle.thy_nvm.proofs.KeptLemmas.{room_to_keep, space_to_keep, whole-with_cut, cuts_in-with_cut}
use Rattle.thy_nvm.proofs.kept.Kept.keep.Goals as goal

pub add_blocks-requires : goal.add_blocks-requires
add_blocks-requires c =
    let counted : length c.self.inside.picks.items < c.self.inside.room
    = room_to_keep c.self.inside.size c.self.inside.blocks.items c.self.inside.picks.items c.self.inside.room c.args.self.now
    c.self.view_is c.requires.room in
    omega (
      arith,
      space_to_keep c.self.inside.size (length c.self.inside.picks.items) c.self.inside.room _ c.self.invariant.blocks_fit counted,
      c.self.invariant.whole,
      c.self.inside.blocks.ok.0,
      c.requires.size,
      ap (λ cuts. cuts.size) c.self.view_is,
    )

pub add_pick-requires : goal.add_pick-requires
add_pick-requires c =
    let counted : length c.self.inside.picks.items < c.self.inside.room
    = room_to_keep c.self.inside.size c.self.inside.blocks.items c.self.inside.picks.items c.self.inside.room c.args.self.now
    c.self.view_is c.requires.room in
    omega (arith, c.self.invariant.picks_fit, c.self.inside.picks.ok.0)

pub invariant_of-self : goal.invariant_of-self
invariant_of-self c = record {
  whole =
      rw (c.add_blocks.ensures.items, c.add_pick.ensures.items)
      (whole-with_cut c.self.inside.size c.self.inside.blocks.items c.args.image.now c.self.inside.picks.items c.args.pick c.self.invariant.whole
      (c.requires.size ∙ sym (ap (λ cuts. cuts.size) c.self.view_is)));
  blocks_fit = omega (arith, c.self.invariant.blocks_fit, c.add_blocks.ensures.space);
  picks_fit = omega (arith, c.self.invariant.picks_fit, c.add_pick.ensures.space);
}

pub returns : goal.returns
returns c =
    ap (λ blocks. cuts_in c.self.inside.size blocks c.add_pick.new.picks.items c.self.inside.room) c.add_blocks.ensures.items
    ∙ ap (λ picks. cuts_in c.self.inside.size (c.self.inside.blocks.items ++ c.args.image.now) picks c.self.inside.room) c.add_pick.ensures.items
    ∙ cuts_in-with_cut c.self.inside.size c.self.inside.blocks.items c.args.image.now c.self.inside.picks.items c.args.pick c.self.inside.room
    c.self.invariant.whole (c.requires.size ∙ sym (ap (λ cuts. cuts.size) c.self.view_is))
    ∙ ap (λ cuts. with_cut cuts c.args.pick c.args.image.now) c.self.view_is
