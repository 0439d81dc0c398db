use Rattle.std.proofs.Common.{◌*◌, sym, ◌∙◌, ap, subst}
use Rattle.thy_block.specs.declared.parameters.Parameters.{Parameters}
use Rattle.thy_layout.specs.Commit.{epoch_of}
use Rattle.thy_layout.specs.Files.{blocks_of}
use Rattle.thy_computer.specs.Safe.{ceiling}
use Rattle.thy_images.specs.ShadowPlaces.{slot_blocks}
use Rattle.thy_images.specs.ShadowSlots.{IsMap, table_in}
use Rattle.thy_images.proofs.ShadowSlotLemmas.{faultless_map}
use Rattle.thy_schemes.proofs.ShadowFillLemmas.{lists_on}
use Rattle.thy_schemes.proofs.shadow.fills.RelistFills.list.Goals as goal

pub list-requires-clause-slot : goal.list-requires-clause-slot
list-requires-clause-slot c = c.requires.slot ∙ ap (λ (p : Parameters). 64 * slot_blocks p) (sym c.requires.geometry)

pub list-requires-clause-map : goal.list-requires-clause-map
list-requires-clause-map c =
    subst (λ (p : Parameters). IsMap p (table_in p (blocks_of c.args.slot.now))) (sym c.requires.geometry)
    (faultless_map c.args.geometry.now ceiling (epoch_of c.args.commit.now) (blocks_of c.args.slot.now) c.requires.fits)

pub list-requires-clause-free : goal.list-requires-clause-free
list-requires-clause-free c = c.requires.fresh.unframed.free

pub list-requires-clause-unbegun : goal.list-requires-clause-unbegun
list-requires-clause-unbegun c = c.requires.fresh.unframed.unbegun

pub returns : goal.returns
returns c =
    lists_on c.args.commit.now (blocks_of c.args.slot.now) c.args.control.now c.list.new.self c.requires.fresh
    c.recall_sound.ensures c.list.ensures.map c.list.ensures.same
