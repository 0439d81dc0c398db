use Rattle.std.proofs.Common.{ap, arith}
use Rattle.thy_isa.specs.Step.{state_of}
use Rattle.thy_layout.specs.Layout.{Layouts}
use Rattle.thy_checkpoint.proofs.LoadLemmas.{first-few}
use Rattle.thy_checkpoint.proofs.load.blocks_of_start.Goals as goal

pub overflow_add-result : goal.overflow_add-result
overflow_add-result g c =
    let same = ap (λ (layouts : Layouts). (layouts c.args.geometry.now).image_blocks) g.met.F.Fills.of_images in
    let few = first-few g.F.Fills.filling g.met.F.Fills.lawful c.args.geometry.now
    (state_of c.args.state.now) c.memory_blocks-range.ensures.in_range in
    omega (arith, few, same, c.blocks-few.ensures.blocks, c.blocks-few.ensures.few, c.blocks_of_memory.ensures, c.blocks_of_slot.ensures)

pub overflow_add-result-2 : goal.overflow_add-result-2
overflow_add-result-2 g c =
    let same = ap (λ (layouts : Layouts). (layouts c.args.geometry.now).image_blocks) g.met.F.Fills.of_images in
    let few = first-few g.F.Fills.filling g.met.F.Fills.lawful c.args.geometry.now
    (state_of c.args.state.now) c.memory_blocks-range.ensures.in_range in
    omega (arith, few, same, c.blocks-few.ensures.blocks, c.blocks-few.ensures.few, c.blocks_of_memory.ensures, c.blocks_of_slot.ensures)
