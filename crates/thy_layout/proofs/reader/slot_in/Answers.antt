use Rattle.std.proofs.Common.{◌*◌, ap, arith}
use Rattle.thy_layout.proofs.ReaderLemmas.{slot_in_file, slot-long, slot-slice}
use Rattle.thy_layout.proofs.reader.slot_in.Goals as goal

pub overflow_mul-first : goal.overflow_mul-first
overflow_mul-first g c =
    let inside = slot_in_file (g.L.ImageLayout.layouts c.args.geometry.now) c.args.image.now c.args.commit.now
    (c.recall_laws.ensures.slot c.args.geometry.now c.args.commit.now) c.requires.long c.requires.commit in
    omega (arith, inside, c.slot_place.ensures)

pub overflow_mul-size : goal.overflow_mul-size
overflow_mul-size g c =
    let inside = slot_in_file (g.L.ImageLayout.layouts c.args.geometry.now) c.args.image.now c.args.commit.now
    (c.recall_laws.ensures.slot c.args.geometry.now c.args.commit.now) c.requires.long c.requires.commit in
    omega (arith, inside, c.slot_blocks.ensures)

pub overflow_add-result : goal.overflow_add-result
overflow_add-result g c =
    let inside = slot_in_file (g.L.ImageLayout.layouts c.args.geometry.now) c.args.image.now c.args.commit.now
    (c.recall_laws.ensures.slot c.args.geometry.now c.args.commit.now) c.requires.long c.requires.commit in
    omega (arith, inside, c.slot_place.ensures, c.slot_blocks.ensures)

pub slice_bounds-result-end : goal.slice_bounds-result-end
slice_bounds-result-end g c =
    let inside = slot_in_file (g.L.ImageLayout.layouts c.args.geometry.now) c.args.image.now c.args.commit.now
    (c.recall_laws.ensures.slot c.args.geometry.now c.args.commit.now) c.requires.long c.requires.commit in
    omega (arith, inside, c.slot_place.ensures, c.slot_blocks.ensures)

pub returns-clause-length : goal.returns-clause-length
returns-clause-length g c =
    slot-long (g.L.ImageLayout.layouts c.args.geometry.now) c.args.image.now c.args.commit.now
    (c.recall_laws.ensures.slot c.args.geometry.now c.args.commit.now) c.requires.long c.requires.commit _ _
    (omega (arith, c.slot_blocks.ensures)) (ap (λ x. 64 * x) c.slot_place.ensures)

pub returns-clause-slot : goal.returns-clause-slot
returns-clause-slot g c =
    slot-slice (g.L.ImageLayout.layouts c.args.geometry.now) c.args.image.now c.args.commit.now
    (c.recall_laws.ensures.slot c.args.geometry.now c.args.commit.now) c.requires.long c.requires.commit _ _
    (omega (arith, c.slot_blocks.ensures)) (ap (λ x. 64 * x) c.slot_place.ensures)
