use Rattle.std.proofs.Common.{◌≡◌, ◌+◌, ◌-◌, ◌*◌, ◌++◌, ◌∙◌, slice_index_or, take, drop, refl, sym, ap, arith}
use Rattle.thy_block.proofs.FlatLemmas.{flat-nil}
use Rattle.thy_layout.proofs.FileLemmas.{length-blocks_of}
use Rattle.thy_layout.proofs.ReaderLemmas.{gathered_more}
use Rattle.thy_layout.proofs.restored.gathered.Goals as goal

pub loop-k-init : goal.loop-k-init
loop-k-init c = c.in_ok-bytes.ensures.items ∙ sym flat-nil

pub loop-k-preserved : goal.loop-k-preserved
loop-k-preserved c =
    let number = slice_index_or c.args.places.now (c.args.first + c.loop-k.k) 0 in
    let width : 64 * number + 64 - 64 * number ≡ 64 = omega arith in
    gathered_more c.args.image.now c.args.places.now c.args.first c.loop-k.k c.args.count
    c.loop-k.bytes.items c.extend_from_slice.new.self.items number c.requires.places c.requires.inside c.loop-k-test.true refl
    c.loop-k.invariant
    (c.in_ok-extend_from_slice.ensures.items ∙ ap (λ n. c.loop-k.bytes.items ++ take n (drop (64 * number) c.args.image.now)) width)

pub overflow_mul-at : goal.overflow_mul-at
overflow_mul-at c =
    let there = c.requires.places.each (c.args.first + c.loop-k.k) (omega arith) in
    omega (arith, there, length-blocks_of c.args.image.now)

pub overflow_add-at-in-loop-k : goal.overflow_add-at-in-loop-k
overflow_add-at-in-loop-k c =
    let there = c.requires.places.each (c.args.first + c.loop-k.k) (omega arith) in
    omega (arith, there, length-blocks_of c.args.image.now)

pub slice_bounds-extend_from_slice-end : goal.slice_bounds-extend_from_slice-end
slice_bounds-extend_from_slice-end c =
    let there = c.requires.places.each (c.args.first + c.loop-k.k) (omega arith) in
    omega (arith, there, length-blocks_of c.args.image.now)
