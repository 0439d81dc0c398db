use Rattle.std.proofs.Common.{◌≡◌, ◌<◌, ◌≤◌, true, false, [], length, drop, sym, ◌∙◌, ap, arith}
use Rattle.std.proofs.lemmas.List.{drop_all, get_or_default}
use Rattle.thy_block.specs.Device.{zero_block, block_at}
use Rattle.thy_sweep.specs.Choices.{index_of}
use Rattle.thy_sweep.specs.Images.{is_same_block}
use Rattle.thy_sweep.proofs.ChoiceLemmas.{index-at}
use Rattle.thy_sweep.proofs.choices.index_of.Goals as goal

pub returns-then-is_same_block : goal.returns-then-is_same_block
returns-then-is_same_block c =
    let l = c.loop-i in
    let blocks = c.args.blocks.now in
    let b = c.args.block.now in
    let inside : l.i < length blocks = omega (arith, c.loop-i-test.true) in
    let same : is_same_block (block_at blocks l.i) b ≡ true
    = ap (λ x. is_same_block x b) (get_or_default blocks l.i zero_block _ inside) ∙ sym c.is_same_block.ensures ∙ c.if-is_same_block.true in
    omega (arith, index-at blocks b l.i true inside same, l.invariant)

pub loop-i-preserved : goal.loop-i-preserved
loop-i-preserved c =
    let l = c.loop-i in
    let blocks = c.args.blocks.now in
    let b = c.args.block.now in
    let inside : l.i < length blocks = omega (arith, c.loop-i-test.true) in
    let other : is_same_block (block_at blocks l.i) b ≡ false
    = ap (λ x. is_same_block x b) (get_or_default blocks l.i zero_block _ inside) ∙ sym c.is_same_block.ensures ∙ c.if-is_same_block.false in
    omega (arith, index-at blocks b l.i false inside other, l.invariant)

pub returns : goal.returns
returns c =
    let l = c.loop-i in
    let blocks = c.args.blocks.now in
    let over : length blocks ≤ l.i = omega (arith, c.loop-i-test.false) in
    let none : index_of (drop l.i blocks) c.args.block.now ≡ 0 = ap (λ xs. index_of xs c.args.block.now) (drop_all l.i blocks over) in
    omega (arith, none, l.invariant, l.auto.i-end, c.loop-i-test.false)
