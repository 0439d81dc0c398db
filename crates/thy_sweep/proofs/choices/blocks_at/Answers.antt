use Rattle.std.proofs.Common.{◌≡◌, ◌+◌, ◌<◌, [], ◌∷◌, ◌++◌, length, take, ◌∙◌, ap, sym, arith}
use Rattle.std.proofs.lemmas.List.{take_more}
use Rattle.thy_block.specs.declared.nvm.Write.{Write}
use Rattle.thy_block.specs.Device.{block_at}
use Rattle.thy_sweep.specs.Choices.{with_write}
use Rattle.thy_sweep.specs.Images.{choices_at}
use Rattle.thy_sweep.proofs.ChoiceLemmas.{choices-one}
use Rattle.thy_sweep.proofs.choices.blocks_at.Goals as goal

pub loop-i-init : goal.loop-i-init
loop-i-init c = c.in_ok-push.ensures.items ∙ ap (λ xs. xs ++ c.landed.result ∷ []) c.new-blocks.ensures.items ∙ ap (λ b. b ∷ []) c.landed.ensures

pub loop-i-preserved : goal.loop-i-preserved
loop-i-preserved c =
    let l = c.loop-i in
    let n = c.args.nvm.now.device in
    let at = c.args.at in
    let b = block_at n.image at in
    let w : Write = c.waiting-write.result in
    let within : l.i < length n.queue = omega (arith, c.loop-i-test.true, c.waits-i-end.ensures) in
    let one : take (l.i + 1) n.queue ≡ take l.i n.queue ++ w ∷ []
    = take_more n.queue l.i w within ∙ ap (λ v. take l.i n.queue ++ v ∷ []) (c.waiting-write.ensures.write w) in
    c.in_ok-list_write.ensures ∙ ap (with_write at w) l.invariant ∙ choices-one at b (take l.i n.queue) w ∙ ap (choices_at at b) (sym one)
